-- What a firing does to logs and to the tokens that arcs have held, and the dates of those tokens.
use Rattle.std.proofs.Common.{◌≡◌, ◌≢◌, ℕ, suc, ◌+◌, ◌-◌, ◌<◌, ◌≤◌, Bool, true, false, cond, eqb, ltb, List, [], ◌∷◌, ◌++◌, drop, replicate, map, length, get_or, set, add-zero, add-one, refl, sym, ap, ◌∙◌, arith, ⊎_elim, append_assoc, length-append}
use Rattle.std.proofs.lemmas.Bool.{eq-eqb, ne_eqb, cases_eq, cases_lt, cond-true, cond-false, lt-ltb, le-ltb}
use Rattle.std.proofs.lemmas.List.{get_or-set_same, get_or-set_other, get_or_append_left, get_or-append_right, get_or-replicate, get_or-map, length-replicate, length-map, map_push, drop-drop, drop-append-le}
use Rattle.line_base.specs.declared.event.Parts.{Parts}
use Rattle.event_graph.specs.Network.{arc, delay}
use Rattle.event_graph.specs.Table.{date_in}
use Rattle.event_graph.specs.Term.{token_date}
use Rattle.event_graph.specs.State.{State, log}
use Rattle.event_graph.specs.Firing.{new_date, after}
use Rattle.line_core.specs.Consistent.{all_tokens}

-- a list that gains an element, or doesn't
abbrev pub with_new : Bool → List ℕ → ℕ → List ℕ
with_new gains xs x = cond gains (xs ++ x ∷ []) xs

pub length-with_new : (gains : Bool) (xs : List ℕ) (x : ℕ) → length (with_new gains xs x) ≡ length xs + cond gains 1 0
length-with_new true xs x = length-append xs (x ∷ [])
length-with_new false xs x = sym (add-zero (length xs))

pub get_or-with_new : (gains : Bool) (xs : List ℕ) (x k : ℕ) → k < length xs → get_or (with_new gains xs x) k 0 ≡ get_or xs k 0
get_or-with_new true xs x k low = get_or_append_left xs (x ∷ []) 0 k low
get_or-with_new false xs x k low = refl

-- the logs are the same, but that the one of station t gains a date
abbrev pub LogGains : State → State → ℕ → ℕ → Type 0
LogGains old new t date = (u : ℕ) → log new u ≡ with_new (eqb u t) (log old u) date

-- a list of logs in which that of station t gains a date
pub log-set : (logs : List (List ℕ)) (t date u : ℕ) → t < length logs → get_or (set logs t (get_or logs t [] ++ date ∷ [])) u [] ≡ with_new (eqb u t) (get_or logs u []) date
log-set logs t date u there =
    let added = get_or logs t [] ++ date ∷ [] in
    let at_t : u ≡ t → get_or (set logs t added) u [] ≡ with_new (eqb u t) (get_or logs u []) date =
    λ same.
    ap (λ v. get_or (set logs t added) v []) same
    ∙ get_or-set_same logs t added [] there
    ∙ ap (λ v. get_or logs v [] ++ date ∷ []) (sym same)
    ∙ ap (λ b. with_new b (get_or logs u []) date) (sym (eq-eqb u t same)) in
    let elsewhere : u ≢ t → get_or (set logs t added) u [] ≡ with_new (eqb u t) (get_or logs u []) date =
    λ other.
    get_or-set_other logs t u added [] other
    ∙ ap (λ b. with_new b (get_or logs u []) date) (sym (ne_eqb u t other)) in
    ⊎_elim at_t elsewhere (cases_eq u t)

-- the station that fires gains the new date
pub log-after : (g : Parts) (s : State) (t : ℕ) → t < length s.logs → LogGains s (after g s t) t (new_date g s t)
unfolding after
log-after g s t there u = log-set s.logs t (new_date g s t) u there

-- each arc out of a station that gains a date has held one more token
pub all_tokens-gain : (g : Parts) (old new : State) (t date a : ℕ) → LogGains old new t date → all_tokens g new.logs a ≡ with_new (eqb (arc g a).from t) (all_tokens g old.logs a) (date + delay g a)
unfolding all_tokens
all_tokens-gain g old new t date a gain =
    let first = replicate (arc g a).tokens 0 in
    let later = λ (n : ℕ). n + delay g a in
    let dates = log old (arc g a).from in
    let put : (gains : Bool) → first ++ map later (with_new gains dates date) ≡ with_new gains (first ++ map later dates) (later date) =
    λ gains.
    elim gains as (λ b. first ++ map later (with_new b dates date) ≡ with_new b (first ++ map later dates) (later date)) [
      | true ↦ ap (λ l. first ++ l) (map_push later dates date) ∙ sym (append_assoc first (map later dates) (later date ∷ []))
      | false ↦ refl
    ] in
    ap (λ l. first ++ map later l) (gain (arc g a).from) ∙ put (eqb (arc g a).from t)

pub all_tokens-after : (g : Parts) (s : State) (t a : ℕ) → t < length s.logs → all_tokens g (after g s t).logs a ≡ with_new (eqb (arc g a).from t) (all_tokens g s.logs a) (new_date g s t + delay g a)
all_tokens-after g s t a there =
    all_tokens-gain g s (after g s t) t (new_date g s t) a (log-after g s t there)

pub length-all_tokens : (g : Parts) (s : State) (a : ℕ) → length (all_tokens g s.logs a) ≡ (arc g a).tokens + length (log s (arc g a).from)
unfolding all_tokens
length-all_tokens g s a =
    let later = λ (date : ℕ). date + delay g a in
    omega (arith, length-append (replicate (arc g a).tokens 0) (map later (log s (arc g a).from)), length-replicate {A = ℕ} (arc g a).tokens 0, length-map (log s (arc g a).from) later)

-- job k + 1 takes token k of an arc, counted from 0
pub token_date-next : (g : Parts) (s : State) (a k : ℕ) → k < length (all_tokens g s.logs a) → token_date g (date_in s.logs) a (k + 1) ≡ get_or (all_tokens g s.logs a) k 0
unfolding all_tokens
token_date-next g s a k low =
    let tokens = (arc g a).tokens in
    let dates = log s (arc g a).from in
    let later = λ (date : ℕ). date + delay g a in
    let many = length-all_tokens g s a in
    let at_start : k < tokens → token_date g (date_in s.logs) a (k + 1) ≡ get_or (replicate tokens 0 ++ map later dates) k 0 =
    λ early.
    cond-false (ltb tokens (k + 1)) (date_in s.logs (arc g a).from (k + 1 - tokens) + delay g a) 0 (le-ltb tokens (k + 1) (omega arith))
    ∙ sym (get_or_append_left (replicate tokens 0) (map later dates) 0 k (omega (arith, length-replicate {A = ℕ} tokens 0)) ∙ get_or-replicate tokens k 0 0 early) in
    let put : tokens ≤ k → token_date g (date_in s.logs) a (k + 1) ≡ get_or (replicate tokens 0 ++ map later dates) k 0 =
    λ late.
    let number : k + 1 - tokens ≡ suc (k - tokens) = omega (arith, add-one (k - tokens)) in
    cond-true (ltb tokens (k + 1)) (date_in s.logs (arc g a).from (k + 1 - tokens) + delay g a) 0 (lt-ltb tokens (k + 1) (omega arith))
    ∙ ap (λ n. date_in s.logs (arc g a).from n + delay g a) number
    ∙ sym (get_or-append_right (replicate tokens 0) (map later dates) tokens k 0 (length-replicate tokens 0) late ∙ get_or-map later dates (k - tokens) 0 0 (omega arith)) in
    ⊎_elim at_start put (cases_lt k tokens)

-- what is left of a list after n elements were taken, when one more is taken, or one is added
pub drop-with_new : (gains loses : Bool) (n : ℕ) (xs : List ℕ) (x : ℕ) → n + cond loses 1 0 ≤ length xs → with_new gains (cond loses (drop 1 (drop n xs)) (drop n xs)) x ≡ drop (n + cond loses 1 0) (with_new gains xs x)
drop-with_new true true n xs x low =
    ap (λ l. l ++ x ∷ []) (drop-drop 1 n xs) ∙ sym (drop-append-le (n + 1) xs (x ∷ []) low)
drop-with_new true false n xs x low =
    sym (ap (λ m. drop m (xs ++ x ∷ [])) (add-zero n) ∙ drop-append-le n xs (x ∷ []) (omega arith))
drop-with_new false true n xs x low = drop-drop 1 n xs
drop-with_new false false n xs x low = ap (λ m. drop m xs) (sym (add-zero n))
