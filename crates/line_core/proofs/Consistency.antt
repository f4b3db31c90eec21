-- Every state that firings reach is consistent.
use Rattle.std.proofs.Common.{◌≡◌, ◌≢◌, ℕ, ◌+◌, ◌<◌, ◌≤◌, cond, eqb, List, [], ◌++◌, drop, replicate, map, length, get_or, add-zero, refl, sym, ap, ◌∙◌, subst, arith, ⊎_elim}
use Rattle.std.specs.List.{All}
use Rattle.std.proofs.lemmas.Bool.{eqb-true, eqb-false, cond_both, eq-eqb, cases_lt, cases_Bool, cond-true, cond-false}
use Rattle.std.proofs.lemmas.List.{append-nil, length-set, length-map, length-replicate, get_or-replicate, get_or_past, length-drop, get_or-drop, get_or_at}
use Rattle.std.proofs.lemmas.List.FromFn.{length-map-range_with_len}
use Rattle.line_base.specs.declared.event.Arc.{Arc}
use Rattle.line_base.specs.declared.event.Parts.{Parts}
use Rattle.event_graph.specs.Network.{stations, jobs, arc, arc_count, demand, delay, ins}
use Rattle.event_graph.specs.Table.{date_in}
use Rattle.event_graph.specs.Term.{work, token_date}
use Rattle.event_graph.specs.State.{State, log, place, start}
use Rattle.event_graph.specs.Firing.{CanFire, new_date, after, place_after}
use Rattle.event_graph.specs.GreatestValue.{greatest}
use Rattle.event_graph.specs.Reached.{Reached, begins, fires}
use Rattle.event_graph.proofs.ArcNumbers.{All-ins}
use Rattle.event_graph.proofs.Places.{place-start, place-after}
use Rattle.line_core.specs.Consistent.{all_tokens, due_date, IsConsistent}
use Rattle.event_graph.proofs.Greatest.{greatest-le, greatest-same}
use Rattle.line_core.proofs.ArcTokens.{with_new, length-with_new, LogGains, get_or-with_new, log-after, all_tokens-gain, all_tokens-after, token_date-next, drop-with_new}

-- ---- the start

pub log-start : (g : Parts) (t : ℕ) → log (start g) t ≡ []
unfolding start
log-start g t =
    ⊎_elim
    (λ there. get_or-replicate (stations g) t [] [] there)
    (λ past. get_or_past (replicate (stations g) []) t [] (omega (arith, length-replicate {A = List ℕ} (stations g) [])))
    (cases_lt t (stations g))

pub all_tokens-start : (g : Parts) (a : ℕ) → all_tokens g (start g).logs a ≡ replicate (arc g a).tokens 0
unfolding all_tokens
all_tokens-start g a =
    ap (λ l. replicate (arc g a).tokens 0 ++ map (λ date. date + delay g a) l) (log-start g (arc g a).from)
    ∙ append-nil (replicate (arc g a).tokens 0)

pub start_is_consistent : (g : Parts) → IsConsistent g (start g)
unfolding start
start_is_consistent g = record {
  a_log_each = length-replicate (stations g) [];
  a_place_each = length-map g.arcs (λ (x : Arc). replicate x.tokens 0);
  few_dates = λ t there. omega (arith, ap length (log-start g t));
  tokens_suffice = λ a there. omega (arith, ap length (log-start g (arc g a).to));
  dates_are_due = λ t k there low. absurd (omega (arith, ap length (log-start g t)));
  places_are_left = λ a there.
      place-start g a there
      ∙ sym (all_tokens-start g a)
      ∙ ap (λ n. drop n (all_tokens g (start g).logs a)) (sym (ap length (log-start g (arc g a).to)));
}

-- ---- dates by the tokens that arcs have held

-- the date that token k of each arc, counted from 0, gives to job k + 1 at station t
abbrev pub asked : Parts → State → ℕ → ℕ → ℕ
asked g s k a = work g a (k + 1) + get_or (all_tokens g s.logs a) k 0

unfoldable pub date_by_tokens : Parts → State → ℕ → ℕ → ℕ
date_by_tokens g s t k = cond (eqb t 0) (demand g (k + 1)) (greatest (asked g s k) (ins g t))

-- each arc into station t has held more than k tokens
abbrev pub HasHeld : Parts → State → ℕ → ℕ → Type 0
HasHeld g s t k = (a : ℕ) → a < arc_count g → (arc g a).to ≡ t → k < length (all_tokens g s.logs a)

-- what bounds the demand date of the feed, or the dates that are asked of another station, bounds the date
pub by_tokens-le : (g : Parts) (s : State) (t k most : ℕ) → (t ≡ 0 → demand g (k + 1) ≤ most) → (t ≢ 0 → All (λ a. asked g s k a ≤ most) (ins g t)) → date_by_tokens g s t k ≤ most
unfolding date_by_tokens
by_tokens-le g s t k most feed others =
    cond_both
    (eqb t 0)
    (demand g (k + 1))
    (greatest (asked g s k) (ins g t))
    (λ date. date ≤ most)
    (λ yes. feed (eqb-true t 0 yes))
    (λ no. greatest-le (asked g s k) (ins g t) most (others (eqb-false t 0 no)))

-- the greatest of what arcs ask of a station is the same where they ask the same
greatest-asked : (g : Parts) (t n : ℕ) (f h : ℕ → ℕ) → ((a : ℕ) → a < arc_count g → (arc g a).to ≡ t → f a ≡ h a) → greatest (λ a. work g a n + f a) (ins g t) ≡ greatest (λ a. work g a n + h a) (ins g t)
greatest-asked g t n f h same =
    greatest-same (λ a. work g a n + f a) (λ a. work g a n + h a) (ins g t)
    (λ i d low. let at = All-ins g t i d low in ap (λ m. work g (get_or (ins g t) i d) n + m) (same _ at.0 at.1))

pub due_date-by_tokens : (g : Parts) (s : State) (t k : ℕ) → HasHeld g s t k → due_date g s.logs t (k + 1) ≡ date_by_tokens g s t k
unfolding due_date date_by_tokens
due_date-by_tokens g s t k held =
    ap (λ n. cond (eqb t 0) (demand g (k + 1)) n) (
    greatest-asked g t (k + 1) (λ a. token_date g (date_in s.logs) a (k + 1)) (λ a. get_or (all_tokens g s.logs a) k 0)
    (λ a there ends. token_date-next g s a k (held a there ends)))

-- a date that a log gains changes no date that the earlier tokens give
pub by_tokens-gain : (g : Parts) (old new : State) (t date u k : ℕ) → LogGains old new t date → HasHeld g old u k → date_by_tokens g new u k ≡ date_by_tokens g old u k
unfolding date_by_tokens
by_tokens-gain g old new t date u k gain held =
    ap (λ n. cond (eqb u 0) (demand g (k + 1)) n) (
    greatest-asked g u (k + 1) (λ a. get_or (all_tokens g new.logs a) k 0) (λ a. get_or (all_tokens g old.logs a) k 0)
    (λ a there ends.
    ap (λ l. get_or l k 0) (all_tokens-gain g old new t date a gain)
    ∙ get_or-with_new (eqb (arc g a).from t) (all_tokens g old.logs a) (date + delay g a) k (held a there ends)))

pub HasHeld-gain : (g : Parts) (old new : State) (t date u k : ℕ) → LogGains old new t date → HasHeld g old u k → HasHeld g new u k
HasHeld-gain g old new t date u k gain held a listed ends =
    omega (arith, held a listed ends, ap length (all_tokens-gain g old new t date a gain), length-with_new (eqb (arc g a).from t) (all_tokens g old.logs a) (date + delay g a))

-- ---- a firing

module _ (g : Parts) (s : State) (t : ℕ) (c : IsConsistent g s) (can : CanFire g s t) where
  pub exists : t < length s.logs
  exists = omega (arith, can.exists, c.a_log_each)

  -- each input place of t has a token
  room : (a : ℕ) → a < arc_count g → length (log s (arc g a).to) + cond (eqb (arc g a).to t) 1 0 ≤ length (all_tokens g s.logs a)
  room a there =
      let enters = eqb (arc g a).to t in
      let left = ap length (c.places_are_left a there) ∙ length-drop (length (log s (arc g a).to)) (all_tokens g s.logs a) in
      ⊎_elim
      (λ yes. omega (arith, cond-true {A = ℕ} enters 1 0 yes, can.tokens a there (eqb-true _ t yes), left))
      (λ no. omega (arith, cond-false {A = ℕ} enters 1 0 no, c.tokens_suffice a there))
      (cases_Bool enters)

  -- the next job of t takes the tokens that are in front
  pub held_now : HasHeld g s t (length (log s t))
  held_now a there ends =
      let left = ap length (c.places_are_left a there) ∙ length-drop (length (log s (arc g a).to)) (all_tokens g s.logs a) in
      omega (arith, can.tokens a there ends, left, ap (λ u. length (log s u)) ends)

  pub new_date-by_tokens : new_date g s t ≡ date_by_tokens g s t (length (log s t))
  unfolding new_date date_by_tokens
  new_date-by_tokens =
      let n = length (log s t) in
      ap (λ date. cond (eqb t 0) (demand g (n + 1)) date) (
      greatest-asked g t (n + 1) (λ a. get_or (place s a) 0 0) (λ a. get_or (all_tokens g s.logs a) n 0)
      (λ a there ends.
      ap (λ l. get_or l 0 0) (c.places_are_left a there)
      ∙ get_or-drop (length (log s (arc g a).to)) (all_tokens g s.logs a) 0 0
      ∙ ap (λ k. get_or (all_tokens g s.logs a) k 0) (add-zero _ ∙ ap (λ u. length (log s u)) ends)))

  pub length-log-after : (u : ℕ) → length (log (after g s t) u) ≡ length (log s u) + cond (eqb u t) 1 0
  length-log-after u = ap length (log-after g s t exists u) ∙ length-with_new (eqb u t) (log s u) (new_date g s t)

  few_dates-after : (u : ℕ) → u < stations g → length (log (after g s t) u) ≤ jobs g
  few_dates-after u there =
      ⊎_elim
      (λ yes. omega (arith, length-log-after u, cond-true {A = ℕ} (eqb u t) 1 0 yes, ap (λ v. length (log s v)) (eqb-true u t yes), can.more))
      (λ no. omega (arith, length-log-after u, cond-false {A = ℕ} (eqb u t) 1 0 no, c.few_dates u there))
      (cases_Bool (eqb u t))

  tokens_suffice-after : (a : ℕ) → a < arc_count g → length (log (after g s t) (arc g a).to) ≤ length (all_tokens g (after g s t).logs a)
  tokens_suffice-after a there =
      omega (arith, length-log-after (arc g a).to, room a there, ap length (all_tokens-after g s t a exists), length-with_new (eqb (arc g a).from t) (all_tokens g s.logs a) (new_date g s t + delay g a))

  places_are_left-after : (a : ℕ) → a < arc_count g → place (after g s t) a ≡ drop (length (log (after g s t) (arc g a).to)) (all_tokens g (after g s t).logs a)
  places_are_left-after a there =
      let gains = eqb (arc g a).from t in
      let loses = eqb (arc g a).to t in
      let put = new_date g s t + delay g a in
      let taken = length (log s (arc g a).to) in
      place-after g s t a there
      ∙ ap (λ p. with_new gains (cond loses (drop 1 p) p) put) (c.places_are_left a there)
      ∙ drop-with_new gains loses taken (all_tokens g s.logs a) put (room a there)
      ∙ ap (λ l. drop (taken + cond loses 1 0) l) (sym (all_tokens-after g s t a exists))
      ∙ ap (λ n. drop n (all_tokens g (after g s t).logs a)) (sym (length-log-after (arc g a).to))

  due-after : (u k : ℕ) → HasHeld g s u k → date_by_tokens g s u k ≡ due_date g (after g s t).logs u (k + 1)
  due-after u k held =
      sym (by_tokens-gain g s (after g s t) t (new_date g s t) u k (log-after g s t exists) held)
      ∙ sym (due_date-by_tokens g (after g s t) u k (HasHeld-gain g s (after g s t) t (new_date g s t) u k (log-after g s t exists) held))

  old_dates-after : (u k : ℕ) → u < stations g → k < length (log s u) → get_or (log (after g s t) u) k 0 ≡ due_date g (after g s t).logs u (k + 1)
  old_dates-after u k there early =
      let held : HasHeld g s u k =
      λ a listed ends. omega (arith, early, c.tokens_suffice a listed, ap (λ v. length (log s v)) ends) in
      ap (λ l. get_or l k 0) (log-after g s t exists u)
      ∙ get_or-with_new (eqb u t) (log s u) (new_date g s t) k early
      ∙ c.dates_are_due u k there early
      ∙ due_date-by_tokens g s u k held
      ∙ due-after u k held

  last_date-after : (k : ℕ) → k ≡ length (log s t) → get_or (log (after g s t) t) k 0 ≡ due_date g (after g s t).logs t (k + 1)
  last_date-after k last =
      let held : HasHeld g s t k = λ a listed ends. omega (arith, held_now a listed ends, last) in
      ap (λ l. get_or l k 0) (log-after g s t exists t ∙ cond-true (eqb t t) _ _ (eq-eqb t t refl))
      ∙ get_or_at (log s t) (new_date g s t) [] 0 k (sym last)
      ∙ new_date-by_tokens
      ∙ ap (date_by_tokens g s t) (sym last)
      ∙ due-after t k held

  dates_are_due-after : (u k : ℕ) → u < stations g → k < length (log (after g s t) u) → get_or (log (after g s t) u) k 0 ≡ due_date g (after g s t).logs u (k + 1)
  dates_are_due-after u k there low =
      let IsDue : ℕ → Type 0 = λ v. get_or (log (after g s t) v) k 0 ≡ due_date g (after g s t).logs v (k + 1) in
      let late : length (log s u) ≤ k → IsDue u =
      λ past.
      let same : u ≡ t =
      ⊎_elim
      (λ yes. eqb-true u t yes)
      (λ no. absurd (omega (arith, low, past, length-log-after u, cond-false {A = ℕ} (eqb u t) 1 0 no)))
      (cases_Bool (eqb u t)) in
      let last : k ≡ length (log s t) =
      omega (arith, low, past, length-log-after u, cond-true {A = ℕ} (eqb u t) 1 0 (eq-eqb u t same), ap (λ v. length (log s v)) same) in
      subst IsDue (sym same) (last_date-after k last) in
      ⊎_elim (old_dates-after u k there) late (cases_lt k (length (log s u)))

  pub after_is_consistent : IsConsistent g (after g s t)
  unfolding after
  after_is_consistent = record {
    a_log_each = length-set s.logs t _ ∙ c.a_log_each;
    a_place_each = length-map-range_with_len (place_after g s t (new_date g s t)) 0 (arc_count g);
    few_dates = few_dates-after;
    tokens_suffice = tokens_suffice-after;
    dates_are_due = dates_are_due-after;
    places_are_left = places_are_left-after;
  }

pub reached_is_consistent : (g : Parts) (s : State) → Reached g s → IsConsistent g s
reached_is_consistent g s begins = start_is_consistent g
reached_is_consistent g s (fires old t reached can) = after_is_consistent g old t (reached_is_consistent g old reached) can
