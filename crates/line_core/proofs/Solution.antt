-- A finished state that firings reach has the least solution in its logs.
use Rattle.std.proofs.Common.{◌≡◌, ◌≢◌, ℕ, zero, suc, ◌+◌, ◌-◌, ◌<◌, ◌≤◌, Bool, true, false, eqb, ltb, List, [], ◌∷◌, length, get_or, add-one, refl, sym, ap, ◌∙◌, subst, arith, ⊎_elim, length-append}
use Rattle.std.proofs.lemmas.Bool.{eqb-true, ne_eqb, cases_lt, cond-true, cond-false, lt-ltb, le-ltb}
use Rattle.std.proofs.lemmas.List.{get_or_at, get_or_append_left}
use Rattle.line_base.specs.declared.event.Parts.{Parts}
use Rattle.event_graph.specs.Network.{stations, jobs, arc, arc_count, demand, delay, ins, IsGraph}
use Rattle.event_graph.specs.Table.{Table, date_in}
use Rattle.event_graph.specs.Term.{term, token_date}
use Rattle.event_graph.specs.Solves.{Solves}
use Rattle.event_graph.specs.Least.{IsLeast}
use Rattle.event_graph.specs.State.{State, log}
use Rattle.event_graph.specs.Firing.{CanFire, new_date}
use Rattle.event_graph.specs.GreatestValue.{greatest}
use Rattle.event_graph.specs.Reached.{Reached, begins, fires}
use Rattle.event_graph.proofs.ArcNumbers.{All-ins, each_input}
use Rattle.line_core.specs.Consistent.{all_tokens, due_date, IsConsistent, IsFinished}
use Rattle.event_graph.proofs.Greatest.{le-greatest}
use Rattle.line_core.proofs.ArcTokens.{with_new, log-after, length-all_tokens, token_date-next}
use Rattle.line_core.proofs.Consistency.{by_tokens-le, new_date-by_tokens, held_now, exists, log-start, reached_is_consistent}

-- no date of the state is later than the table's
abbrev pub IsNowhereLater : Parts → State → Table → Type 0
IsNowhereLater g s y = (t k : ℕ) → t < stations g → k < length (log s t) → get_or (log s t) k 0 ≤ y t (k + 1)

-- what holds of each date of a log and of a new one holds of each date of the log with the new one
pub date-with_new : (P : ℕ → Type 0) (gains : Bool) (xs : List ℕ) (x k : ℕ) → k < length (with_new gains xs x) → (k < length xs → P (get_or xs k 0)) → (gains ≡ true → k ≡ length xs → P x) → P (get_or (with_new gains xs x) k 0)
date-with_new P true xs x k low old new =
    ⊎_elim
    (λ early. subst P (sym (get_or_append_left xs (x ∷ []) 0 k early)) (old early))
    (λ late.
    let last : k ≡ length xs = omega (arith, low, length-append xs (x ∷ [])) in
    subst P (sym (get_or_at xs x [] 0 k (sym last))) (new refl last))
    (cases_lt k (length xs))
date-with_new P false xs x k low old new = old low

module _ (g : Parts) (y : Table) (graph : IsGraph g) (solves : Solves g y) where
  -- where the state is nowhere later, neither are the tokens that its arcs have held
  token-le : (s : State) → IsNowhereLater g s y → (a k : ℕ) → a < arc_count g → k < length (all_tokens g s.logs a) → get_or (all_tokens g s.logs a) k 0 ≤ token_date g y a (k + 1)
  token-le s early a k there low =
      let tokens = (arc g a).tokens in
      let from = (arc g a).from in
      let token = token_date-next g s a k low in
      let at_start : k < tokens → get_or (all_tokens g s.logs a) k 0 ≤ token_date g y a (k + 1) =
      λ first. omega (arith, token, cond-false (ltb tokens (k + 1)) (date_in s.logs from (k + 1 - tokens) + delay g a) 0 (le-ltb tokens (k + 1) (omega arith))) in
      let put : tokens ≤ k → get_or (all_tokens g s.logs a) k 0 ≤ token_date g y a (k + 1) =
      λ later.
      let j = k - tokens in
      let number : k + 1 - tokens ≡ suc j = omega (arith, add-one j) in
      let passes = lt-ltb tokens (k + 1) (omega arith) in
      let here = sym token ∙ cond-true (ltb tokens (k + 1)) (date_in s.logs from (k + 1 - tokens) + delay g a) 0 passes ∙ ap (λ n. date_in s.logs from n + delay g a) number in
      let asked_by_y = cond-true (ltb tokens (k + 1)) (y from (k + 1 - tokens) + delay g a) 0 passes ∙ ap (λ n. y from n + delay g a) (number ∙ sym (add-one j)) in
      omega (arith, here, asked_by_y, early from j (graph.starts_exist a there) (omega (arith, low, length-all_tokens g s a))) in
      ⊎_elim at_start put (cases_lt k tokens)

  new_date-le : (s : State) (t : ℕ) → IsConsistent g s → CanFire g s t → IsNowhereLater g s y → new_date g s t ≤ y t (length (log s t) + 1)
  new_date-le s t c can early =
      let k = length (log s t) in
      subst (λ date. date ≤ y t (k + 1)) (sym (new_date-by_tokens g s t c can)) (
      by_tokens-le g s t k
      (y t (k + 1))
      (λ zero_th. subst (λ u. demand g (k + 1) ≤ y u (k + 1)) (sym zero_th) (solves.feed (k + 1) (omega arith) (omega (arith, can.more))))
      (λ other i d low.
      let a = get_or (ins g t) i d in
      let at = All-ins g t i d low in
      let held = token-le s early a k at.0 (held_now g s t c can a at.0 at.1) in
      omega (arith, held, solves.others a (k + 1) at.0 (omega arith) (omega (arith, can.more)), ap (λ u. y u (k + 1)) at.1)))

  pub reached_is_nowhere_later : (s : State) → Reached g s → IsNowhereLater g s y
  reached_is_nowhere_later s begins t k there low = absurd (omega (arith, ap length (log-start g t)))
  reached_is_nowhere_later s (fires old t reached can) u k there low =
      let c = reached_is_consistent g old reached in
      let before = reached_is_nowhere_later old reached in
      let fired = log-after g old t (exists g old t c can) u in
      let new : eqb u t ≡ true → k ≡ length (log old u) → new_date g old t ≤ y u (k + 1) =
      λ yes last.
      let same = ap (λ v. y v (length (log old v) + 1)) (sym (eqb-true u t yes)) ∙ ap (λ n. y u (n + 1)) (sym last) in
      omega (arith, new_date-le old t c can before, same) in
      subst (λ l. get_or l k 0 ≤ y u (k + 1)) (sym fired) (
      date-with_new (λ date. date ≤ y u (k + 1)) (eqb u t) (log old u) (new_date g old t) k (subst (λ l. k < length l) fired low) (before u k there) new)

-- the date that the equations give to a station other than the feed is the greatest of its terms
pub due_date-other : (g : Parts) (s : State) (t n : ℕ) → t ≢ 0 → due_date g s.logs t n ≡ greatest (λ a. term g (date_in s.logs) a n) (ins g t)
unfolding due_date
due_date-other g s t n other = cond-false (eqb t 0) _ _ (ne_eqb t 0 other)

-- no date of a consistent state is below a term
pub term-le : (g : Parts) (s : State) → IsGraph g → IsConsistent g s → (a k : ℕ) → a < arc_count g → k < length (log s (arc g a).to) → term g (date_in s.logs) a (k + 1) ≤ get_or (log s (arc g a).to) k 0
term-le g s graph c a k there low =
    let t = (arc g a).to in
    let x = date_in s.logs in
    let asks = λ (b : ℕ). term g x b (k + 1) in
    let due = c.dates_are_due t k (graph.ends_exist a there) low ∙ due_date-other g s t (k + 1) (graph.feed_has_no_input a there) in
    let below = each_input g t (λ b. asks b ≤ greatest asks (ins g t)) (le-greatest asks (ins g t)) a there refl in
    omega (arith, due, below)

pub demand-le : (g : Parts) (s : State) (k : ℕ) → 1 ≤ stations g → IsConsistent g s → k < length (log s 0) → demand g (k + 1) ≤ get_or (log s 0) k 0
unfolding due_date
demand-le g s k some c low = omega (arith, c.dates_are_due 0 k (omega arith) low)

module _ (g : Parts) (s : State) (some : 1 ≤ stations g) (graph : IsGraph g) (c : IsConsistent g s) (finished : IsFinished g s) where
  feed_is_solved : (n : ℕ) → 1 ≤ n → n ≤ jobs g → demand g n ≤ date_in s.logs 0 n
  feed_is_solved zero from_one within = absurd (omega arith)
  feed_is_solved (suc k) from_one within =
      subst (λ n. demand g n ≤ get_or (log s 0) k 0) (add-one k) (demand-le g s k some c (omega (arith, finished 0 (omega arith))))

  others_are_solved : (a n : ℕ) → a < arc_count g → 1 ≤ n → n ≤ jobs g → term g (date_in s.logs) a n ≤ date_in s.logs (arc g a).to n
  others_are_solved a zero there from_one within = absurd (omega arith)
  others_are_solved a (suc k) there from_one within =
      subst (λ n. term g (date_in s.logs) a n ≤ get_or (log s (arc g a).to) k 0) (add-one k) (
      term-le g s graph c a k there (omega (arith, finished (arc g a).to (graph.ends_exist a there))))

  pub finished_solves : Solves g (date_in s.logs)
  finished_solves = record { feed = feed_is_solved; others = others_are_solved }

module _ (g : Parts) (s : State) (some : 1 ≤ stations g) (graph : IsGraph g) (reached : Reached g s) (finished : IsFinished g s) where
  is_nowhere_above : (y : Table) → Solves g y → (t n : ℕ) → t < stations g → 1 ≤ n → n ≤ jobs g → date_in s.logs t n ≤ y t n
  is_nowhere_above y solves t zero there from_one within = absurd (omega arith)
  is_nowhere_above y solves t (suc k) there from_one within =
      subst (λ n. get_or (log s t) k 0 ≤ y t n) (add-one k) (
      reached_is_nowhere_later g y graph solves s reached t k there (omega (arith, finished t there)))

  -- the logs of a finished state that firings reach are the least solution
  pub finished_is_least : IsLeast g (date_in s.logs)
  finished_is_least = record {
    solves = finished_solves g s some graph (reached_is_consistent g s reached) finished;
    least = is_nowhere_above;
  }
