-- The dates that stations have made in a state that firings reach are those of the least solution: a run may stop
-- early.
use Rattle.std.proofs.Common.{◌≡◌, ℕ, zero, suc, ◌+◌, ◌-◌, ◌<◌, ◌≤◌, cond, ltb, length, get_or, add-one, ap, subst, arith, ⊎_elim}
use Rattle.std.specs.Prelude.{None}
use Rattle.std.proofs.lemmas.Bool.{cases_lt, ne_eqb, cond-true, cond-false, lt-ltb, le-ltb}
use Rattle.line_base.specs.declared.event.Parts.{Parts}
use Rattle.event_graph.specs.Network.{stations, jobs, arc, arc_count, demand, delay, ins, IsGraph}
use Rattle.event_graph.specs.Table.{Table, date_in}
use Rattle.event_graph.specs.Term.{token_date, term}
use Rattle.event_graph.specs.Solves.{Solves}
use Rattle.event_graph.specs.Least.{IsLeast}
use Rattle.event_graph.specs.State.{State, log, place}
use Rattle.event_graph.specs.Firing.{CanFire}
use Rattle.event_graph.specs.Reached.{Reached}
use Rattle.event_graph.proofs.ArcNumbers.{All-ins}
use Rattle.line_core.specs.declared.error.FireError.{FireError}
use Rattle.line_core.specs.declared.error.FireError.TheVariants.{Done, Empty}
use Rattle.line_core.specs.Consistent.{IsConsistent}
use Rattle.line_core.specs.Refusals.{is_empty, first_empty, Refuses}
use Rattle.line_core.specs.Run.{Run}
use Rattle.line_core.proofs.ArcTokens.{length-all_tokens}
use Rattle.line_core.proofs.Consistency.{reached_is_consistent}
use Rattle.line_core.proofs.Searches.{find-all}
use Rattle.line_core.proofs.Solution.{reached_is_nowhere_later, term-le, demand-le}

-- a station that can fire is not refused
pub not_refused : (r : Run) (t : ℕ) (e : FireError) → CanFire r.graph r.state t → Refuses r t e → ⊥
not_refused r t Done can all = omega (arith, can.more, all)
not_refused r t (Empty a) can empty =
    let full : first_empty r.graph r.state t ≡ None =
    find-all (is_empty r.state) (ins r.graph t) (λ k d low.
    let at = All-ins r.graph t k d low in
    ne_eqb (length (place r.state (get_or (ins r.graph t) k d))) 0 (λ none. let some = can.tokens _ at.0 at.1 in absurd (omega (arith, some, none)))) in
    let found = empty.1 in
    absurd cc

-- the date of a token that another job put, and of one of the start
token_date-put : (g : Parts) (y : Table) (a n : ℕ) → (arc g a).tokens < n → token_date g y a n ≡ y (arc g a).from (n - (arc g a).tokens) + delay g a
token_date-put g y a n put = cond-true (ltb (arc g a).tokens n) _ 0 (lt-ltb (arc g a).tokens n put)

token_date-start : (g : Parts) (y : Table) (a n : ℕ) → n ≤ (arc g a).tokens → token_date g y a n ≡ 0
token_date-start g y a n start = cond-false (ltb (arc g a).tokens n) _ 0 (le-ltb (arc g a).tokens n start)

module _ (g : Parts) (s : State) (graph : IsGraph g) (some : 1 ≤ stations g) (reached : Reached g s) (x : Table) (least : IsLeast g x) where
  c : IsConsistent g s
  c = reached_is_consistent g s reached

  -- the dates of the state, and then those of the least solution
  unfoldable joined : Table
  joined t n = cond (ltb (length (log s t)) n) (x t n) (date_in s.logs t n)

  joined-old : (t n : ℕ) → n ≤ length (log s t) → joined t n ≡ date_in s.logs t n
  unfolding joined
  joined-old t n old = cond-false (ltb (length (log s t)) n) _ _ (le-ltb (length (log s t)) n old)

  joined-new : (t n : ℕ) → length (log s t) < n → joined t n ≡ x t n
  unfolding joined
  joined-new t n new = cond-true (ltb (length (log s t)) n) _ _ (lt-ltb (length (log s t)) n new)

  early : (t k : ℕ) → t < stations g → k < length (log s t) → get_or (log s t) k 0 ≤ x t (k + 1)
  early t k there low = reached_is_nowhere_later g x graph least.solves s reached t k there low

  early_date : (t n : ℕ) → t < stations g → 1 ≤ n → n ≤ length (log s t) → date_in s.logs t n ≤ x t n
  early_date t zero there from_one old = absurd (omega arith)
  early_date t (suc k) there from_one old = subst (λ n. get_or (log s t) k 0 ≤ x t n) (add-one k) (early t k there (omega arith))

  -- no date of the joined table is later
  joined-le : (t n : ℕ) → t < stations g → 1 ≤ n → joined t n ≤ x t n
  joined-le t n there from_one =
      ⊎_elim
      (λ new. omega (arith, joined-new t n new))
      (λ old. omega (arith, joined-old t n old, early_date t n there from_one old))
      (cases_lt (length (log s t)) n)

  -- a term over the joined table, by where its token comes from
  term-new : (a n : ℕ) → a < arc_count g → term g joined a n ≤ term g x a n
  term-new a n there =
      ⊎_elim
      (λ put.
      let below = joined-le (arc g a).from (n - (arc g a).tokens) (graph.starts_exist a there) (omega arith) in
      omega (arith, token_date-put g joined a n put, token_date-put g x a n put, below))
      (λ start. omega (arith, token_date-start g joined a n start))
      (cases_lt (arc g a).tokens n)

  -- one into a station that has made the job takes a date of the state
  term-old : (a n : ℕ) → a < arc_count g → n ≤ length (log s (arc g a).to) → term g joined a n ≡ term g (date_in s.logs) a n
  term-old a n there old =
      let y = date_in s.logs in
      ⊎_elim
      (λ put.
      let taken = c.tokens_suffice a there in
      let made : n - (arc g a).tokens ≤ length (log s (arc g a).from) = omega (arith, taken, length-all_tokens g s a) in
      let same = joined-old (arc g a).from (n - (arc g a).tokens) made in
      omega (arith, token_date-put g joined a n put, token_date-put g y a n put, same))
      (λ start. omega (arith, token_date-start g joined a n start, token_date-start g y a n start))
      (cases_lt (arc g a).tokens n)

  feed_solved : (n : ℕ) → 1 ≤ n → n ≤ jobs g → demand g n ≤ joined 0 n
  feed_solved zero from_one within = absurd (omega arith)
  feed_solved (suc k) from_one within =
      ⊎_elim
      (λ new. omega (arith, least.solves.feed (suc k) from_one within, joined-new 0 (suc k) new))
      (λ old.
      let at = demand-le g s k some c (omega arith) in
      let number = ap (λ n. demand g n) (add-one k) in
      omega (arith, at, number, joined-old 0 (suc k) old))
      (cases_lt (length (log s 0)) (suc k))

  others_solved : (a n : ℕ) → a < arc_count g → 1 ≤ n → n ≤ jobs g → term g joined a n ≤ joined (arc g a).to n
  others_solved a zero there from_one within = absurd (omega arith)
  others_solved a (suc k) there from_one within =
      let to = (arc g a).to in
      ⊎_elim
      (λ new. omega (arith, term-new a (suc k) there, least.solves.others a (suc k) there from_one within, joined-new to (suc k) new))
      (λ old.
      let at = term-le g s graph c a k there (omega arith) in
      let mine = term-old a (suc k) there old in
      let number = ap (λ n. term g (date_in s.logs) a n) (add-one k) in
      omega (arith, at, mine, number, joined-old to (suc k) old))
      (cases_lt (length (log s to)) (suc k))

  joined_solves : Solves g joined
  joined_solves = record { feed = feed_solved; others = others_solved }

  -- each date of the state is that of the least solution
  pub reached_dates : (t k : ℕ) → t < stations g → k < length (log s t) → get_or (log s t) k 0 ≡ x t (k + 1)
  reached_dates t k there low =
      let few = c.few_dates t there in
      let below = least.least joined joined_solves t (k + 1) there (omega arith) (omega arith) in
      let here = joined-old t (k + 1) (omega arith) in
      let number = ap (λ n. date_in s.logs t n) (add-one k) in
      omega (arith, early t k there low, below, here, number)
