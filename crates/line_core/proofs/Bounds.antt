-- No date of a state that firings reach is late: the last demand, and twice the longest time for each firing.
use Rattle.std.proofs.Common.{◌≡◌, ℕ, ◌+◌, ◌*◌, ◌<◌, ◌≤◌, Bool, true, false, eqb, List, [], ◌∷◌, ◌++◌, length, get_or, sym, subst, arith, length-append}
use Rattle.std.specs.List.{All}
use Rattle.std.proofs.lemmas.List.Elements.{All-drop, All-push, All-replicate, All-from_get_or}
use Rattle.std.proofs.lemmas.List.Sums.{sum_by-set, sum_by-le}
use Rattle.line_base.specs.declared.limits.TheConstants.{MAX_TIME, MAX_DEMAND_DATE}
use Rattle.line_base.specs.declared.event.Parts.{Parts}
use Rattle.event_graph.specs.Network.{stations, jobs, arc, arc_count, delay, ins}
use Rattle.event_graph.specs.Limits.{IsWithinLimits}
use Rattle.event_graph.specs.State.{State, log, start}
use Rattle.event_graph.specs.Firing.{CanFire, new_date, after}
use Rattle.event_graph.specs.Reached.{Reached, begins, fires}
use Rattle.event_graph.proofs.ArcNumbers.{All-ins}
use Rattle.event_graph.proofs.Sizes.{demand-small, work-small, delay-small}
use Rattle.line_core.specs.Consistent.{all_tokens, IsConsistent, firing_count, IsNoLaterThan, LATEST_DATE}
use Rattle.line_core.proofs.ArcTokens.{with_new, log-after, all_tokens-after}
use Rattle.line_core.proofs.Consistency.{by_tokens-le, new_date-by_tokens, held_now, exists, log-start, all_tokens-start, reached_is_consistent}

-- ---- a firing

pub fired-after : (g : Parts) (s : State) (t : ℕ) → t < length s.logs → firing_count (after g s t) ≡ firing_count s + 1
unfolding after
fired-after g s t there =
    let dates = log s t in
    let date = new_date g s t in
    omega (arith, sum_by-set length s.logs t (dates ++ date ∷ []) [] there, length-append dates (date ∷ []))

-- the latest date after this many firings
abbrev pub latest_after : ℕ → ℕ
latest_after firings = MAX_DEMAND_DATE + firings * (2 * MAX_TIME)

-- no date of a log, and no token that an arc has held, is later
record IsEarly (g : Parts) (s : State) : Type 0 where
  dates : (t : ℕ) → t < stations g → All (λ date. date ≤ latest_after (firing_count s)) (log s t)
  tokens : (a : ℕ) → a < arc_count g → All (λ date. date ≤ latest_after (firing_count s)) (all_tokens g s.logs a)

All-with_new : (P : ℕ → Type 0) (gains : Bool) (xs : List ℕ) (x : ℕ) → All P xs → P x → All P (with_new gains xs x)
All-with_new P true xs x all new = All-push P xs x all new
All-with_new P false xs x all new = all

start_is_early : (g : Parts) → IsEarly g (start g)
start_is_early g = record {
  dates = λ t there. subst (All (λ date. date ≤ latest_after (firing_count (start g)))) (sym (log-start g t)) (λ k d low. absurd (omega arith));
  tokens = λ a there.
      subst (All (λ date. date ≤ latest_after (firing_count (start g)))) (sym (all_tokens-start g a)) (
      All-replicate (λ date. date ≤ latest_after (firing_count (start g))) (arc g a).tokens 0 (omega arith));
}

module _ (g : Parts) (s : State) (t : ℕ) (limits : IsWithinLimits g) (c : IsConsistent g s) (can : CanFire g s t) (early : IsEarly g s) where
  new_date-early : new_date g s t ≤ latest_after (firing_count s) + MAX_TIME
  new_date-early =
      let k = length (log s t) in
      let most = latest_after (firing_count s) + MAX_TIME in
      subst (λ date. date ≤ most) (sym (new_date-by_tokens g s t c can)) (
      by_tokens-le g s t k
      most
      (λ feed. omega (arith, demand-small g (k + 1) limits))
      (λ other i d low.
      let a = get_or (ins g t) i d in
      let at = All-ins g t i d low in
      omega (arith, work-small g a (k + 1) limits, early.tokens a at.0 k 0 (held_now g s t c can a at.0 at.1))))

  -- what was early is early still
  still : (xs : List ℕ) → All (λ date. date ≤ latest_after (firing_count s)) xs → All (λ date. date ≤ latest_after (firing_count (after g s t))) xs
  still xs all k d low = omega (arith, all k d low, fired-after g s t (exists g s t c can))

  after_is_early : IsEarly g (after g s t)
  after_is_early =
      let there = exists g s t c can in
      let date = new_date g s t in
      let IsOnTime : ℕ → Type 0 = λ d. d ≤ latest_after (firing_count (after g s t)) in
      let new : IsOnTime date = omega (arith, new_date-early, fired-after g s t there) in
      record {
        dates = λ u known.
            subst (All IsOnTime) (sym (log-after g s t there u)) (
            All-with_new IsOnTime (eqb u t) (log s u) date (still (log s u) (early.dates u known)) new);
        tokens = λ a known.
            let put : IsOnTime (date + delay g a) = omega (arith, new_date-early, fired-after g s t there, delay-small g a limits) in
            subst (All IsOnTime) (sym (all_tokens-after g s t a there)) (
            All-with_new IsOnTime (eqb (arc g a).from t) (all_tokens g s.logs a) (date + delay g a) (still (all_tokens g s.logs a) (early.tokens a known)) put);
      }

reached_is_early : (g : Parts) (s : State) → IsWithinLimits g → Reached g s → IsEarly g s
reached_is_early g s limits begins = start_is_early g
reached_is_early g s limits (fires old t reached can) =
    after_is_early g old t limits (reached_is_consistent g old reached) can (reached_is_early g old limits reached)

-- a consistent state was made by at most one firing for each station and job
pub fired-le : (g : Parts) (s : State) → IsConsistent g s → firing_count s ≤ stations g * jobs g
fired-le g s c =
    let short : All (λ dates. length dates ≤ jobs g) s.logs =
    All-from_get_or (λ dates. length dates ≤ jobs g) s.logs [] (λ t there. c.few_dates t (omega (arith, c.a_log_each))) in
    subst (λ n. firing_count s ≤ n * jobs g) c.a_log_each (sum_by-le length (jobs g) s.logs short)

-- no date of a state that firings reach is above the demands' limit and twice the longest time for each firing
pub reached_is_no_later : (g : Parts) (s : State) → IsWithinLimits g → Reached g s → IsNoLaterThan g s (latest_after (firing_count s))
reached_is_no_later g s limits reached =
    let early = reached_is_early g s limits reached in
    let c = reached_is_consistent g s reached in
    let IsOnTime : ℕ → Type 0 = λ date. date ≤ latest_after (firing_count s) in
    record {
      logs = early.dates;
      places = λ a there.
          subst (All IsOnTime) (sym (c.places_are_left a there)) (
          All-drop IsOnTime (length (log s (arc g a).to)) (all_tokens g s.logs a) (early.tokens a there));
    }

-- within the limits no date is above 2,001,000,000,000,000
pub reached_is_within : (g : Parts) (s : State) → IsWithinLimits g → Reached g s → IsNoLaterThan g s LATEST_DATE
reached_is_within g s limits reached =
    let most : latest_after (firing_count s) ≤ LATEST_DATE = omega (arith, fired-le g s (reached_is_consistent g s reached), limits.small_table) in
    let bound = reached_is_no_later g s limits reached in
    record {
      logs = λ t there k d low. omega (arith, bound.logs t there k d low, most);
      places = λ a there k d low. omega (arith, bound.places a there k d low, most);
    }
