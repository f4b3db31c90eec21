-- Dates that are at most what the tokens of their arcs ask are early: by induction over the job number, then the place.
use Rattle.std.proofs.Common.{◌≡◌, ℕ, zero, suc, ◌+◌, ◌-◌, ◌*◌, ◌<◌, ◌≤◌, List, [], length, get_or, ap, arith, ⊎_elim}
use Rattle.std.proofs.Math.Nat.{mul-le-mul_right}
use Rattle.std.proofs.lemmas.Bool.{cases_lt, cases_eq}
use Rattle.std.proofs.lemmas.List.{get_or_past}
use Rattle.line_base.specs.declared.limits.TheConstants.{MAX_TIME, MAX_DEMAND_DATE}
use Rattle.line_base.specs.declared.event.Parts.{Parts}
use Rattle.event_graph.specs.Network.{stations, jobs, arc, arc_count, demand, ins, IsGraph}
use Rattle.event_graph.specs.Limits.{IsWithinLimits}
use Rattle.event_graph.specs.State.{State}
use Rattle.event_graph.proofs.ArcNumbers.{All-ins}
use Rattle.live_check.specs.Order.{IsUpward}
use Rattle.line_core.specs.Consistent.{all_tokens, LATEST_DATE}
use Rattle.line_core.proofs.Consistency.{date_by_tokens, by_tokens-le, HasHeld}
use Rattle.event_graph.proofs.Sizes.{delay-small, work-small}
use Rattle.line_core.proofs.Bounds.{latest_after}
use Rattle.line_core.proofs.Runs.{length-tokens, token-initial, token-put}
use Rattle.line_worker.specs.Grown.{log_in}

-- the logs as a state; only its logs are looked at
abbrev pub bare : List (List ℕ) → State
bare logs = record { logs = logs; places = [] }

-- each arc has held the token that the date takes, and the date is at most what the tokens ask
pub record IsAtMostAsked (g : Parts) (logs : List (List ℕ)) : Type 0 where
  pub held : (t k : ℕ) → t < stations g → k < length (log_in logs t) → HasHeld g (bare logs) t k
  pub at_most : (t k : ℕ) → t < stations g → k < length (log_in logs t) → get_or (log_in logs t) k 0 ≤ date_by_tokens g (bare logs) t k

demand-early : (g : Parts) (n : ℕ) → IsWithinLimits g → demand g n ≤ MAX_DEMAND_DATE
unfolding demand
demand-early g n limits =
    ⊎_elim
    (λ there. limits.demands_small (n - 1) 0 there)
    (λ past. omega (arith, get_or_past g.dates (n - 1) 0 past))
    (cases_lt (n - 1) (length g.dates))

module _ (g : Parts) (places : List ℕ) (graph : IsGraph g) (limits : IsWithinLimits g) (up : IsUpward g places) (logs : List (List ℕ)) (few : (t : ℕ) → t < stations g → length (log_in logs t) ≤ jobs g) (asks : IsAtMostAsked g logs) where
  -- the number of a job at a station among all, job by job in the order of the places
  abbrev turn : ℕ → ℕ → ℕ
  turn t k = k * stations g + get_or places t 0

  place-below : (t : ℕ) → t < stations g → get_or places t 0 < stations g
  place-below t there = up.below t 0 (omega (arith, up.rank_for_each))

  -- the date of which a token was made has an earlier number
  source-earlier : (a k : ℕ) → a < arc_count g → (arc g a).tokens ≤ k → turn (arc g a).from (k - (arc g a).tokens) < turn (arc g a).to k
  source-earlier a k listed late =
      let tokens = (arc g a).tokens in
      let from_below = place-below (arc g a).from (graph.starts_exist a listed) in
      ⊎_elim
      (λ none.
      let same : k - tokens ≡ k = omega arith in
      omega (arith, ap (λ n. n * stations g) same, up.upward a listed none))
      (λ some.
      let less : k - tokens + 1 ≤ k = omega arith in
      omega (arith, from_below, mul-le-mul_right (stations g) less))
      (cases_eq tokens 0)

  early-upto : (most t k : ℕ) → t < stations g → k < length (log_in logs t) → turn t k < most → get_or (log_in logs t) k 0 ≤ latest_after most
  early-upto zero t k there low less = absurd (omega arith)
  early-upto (suc most) t k there low less =
      let asked-early : (a : ℕ) → a < arc_count g → (arc g a).to ≡ t → get_or (all_tokens g logs a) k 0 ≤ latest_after most + MAX_TIME =
      λ a listed ends.
      let held : k < length (all_tokens g logs a) = asks.held t k there low a listed ends in
      ⊎_elim
      (λ early. omega (arith, token-initial g logs a k early))
      (λ late.
      let tokens = (arc g a).tokens in
      let many = length-tokens g logs a in
      let before : turn (arc g a).from (k - tokens) < most = omega (arith, source-earlier a k listed late, less, ap (λ u. turn u k) ends) in
      omega (arith, token-put g logs a k late held, delay-small g a limits, early-upto most (arc g a).from (k - tokens) (graph.starts_exist a listed) (omega (arith, many, late, held)) before))
      (cases_lt k (arc g a).tokens) in
      let bound : date_by_tokens g (bare logs) t k ≤ latest_after (suc most) =
      by_tokens-le g (bare logs) t k (latest_after (suc most))
      (λ feed. omega (arith, demand-early g (k + 1) limits))
      (λ other i d within.
      let a = get_or (ins g t) i d in
      let at = All-ins g t i d within in
      omega (arith, work-small g a (k + 1) limits, asked-early a at.0 at.1)) in
      omega (arith, bound, asks.at_most t k there low)

  pub asked_is_early : (t k : ℕ) → t < stations g → k < length (log_in logs t) → get_or (log_in logs t) k 0 ≤ LATEST_DATE
  asked_is_early t k there low =
      let more : k + 1 ≤ jobs g = omega (arith, low, few t there) in
      let within : turn t k < stations g * jobs g = omega (arith, place-below t there, mul-le-mul_right (stations g) more) in
      omega (arith, early-upto (stations g * jobs g) t k there low within, limits.small_table)
