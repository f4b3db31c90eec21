-- A reached state is small: no log is longer than the jobs, and no place is long.
use Rattle.std.proofs.Common.{◌≡◌, ℕ, ◌+◌, ◌^◌, ◌<◌, ◌≤◌, false, length, ap, ◌∙◌, arith}
use Rattle.std.proofs.lemmas.List.{length-drop, length-replicate}
use Rattle.line_base.specs.declared.limits.TheConstants.{MAX_CARDS}
use Rattle.line_base.specs.declared.event.Parts.{Parts}
use Rattle.line_base.specs.Limits.{most_ring_room}
use Rattle.event_graph.specs.Network.{stations, jobs, arc, arc_count}
use Rattle.event_graph.specs.State.{log, place}
use Rattle.event_graph.proofs.Places.{place-start}
use Rattle.line_core.specs.Consistent.{all_tokens}
use Rattle.line_core.specs.Run.{Run, IsReached, first_run}
use Rattle.line_core.proofs.Consistency.{reached_is_consistent}
use Rattle.line_core.proofs.Runs.{length-tokens}
use Rattle.line_setup.specs.Making.{FitsRoom}

log-few_dates : (r : Run) (t : ℕ) → IsReached r → t < stations r.graph → length (log r.state t) ≤ jobs r.graph
log-few_dates r t reached there = (reached_is_consistent r.graph r.state reached.reached).few_dates t there

place-few_tokens : (r : Run) (a : ℕ) → IsReached r → a < arc_count r.graph → length (place r.state a) + jobs r.graph < 2 ^ 32
place-few_tokens r a reached there =
    let consistent = reached_is_consistent r.graph r.state reached.reached in
    let left = ap length (consistent.places_are_left a there) ∙ length-drop (length (log r.state (arc r.graph a).to)) (all_tokens r.graph r.state.logs a) in
    let held = length-tokens r.graph r.state.logs a in
    let dates = log-few_dates r (arc r.graph a).from reached (reached.sound.starts_exist a there) in
    let initial : (arc r.graph a).tokens ≤ MAX_CARDS = reached.limits.few_tokens a (record { from = 0; to = 0; tokens = 0; worked = false }) there in
    omega (arith, left, held, dates, initial, reached.limits.few_jobs)

-- the same, for the graph that the state was made for
pub few_dates : (g : Parts) (r : Run) (t : ℕ) → g ≡ r.graph → IsReached r → t < stations g → length (log r.state t) ≤ jobs g
few_dates g r t same reached there =
    omega (arith, ap jobs same, log-few_dates r t reached (omega (arith, ap stations same)))

pub few_tokens : (g : Parts) (r : Run) (a : ℕ) → g ≡ r.graph → IsReached r → a < arc_count g → length (place r.state a) + jobs g < 2 ^ 32
few_tokens g r a same reached there =
    omega (arith, ap jobs same, place-few_tokens r a reached (omega (arith, ap arc_count same)))

-- the start has on each arc the tokens that its ring has room for
pub start_fits : (g : Parts) (r : Run) (room : ℕ) → r ≡ first_run g → 1 ≤ room → room ≤ most_ring_room → FitsRoom room g r.state
start_fits g r room is some most = record {
  some = some;
  most = most;
  fits = λ a there.
      let many = ap (λ (s : Run). length (place s.state a)) is ∙ ap length (place-start g a there) ∙ length-replicate {A = ℕ} (arc g a).tokens 0 in
      omega (arith, many);
}
