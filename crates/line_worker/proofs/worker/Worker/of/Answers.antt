use Rattle.std.proofs.Common.{ℕ, ◌≡◌, ◌+◌, ◌≤◌, Option, length, refl, sym, ap, ◌∙◌, subst, arith}
use Rattle.std.proofs.lemmas.Result.{IfOk-from_err}
use Rattle.event_graph.specs.Network.{stations, jobs}
use Rattle.event_graph.specs.State.{State}
use Rattle.line_base.specs.Roomy.{RoomyLogs}
use Rattle.line_core.specs.Run.{Run}
use Rattle.live_check.specs.Order.{LiveGraph}
use Rattle.line_worker.specs.Share.{first_of}
use Rattle.line_worker.specs.Team.{WorkTeam, IsTeam}
use Rattle.line_worker.specs.Worker.{LineWorker, IsWorker, IsOrder}
use Rattle.line_worker.proofs.Share.{first-rises, first-all}
use Rattle.line_worker.proofs.worker.Worker.of.Goals as goal

pub order_of-requires : goal.order_of-requires
order_of-requires c =
    let W = c.args.worker_count in
    let T = stations c.args.live.now.graph in
    let counted : c.stations-stations.result ≡ T = c.stations-stations.ensures.count ∙ ap stations c.graph.ensures.graph in
    let first = c.first_of-first.ensures ∙ ap (λ n. first_of W n c.args.worker_number) counted in
    let any = c.graph.ensures.ranked.limits.some_station in
    let some : 1 ≤ W = omega (arith, c.requires.worker_number) in
    omega (arith, first, c.len.ensures, c.requires.size, ap (λ (t : WorkTeam). length t.stations) c.team.view_is, first-rises W T some any (c.args.worker_number + 1) W (omega (arith, c.requires.worker_number)), first-all W T some any)

-- the worker that is made of these
abbrev worker_for : goal.After-of-3 → LiveGraph → State → Option ℕ → LineWorker
worker_for c live begun room = record {
  live = live;
  begun = begun;
  worker_count = c.args.worker_count;
  room = room;
  worker_number = c.args.worker_number;
  first = c.first_of-first.result;
  team = c.args.team;
  target = c.jobs.result;
  order = c.in_ok-order.order.items;
  spare = c.in_ok-spare.spare;
}

is_worker : (c : goal.After-of-3) → IsWorker (worker_for c c.args.live.now c.args.state.now.state c.args.room)
is_worker c =
    let live = c.args.live.now in
    let begun = c.args.state.now.state in
    let team = c.args.team in
    let counted : c.stations-stations.result ≡ stations live.graph = c.stations-stations.ensures.count ∙ ap stations c.graph.ensures.graph in
    let first : c.first_of-first.result ≡ first_of c.args.worker_count (stations live.graph) c.args.worker_number =
    c.first_of-first.ensures ∙ ap (λ n. first_of c.args.worker_count n c.args.worker_number) counted in
    let size : c.len.result ≡ length team.stations = omega (arith, c.len.ensures, ap (λ (t : WorkTeam). length t.stations) c.team.view_is) in
    record {
      ranked = c.graph.ensures.ranked;
      reached = c.requires.reached;
      exists = c.requires.worker_number;
      few = c.requires.worker_count;
      starts = first;
      ends = ap (λ n. n + length team.stations) first ∙ c.requires.size;
      members = subst (λ (n : ℕ). IsTeam live.graph begun n team) (sym first) c.requires.team;
      in_order = subst (λ (n : ℕ). IsOrder live.ranks c.first_of-first.result n c.in_ok-order.order.items) size c.in_ok-order.ensures;
      target = c.jobs.ensures.count ∙ ap jobs c.graph-2.ensures.graph;
      spare = ap (λ (l : RoomyLogs). l.logs) c.in_ok-spare.ensures;
      spare_room = omega (arith, counted, ap (λ (l : RoomyLogs). l.room) c.in_ok-spare.ensures);
    }

pub invariant_of-result : goal.invariant_of-result
invariant_of-result c =
    let live = c.of-2.result.value in
    let begun = c.of-3.result.value.state in
    subst (λ (l : LiveGraph). IsWorker (worker_for c l begun c.of.result.value)) (sym c.of-2.ensures) (
    subst (λ (s : State). IsWorker (worker_for c c.args.live.now s c.of.result.value)) (sym (ap (λ (s : Run). s.state) c.of-3.ensures)) (
    subst (λ (r : Option ℕ). IsWorker (worker_for c c.args.live.now c.args.state.now.state r)) (sym c.of.ensures) (is_worker c)))

pub returns-clause-worker : goal.returns-clause-worker
returns-clause-worker c = invariant_of-result c

pub returns-clause-team : goal.returns-clause-team
returns-clause-team c = refl

pub returns-in_err-order-clause-worker : goal.returns-in_err-order-clause-worker
returns-in_err-order-clause-worker c = IfOk-from_err c.from_residual.result IsWorker c.from_residual.ensures.0

pub returns-in_err-order-clause-live : goal.returns-in_err-order-clause-live
returns-in_err-order-clause-live c = IfOk-from_err c.from_residual.result (λ worker. worker.live ≡ c.args.live.now) c.from_residual.ensures.0

pub returns-in_err-order-clause-begun : goal.returns-in_err-order-clause-begun
returns-in_err-order-clause-begun c = IfOk-from_err c.from_residual.result (λ worker. worker.begun ≡ c.args.state.now.state) c.from_residual.ensures.0

pub returns-in_err-order-clause-worker_count : goal.returns-in_err-order-clause-worker_count
returns-in_err-order-clause-worker_count c = IfOk-from_err c.from_residual.result (λ worker. worker.worker_count ≡ c.args.worker_count) c.from_residual.ensures.0

pub returns-in_err-order-clause-room : goal.returns-in_err-order-clause-room
returns-in_err-order-clause-room c = IfOk-from_err c.from_residual.result (λ worker. worker.room ≡ c.args.room) c.from_residual.ensures.0

pub returns-in_err-order-clause-worker_number : goal.returns-in_err-order-clause-worker_number
returns-in_err-order-clause-worker_number c = IfOk-from_err c.from_residual.result (λ worker. worker.worker_number ≡ c.args.worker_number) c.from_residual.ensures.0

pub returns-in_err-order-clause-team : goal.returns-in_err-order-clause-team
returns-in_err-order-clause-team c = IfOk-from_err c.from_residual.result (λ worker. worker.team ≡ c.args.team) c.from_residual.ensures.0

pub returns-in_err-spare-clause-worker : goal.returns-in_err-spare-clause-worker
returns-in_err-spare-clause-worker c = IfOk-from_err c.from_residual-in_err-spare.result IsWorker c.from_residual-in_err-spare.ensures.0

pub returns-in_err-spare-clause-live : goal.returns-in_err-spare-clause-live
returns-in_err-spare-clause-live c = IfOk-from_err c.from_residual-in_err-spare.result (λ worker. worker.live ≡ c.args.live.now) c.from_residual-in_err-spare.ensures.0

pub returns-in_err-spare-clause-begun : goal.returns-in_err-spare-clause-begun
returns-in_err-spare-clause-begun c = IfOk-from_err c.from_residual-in_err-spare.result (λ worker. worker.begun ≡ c.args.state.now.state) c.from_residual-in_err-spare.ensures.0

pub returns-in_err-spare-clause-worker_count : goal.returns-in_err-spare-clause-worker_count
returns-in_err-spare-clause-worker_count c = IfOk-from_err c.from_residual-in_err-spare.result (λ worker. worker.worker_count ≡ c.args.worker_count) c.from_residual-in_err-spare.ensures.0

pub returns-in_err-spare-clause-room : goal.returns-in_err-spare-clause-room
returns-in_err-spare-clause-room c = IfOk-from_err c.from_residual-in_err-spare.result (λ worker. worker.room ≡ c.args.room) c.from_residual-in_err-spare.ensures.0

pub returns-in_err-spare-clause-worker_number : goal.returns-in_err-spare-clause-worker_number
returns-in_err-spare-clause-worker_number c = IfOk-from_err c.from_residual-in_err-spare.result (λ worker. worker.worker_number ≡ c.args.worker_number) c.from_residual-in_err-spare.ensures.0

pub returns-in_err-spare-clause-team : goal.returns-in_err-spare-clause-team
returns-in_err-spare-clause-team c = IfOk-from_err c.from_residual-in_err-spare.result (λ worker. worker.team ≡ c.args.team) c.from_residual-in_err-spare.ensures.0
