use Rattle.std.proofs.Common.{◌≡◌, ◌+◌, ◌≤◌, ◌++◌, length, map, ap, ◌∙◌, sym, subst, arith}
use Rattle.std.proofs.lemmas.List.{get_or_read}
use Rattle.line_base.specs.Roomy.{RoomyLogs}
use Rattle.event_graph.specs.Network.{stations, jobs}
use Rattle.live_check.specs.Order.{LiveGraph}
use Rattle.line_worker.specs.Worker.{LineWorker}
use Rattle.line_worker.specs.Workers.{worker_at, no_worker, graph_of}
use Rattle.line_worker.specs.Logs.{copy_of}
use Rattle.line_workers.specs.Close.{AreGiven}
use Rattle.line_workers.proofs.LogsGiven.{given_none, given_more, given_fits, given_all}
use Rattle.line_workers.proofs.Lines.{target-of}
use Rattle.line_workers.proofs.closing.copies_of.Goals as goal

pub loop-worker-init : goal.loop-worker-init
loop-worker-init c =
    let workers = c.args.workers.now in
    let T = c.stations.ensures.count ∙ ap stations c.graph.ensures.graph ∙ ap (λ (l : LiveGraph). stations l.graph) c.requires.made_for in
    given_none (copy_of (jobs (graph_of workers))) workers c.requires.workers c.in_ok-logs.logs (ap (λ (l : RoomyLogs). l.logs) c.in_ok-logs.ensures)
    (omega (arith, T, ap (λ (l : RoomyLogs). l.room) c.in_ok-logs.ensures))

pub copy_logs-requires : goal.copy_logs-requires
copy_logs-requires c =
    let workers = c.args.workers.now in
    let k = c.loop-worker.worker-index in
    let low = c.loop-worker-test.true in
    subst (λ (x : LineWorker). length c.loop-worker.logs.logs + length x.team.stations ≤ c.loop-worker.logs.room) (sym (get_or_read workers k c.worker-item.result low c.worker-item.is no_worker)) (
    given_fits (copy_of (jobs (graph_of workers))) workers c.requires.workers k c.loop-worker.logs c.loop-worker.invariant low)

pub loop-worker-preserved : goal.loop-worker-preserved
loop-worker-preserved c =
    let workers = c.args.workers.now in
    let k = c.loop-worker.worker-index in
    let low = c.loop-worker-test.true in
    let old = c.loop-worker.logs in
    let at = get_or_read workers k c.worker-item.result low c.worker-item.is no_worker in
    let is : c.copy_logs.new.logs ≡ record old { logs = old.logs ++ map (copy_of (jobs (graph_of workers))) (worker_at workers k).team.stations } =
    c.in_ok-copy_logs.ensures
    ∙ ap (λ (x : LineWorker). (let r : RoomyLogs = record old { logs = old.logs ++ map (copy_of x.target) x.team.stations } in r)) at
    ∙ ap (λ n. (let r : RoomyLogs = record old { logs = old.logs ++ map (copy_of n) (worker_at workers k).team.stations } in r)) (target-of workers c.requires.workers k low) in
    given_more (copy_of (jobs (graph_of workers))) workers c.requires.workers k old c.copy_logs.new.logs c.loop-worker.invariant low is

pub returns : goal.returns
returns c =
    let workers = c.args.workers.now in
    let all : c.loop-worker.worker-index ≡ length workers = omega (arith, c.loop-worker-test.false, c.loop-worker.auto.worker-index-end) in
    given_all (copy_of (jobs (graph_of workers))) workers c.requires.workers c.loop-worker.logs (
    subst (λ n. AreGiven (copy_of (jobs (graph_of workers))) workers n c.loop-worker.logs) all c.loop-worker.invariant)
