-- Laws of lines, each on a public function whose contract cites it.
use Rattle.std.specs.Prelude.{ℕ, List}
use Rattle.event_graph.specs.State.{State}
use Rattle.event_graph.specs.Reached.{Reached}
use Rattle.live_check.specs.Order.{IsRanked, LiveGraph}
use Rattle.line_core.specs.Consistent.{state_of}
use Rattle.line_worker.specs.Grown.{HasGrown}
use Rattle.line_worker.specs.Teams.{state_among}
use Rattle.line_worker.specs.Worker.{LineWorker, teams_of}
use Rattle.line_worker.specs.Workers.{graph_of, AreWorkers}
use Rattle.line_workers.specs.Line.{LogsGrow}
use Rattle.line_workers.specs.Gather.{IsWorkerAfter, AreWorkersAfter}

-- logs that have grown from a reached state of a live graph are those of a reached state
abbrev pub GrownIsReached : Type 0
GrownIsReached =
    (live : LiveGraph) (begun : State) (logs : List (List ℕ)) → IsRanked live → Reached live.graph begun →
    HasGrown live.graph begun logs → Reached live.graph (state_of live.graph logs)

-- the workers of a line are its workers still after any sweeps
abbrev pub SweptWorkersAreWorkers : Type 0
SweptWorkersAreWorkers = (old new : List LineWorker) → AreWorkers old → AreWorkersAfter old new → AreWorkers new

-- each log of theirs has the dates that it had, and maybe more behind them
abbrev pub SweepsLetLogsGrow : Type 0
SweepsLetLogsGrow =
    (old new : List LineWorker) → AreWorkers old → AreWorkersAfter old new →
    LogsGrow (graph_of old) (state_among (graph_of old) (teams_of old)) (state_among (graph_of old) (teams_of new))

-- what comes of sweeps after sweeps is what comes of sweeps
abbrev pub SweepsFollowSweeps : Type 0
SweepsFollowSweeps =
    (worker later last : LineWorker) → IsWorkerAfter worker later → IsWorkerAfter later last → IsWorkerAfter worker last
