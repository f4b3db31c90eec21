-- The counts that a line keeps of its stations, so that it need not look at each of them.
use Rattle.std.specs.Prelude.{◌≡◌, List, sum}
use Rattle.line_core.specs.Consistent.{firing_count}
use Rattle.line_worker.specs.Teams.{state_among}
use Rattle.line_worker.specs.Worker.{LineWorker, teams_of}
use Rattle.line_worker.specs.Workers.{graph_of}
use Rattle.line_workers.specs.declared.workers.Counts.{Counts}
use Rattle.line_workers.specs.OfWorkers.{turns_among}

-- how many firings and steps the stations of these workers have made together
pub record AreCounts (counts : Counts) (workers : List LineWorker) : Type 0 where
  pub fired : counts.fired ≡ firing_count (state_among (graph_of workers) (teams_of workers))
  pub steps : counts.steps ≡ sum (turns_among (graph_of workers) (teams_of workers))
