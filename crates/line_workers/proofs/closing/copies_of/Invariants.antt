use Rattle.event_graph.specs.Network.{jobs}
use Rattle.line_worker.specs.Workers.{graph_of}
use Rattle.line_worker.specs.Logs.{copy_of}
use Rattle.line_workers.specs.Close.{AreGiven}
use Rattle.line_workers.proofs.closing.copies_of.Given as goal

abbrev pub invariant-loop-worker : goal.invariant-loop-worker
invariant-loop-worker l = AreGiven (copy_of (jobs (graph_of l.workers))) l.workers l.worker-index l.logs
