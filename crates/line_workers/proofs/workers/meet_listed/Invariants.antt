use Rattle.std.proofs.Common.{length}
use Rattle.event_graph.specs.Network.{arc_count}
use Rattle.line_worker.specs.Workers.{live_of, graph_of}
use Rattle.line_workers.specs.Link.{arcs_between}
use Rattle.line_workers.specs.Meeting.{IsMeeting, IsAmong}
use Rattle.line_workers.proofs.workers.meet_listed.Given as goal

abbrev pub invariant-loop-link : goal.invariant-loop-link
invariant-loop-link l =
    let g = graph_of l.initial.workers in
    IsMeeting (live_of l.initial.workers) l.initial.workers l.workers (IsAmong (arcs_between g (length l.initial.workers) (arc_count g)) l.link-index)
