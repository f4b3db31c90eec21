use Rattle.event_graph.specs.Faults.{HasNone, EntersFeed}
use Rattle.event_graph.proofs.checks.check_feed.Given as goal

abbrev pub invariant-loop-number : goal.invariant-loop-number
invariant-loop-number l = HasNone (EntersFeed l.parts) l.number
