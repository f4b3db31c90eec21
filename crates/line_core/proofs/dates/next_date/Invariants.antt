use Rattle.std.proofs.Common.{◌≡◌, drop, max}
use Rattle.event_graph.specs.GreatestValue.{greatest}
use Rattle.line_core.proofs.Runs.{asks}
use Rattle.line_core.proofs.dates.next_date.Given as goal

abbrev pub invariant-loop-a : goal.invariant-loop-a
invariant-loop-a l =
    max l.latest (greatest (asks l.graph l.logs l.done) (drop l.a-index l.ins)) ≡ greatest (asks l.graph l.logs l.done) l.ins
