use Rattle.std.proofs.Common.{◌≡◌, drop, max}
use Rattle.event_graph.specs.GreatestValue.{greatest}
use Rattle.event_graph.specs.Table.{date_in}
use Rattle.event_graph.specs.Term.{term}
use Rattle.line_base.specs.Roomy.{dates_of}
use Rattle.line_core.proofs.parts.due_date.Given as goal

abbrev pub invariant-loop-a : goal.invariant-loop-a
invariant-loop-a l =
    max l.latest (greatest (λ a. term l.graph (date_in (dates_of l.logs)) a l.n) (drop l.a-index l.ins)) ≡ greatest (λ a. term l.graph (date_in (dates_of l.logs)) a l.n) l.ins
