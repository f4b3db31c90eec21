use Rattle.event_graph.specs.Faults.{HasNone, NamesNoStation}
use Rattle.event_graph.proofs.checks.check_ends.Given as goal

abbrev pub invariant-loop-number : goal.invariant-loop-number
invariant-loop-number l = HasNone (NamesNoStation l.parts) l.number
