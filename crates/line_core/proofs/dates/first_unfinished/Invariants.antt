use Rattle.std.proofs.Common.{◌≡◌, drop}
use Rattle.std.specs.List.{find, range_with_len}
use Rattle.event_graph.specs.Network.{stations}
use Rattle.line_core.specs.Refusals.{is_behind, first_unfinished}
use Rattle.line_core.proofs.Runs.{state_in}
use Rattle.line_core.proofs.dates.first_unfinished.Given as goal

abbrev pub invariant-loop-t : goal.invariant-loop-t
invariant-loop-t l =
    find (is_behind l.graph (state_in l.graph l.logs)) (drop l.t (range_with_len 0 (stations l.graph))) ≡ first_unfinished l.graph (state_in l.graph l.logs)
