use Rattle.std.proofs.Common.{◌≡◌, ◌-◌, drop}
use Rattle.std.specs.List.{find, range_with_len}
use Rattle.event_graph.specs.Network.{stations}
use Rattle.what_if.specs.Edits.{is_machine_with, machine_with}
use Rattle.what_if.proofs.reader.machine_with.Given as goal

abbrev pub invariant-loop-t : goal.invariant-loop-t
invariant-loop-t l =
    find (is_machine_with l.graph l.text) (drop (l.t - 1) (range_with_len 1 (stations l.graph - 1))) ≡ machine_with l.graph l.text
