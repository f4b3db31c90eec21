use Rattle.std.proofs.Common.{◌≡◌, drop}
use Rattle.std.specs.List.{find, range_with_len}
use Rattle.event_graph.specs.Network.{stations}
use Rattle.line_core.specs.Schedule.{is_label_of, station_with}
use Rattle.line_core.proofs.schedule.station_with.Given as goal

abbrev pub invariant-loop-t : goal.invariant-loop-t
invariant-loop-t l =
    find (is_label_of l.graph l.text) (drop l.t (range_with_len 0 (stations l.graph))) ≡ station_with l.graph l.text
