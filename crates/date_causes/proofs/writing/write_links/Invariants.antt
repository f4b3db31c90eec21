use Rattle.std.proofs.Common.{take}
use Rattle.std.specs.List.{flat_map}
use Rattle.outside_io.specs.Outgoing.{Pushed, stream}
use Rattle.date_causes.specs.WhyText.{link_line}
use Rattle.date_causes.proofs.writing.write_links.Given as goal

-- the lines of the links before are written
abbrev pub invariant-loop-link : goal.invariant-loop-link
invariant-loop-link g l =
    Pushed (stream (g.K.Sink.shown l.initial.sink) l.initial.out)
    (stream (g.K.Sink.shown l.sink) l.out)
    (flat_map (link_line l.plant) (take l.link-index l.links))
