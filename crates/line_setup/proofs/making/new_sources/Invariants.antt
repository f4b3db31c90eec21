use Rattle.std.proofs.Common.{◌≡◌, map, take}
use Rattle.line_setup.specs.Making.{source_of}
use Rattle.line_setup.proofs.making.new_sources.Given as goal

abbrev pub invariant-loop-a : goal.invariant-loop-a
invariant-loop-a l = l.sources.items ≡ map (source_of l.live.graph l.first) (take l.a-index l.arcs.items)
