use Rattle.std.proofs.Common.{◌≡◌, take, false}
use Rattle.std.specs.List.{list_any}
use Rattle.event_graph.specs.Network.{arc}
use Rattle.what_if.proofs.reader.is_machine.Given as goal

abbrev pub invariant-loop-a : goal.invariant-loop-a
invariant-loop-a l = list_any (λ a. (arc l.graph a).worked) (take l.a-index l.ins) ≡ false
