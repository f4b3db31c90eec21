use Rattle.std.proofs.Common.{◌≡◌, ℕ, ◌<◌, ◌≤◌, get_or}
use Rattle.event_graph.specs.Network.{arc, stations}
use Rattle.live_check.proofs.circuit.arc_on.Given as goal

abbrev pub invariant-loop-a : goal.invariant-loop-a
invariant-loop-a l =
    (k : ℕ) → k < l.a-index → (arc l.graph (get_or l.outs k 0)).tokens ≡ 0 → stations l.graph ≤ get_or l.ranks (arc l.graph (get_or l.outs k 0)).to 0 → ⊥
