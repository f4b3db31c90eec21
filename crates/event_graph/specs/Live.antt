-- Source: Baccelli, Cohen, Olsder, Quadrat, Synchronization and Linearity, liveness.
use Rattle.std.specs.Prelude.{ℕ, ◌≤◌, List}
use Rattle.line_base.specs.declared.event.Parts.{Parts}
use Rattle.event_graph.specs.Circuit.{IsCircuit, tokens_on}

-- every circuit has a token at the start
abbrev pub IsLive : Parts → Type 0
IsLive g = (arcs : List ℕ) → IsCircuit g arcs → 1 ≤ tokens_on g arcs
