-- The arcs of a circuit without a token.
use Rattle.std.proofs.Common.{ℕ, ◌<◌, List, [], ◌∷◌}
use Rattle.std.specs.Prelude.{All}
use Rattle.std.specs.List.{AllByRecursion}
use Rattle.std.proofs.lemmas.List.Elements.{All-from_recursion}
use Rattle.line_base.specs.declared.event.Parts.{Parts}
use Rattle.event_graph.specs.Network.{arc_count, arc}
use Rattle.event_graph.specs.Circuit.{IsWalk}
use Rattle.live_check.specs.DeadCircuit.{IsDeadCircuit}

walk_exists : (g : Parts) (t u : ℕ) (arcs : List ℕ) → IsWalk g t arcs u → AllByRecursion (λ a. a < arc_count g) arcs
walk_exists g t u [] walk = tt
walk_exists g t u (a ∷ arcs) walk = (walk.0, walk_exists g (arc g a).to u arcs walk.2)

-- the arcs of a circuit are arcs of the graph
pub arcs_exist : (g : Parts) (arcs : List ℕ) → IsDeadCircuit g arcs → All (λ a. a < arc_count g) arcs
arcs_exist g arcs dead =
    All-from_recursion (λ a. a < arc_count g) arcs (walk_exists g dead.circuit.base dead.circuit.base arcs dead.circuit.closed)
