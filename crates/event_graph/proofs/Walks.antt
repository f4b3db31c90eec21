-- Walks of a graph, cut in two and joined.
use Rattle.std.proofs.Common.{◌≡◌, ℕ, zero, suc, ◌<◌, List, [], ◌∷◌, ◌++◌, length, get_or, take, drop, refl, sym, ◌∙◌, arith}
use Rattle.line_base.specs.declared.event.Parts.{Parts}
use Rattle.event_graph.specs.Network.{arc, arc_count}
use Rattle.event_graph.specs.Circuit.{IsWalk}

-- a walk from a station is one from a station that equals it
walk_from : (g : Parts) (s t u : ℕ) (arcs : List ℕ) → s ≡ t → IsWalk g t arcs u → IsWalk g s arcs u
walk_from g s t u [] same walk = same ∙ walk
walk_from g s t u (a ∷ arcs) same walk = (walk.0, walk.1 ∙ sym same, walk.2)

-- two walks, the second from where the first ends
pub walk_append : (g : Parts) (s t u : ℕ) (first second : List ℕ) → IsWalk g s first t → IsWalk g t second u → IsWalk g s (first ++ second) u
walk_append g s t u [] second walk next = walk_from g s t u second walk next
walk_append g s t u (a ∷ first) second walk next = (walk.0, walk.1, walk_append g (arc g a).to t u first second walk.2 next)

-- a walk with one more arc at its end
pub walk_push : (g : Parts) (s t a : ℕ) (arcs : List ℕ) → IsWalk g s arcs t → a < arc_count g → (arc g a).from ≡ t → IsWalk g s (arcs ++ a ∷ []) (arc g a).to
walk_push g s t a arcs walk exists from = walk_append g s t (arc g a).to arcs (a ∷ []) walk (exists, from, refl)

-- a walk up to the start of its arc at place k
pub walk_take : (g : Parts) (s u k : ℕ) (arcs : List ℕ) → IsWalk g s arcs u → k < length arcs → IsWalk g s (take k arcs) (arc g (get_or arcs k 0)).from
walk_take g s u k [] walk below = absurd (omega (arith, below))
walk_take g s u zero (a ∷ arcs) walk below = sym walk.1
walk_take g s u (suc k) (a ∷ arcs) walk below = (walk.0, walk.1, walk_take g (arc g a).to u k arcs walk.2 (omega arith))

-- and from there on
pub walk_drop : (g : Parts) (s u k : ℕ) (arcs : List ℕ) → IsWalk g s arcs u → k < length arcs → IsWalk g (arc g (get_or arcs k 0)).from (drop k arcs) u
walk_drop g s u k [] walk below = absurd (omega (arith, below))
walk_drop g s u zero (a ∷ arcs) walk below = (walk.0, refl, walk.2)
walk_drop g s u (suc k) (a ∷ arcs) walk below = walk_drop g (arc g a).to u k arcs walk.2 (omega arith)
