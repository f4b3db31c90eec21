-- What arcs and walks weigh at a ratio of time to cards: a circuit weighs more than 0 where its own ratio is greater.
-- Source: Baccelli, Cohen, Olsder, Quadrat, Synchronization and Linearity, maximum cycle means and critical circuits.
use Rattle.std.specs.Prelude.{◌≡◌, ℕ, ◌+◌, ◌*◌, ◌<◌, ℤ, pos, ◌+ℤ◌, ◌-ℤ◌, ◌≤ℤ◌, List, slice_index_or}
use Rattle.line_base.specs.declared.event.Parts.{Parts}
use Rattle.event_graph.specs.Network.{stations, arc_count, arc, delay}
use Rattle.event_graph.specs.Term.{work}
use Rattle.event_graph.specs.Circuit.{IsWalk, tokens_on, time_along}

-- cards x (the job time and the delay of the arc) - time x its tokens
abbrev pub weight : Parts → ℕ → ℕ → ℕ → ℤ
weight g time cards a = pos (cards * (work g a 1 + delay g a)) -ℤ pos (time * (arc g a).tokens)

-- the sum of the weights of the arcs; of none it is 0
abbrev pub weight_along : Parts → ℕ → ℕ → List ℕ → ℤ
weight_along g time cards arcs = pos (cards * time_along g arcs) -ℤ pos (time * tokens_on g arcs)

-- the potential of station t
abbrev pub potential : List ℤ → ℕ → ℤ
potential potentials t = slice_index_or potentials t (pos 0)

-- no arc leads to a station whose potential is below that of its start and the arc's weight together
abbrev pub ArePotentials : Parts → ℕ → ℕ → List ℤ → Type 0
ArePotentials g time cards potentials =
    (a : ℕ) → a < arc_count g →
    (potential potentials (arc g a).from +ℤ weight g time cards a) ≤ℤ potential potentials (arc g a).to

-- the greatest weight of a walk that ends at station t, the empty walk among them
pub record IsGreatestWeight (g : Parts) (time cards t : ℕ) (most : ℤ) : Type 0 where
  pub start : ℕ
  pub walk : List ℕ
  pub ends : IsWalk g start walk t
  pub reached : weight_along g time cards walk ≡ most
  pub greatest : (s : ℕ) (arcs : List ℕ) → IsWalk g s arcs t → weight_along g time cards arcs ≤ℤ most

-- each station's potential is the greatest weight of a walk that ends there
abbrev pub AreGreatestWeights : Parts → ℕ → ℕ → List ℤ → Type 0
AreGreatestWeights g time cards potentials =
    (t : ℕ) → t < stations g → IsGreatestWeight g time cards t (potential potentials t)
