-- The card circuits of a plant: their kinds, their arcs, and the numbers of their cards.
use Rattle.std.specs.Prelude.{◌≡◌, ℕ, ◌+◌, List, [], ◌∷◌, ◌++◌, length, map}
use Rattle.std.specs.List.{range_with_len}
use Rattle.line_base.specs.declared.event.Parts.{Parts}
use Rattle.plant_model.specs.declared.plant.Policy.{Policy}
use Rattle.plant_model.specs.declared.plant.Policy.TheVariants.{Kanban, Conwip, BaseStock, Extended}
use Rattle.plant_model.specs.declared.plant.Plant.{Plant}
use Rattle.plant_model.specs.Line.{stage_at, stage_numbers, loop_at, first_stages, path}
use Rattle.event_graph.specs.Circuit.{IsCircuit, tokens_on}
use Rattle.circuit_sums.specs.declared.circuit.CircuitKind.TheVariants as kind
use Rattle.circuit_sums.specs.declared.circuit.CardCircuit.{CardCircuit}
use Rattle.plant_model.specs.ArcNumbers.{onward_arcs, onward_arcs_of, onward_arcs_between, kanban_arc, extended_arc, conwip_arc, first_loop_arc}

-- the circuit of the cards of stage i, which go back by this arc
abbrev pub stage_circuit : Plant → (ℕ → ℕ) → ℕ → CardCircuit
stage_circuit p card_arc i =
    record { kind = kind.Stage i; arcs = onward_arcs p i ++ card_arc i ∷ []; number = (stage_at p i).cards }

-- the circuit of the line's cards through the first stage i, along its path and back
abbrev pub line_circuit : Plant → ℕ → ℕ → CardCircuit
line_circuit p cards i =
    record { kind = kind.Conwip i; arcs = onward_arcs_of p (path p i) ++ conwip_arc p i ∷ []; number = cards }

-- kanban: the circuits of the stages, in order
abbrev pub kanban_circuits : Plant → List CardCircuit
kanban_circuits p = map (stage_circuit p (kanban_arc p)) (stage_numbers p)

-- extended kanban: the circuits of the stages, in order
abbrev pub extended_circuits : Plant → List CardCircuit
extended_circuits p = map (stage_circuit p (extended_arc p)) (stage_numbers p)

-- CONWIP: the circuits of the line through the first stages, in order
abbrev pub conwip_circuits : Plant → ℕ → List CardCircuit
conwip_circuits p cards = map (line_circuit p cards) (first_stages p)

-- the circuits of the policy; base stock has none
abbrev pub policy_circuits : Plant → List CardCircuit
policy_circuits p = circuits_under p.policy
  where
    circuits_under : Policy → List CardCircuit
    circuits_under Kanban = kanban_circuits p
    circuits_under (Conwip cards) = conwip_circuits p cards
    circuits_under BaseStock = []
    circuits_under Extended = extended_circuits p

-- the circuit of the cards of loop k, from its first stage to its last on the path of its first, and back, where the
-- arcs of the loops stand from this one on
abbrev pub loop_circuit : Plant → ℕ → ℕ → CardCircuit
loop_circuit p first k =
    record {
      kind = kind.CardLoop k;
      arcs = onward_arcs_between p (loop_at p k).first (loop_at p k).last ++ (first + k) ∷ [];
      number = (loop_at p k).cards;
    }

-- the circuits of the loops, in order
abbrev pub loop_circuits : Plant → ℕ → List CardCircuit
loop_circuits p first = map (loop_circuit p first) (range_with_len 0 (length p.loops))

-- the circuits of the policy, then those of the loops, where the arcs of the loops stand from this one on
abbrev pub circuits_with : Plant → ℕ → List CardCircuit
circuits_with p first = policy_circuits p ++ loop_circuits p first

-- the card circuits: those of the policy, then those of the loops
unfoldable pub circuits : Plant → List CardCircuit
circuits p = circuits_with p (first_loop_arc p)

-- its arcs are a circuit of the graph, and its number is that of their tokens
pub record IsCardCircuit (g : Parts) (c : CardCircuit) : Type 0 where
  pub closed : IsCircuit g c.arcs
  pub number : tokens_on g c.arcs ≡ c.number
