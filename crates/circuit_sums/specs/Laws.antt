-- Laws of a plant's graph, each on a public function whose contract cites it.
use Rattle.std.specs.Prelude.{◌≡◌, ℕ, ◌+◌, ◌<◌, ◌≤◌, List, ◌∷◌, ◌++◌, length, map, Some, IsTrue, Contains, AllPairs}
use Rattle.line_base.specs.declared.event.Parts.{Parts}
use Rattle.plant_model.specs.declared.plant.Plant.{Plant}
use Rattle.plant_model.specs.Line.{machine_numbers, release, machine_station, receiver, starting, is_downstream, stock_between}
use Rattle.plant_model.specs.Graph.{graph}
use Rattle.event_graph.specs.State.{State, tokens_in}
use Rattle.event_graph.specs.Reached.{Reached}
use Rattle.event_graph.specs.Circuit.{IsWalk, starting_stations, tokens_on}
use Rattle.circuit_sums.specs.declared.circuit.CardCircuit.{CardCircuit}
use Rattle.plant_model.specs.ArcNumbers.{onward_arcs, onward_arcs_between}
use Rattle.circuit_sums.specs.Circuits.{circuits}
use Rattle.plant_model.specs.Bound.{bound}

-- the arcs lead from station t to station u, through stations of ascending numbers, with this many tokens at the start
pub record LeadsOn (g : Parts) (t : ℕ) (arcs : List ℕ) (u tokens : ℕ) : Type 0 where
  pub walk : IsWalk g t arcs u
  pub stock : tokens_on g arcs ≡ tokens
  pub ascending : AllPairs (λ v w. v < w) (starting_stations g arcs)

-- the onward arcs of a stage lead from its release to what it feeds, with its starting stock
abbrev pub StagesLeadOn : Plant → Type 0
StagesLeadOn p =
    (i : ℕ) → i < length p.stages → LeadsOn (graph p) (release p i) (onward_arcs p i) (receiver p i) (starting p i)

-- the stations of stage i: its release, then its machines
abbrev pub stations_of_stage : Plant → ℕ → List ℕ
stations_of_stage p i = release p i ∷ map (machine_station p i) (machine_numbers p i)

-- the onward arcs of a stage start at its stations, one at each, in order
abbrev pub StagesStartAtStations : Plant → Type 0
StagesStartAtStations p =
    (i : ℕ) → i < length p.stages → starting_stations (graph p) (onward_arcs p i) ≡ stations_of_stage p i

-- those of the stages from a to b on the path of a lead from the release of a to what b feeds, with the stock between
abbrev pub PathsLeadOn : Plant → Type 0
PathsLeadOn p =
    (a b : ℕ) → a < length p.stages → IsTrue (is_downstream p a b)
    → LeadsOn (graph p) (release p a) (onward_arcs_between p a b) (receiver p b) (stock_between p a b)

-- the arcs go through stage i: those before it, its onward arcs, those after it
pub record GoThrough (p : Plant) (i : ℕ) (arcs : List ℕ) : Type 0 where
  pub before : List ℕ
  pub after : List ℕ
  pub through : arcs ≡ before ++ (onward_arcs p i ++ after)

-- a card circuit of this number goes through stage i, and its other arcs lead from what the stage feeds back to the
-- release of the stage, with what the stage's starting stock leaves of the number
pub record IsBounded (p : Plant) (i number : ℕ) : Type 0 where
  pub circuit : CardCircuit
  pub listed : Contains (circuits p) circuit
  pub cards : circuit.number ≡ number
  pub way : GoThrough p i circuit.arcs
  pub back : IsWalk (graph p) (receiver p i) (way.after ++ way.before) (release p i)
  pub free : tokens_on (graph p) (way.after ++ way.before) + starting p i ≡ number

-- where a stage's bound is a number, a card circuit of that number goes through the stage
abbrev pub BoundsHaveCircuits : Plant → Type 0
BoundsHaveCircuits p = (i number : ℕ) → i < length p.stages → bound p i ≡ Some number → IsBounded p i number

-- where a stage's bound is a number, that many parts at most stand in the stage in every state that firings reach: from
-- its release to what it feeds
abbrev pub BoundsHold : Plant → Type 0
BoundsHold p =
    (s : State) → Reached (graph p) s
    → (i number : ℕ) → i < length p.stages → bound p i ≡ Some number → tokens_in s (onward_arcs p i) ≤ number
