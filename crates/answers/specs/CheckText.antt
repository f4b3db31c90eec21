-- What `check` writes of a plant that is live: how large its graph is, and its card circuits.
use Rattle.std.specs.Prelude.{ℕ, List, ◌++◌, codes, decimal}
use Rattle.std.specs.List.{flat_map}
use Rattle.line_base.specs.declared.event.Parts.{Parts}
use Rattle.plant_model.specs.declared.plant.Plant.{Plant}
use Rattle.plant_model.specs.Line.{stage_at, loop_at}
use Rattle.plant_model.specs.Graph.{graph}
use Rattle.event_graph.specs.Network.{stations, jobs, arc_count}
use Rattle.circuit_sums.specs.Circuits.{circuits}
use Rattle.circuit_sums.specs.declared.circuit.CircuitKind.{CircuitKind}
use Rattle.circuit_sums.specs.declared.circuit.CircuitKind.TheVariants.{Stage, Conwip, CardLoop}
use Rattle.circuit_sums.specs.declared.circuit.CardCircuit.{CardCircuit}

-- the name of stage i
abbrev pub name_of : Plant → ℕ → List ℕ
name_of p i = (stage_at p i).name

-- whose cards go round
abbrev pub kind_words : Plant → CircuitKind → List ℕ
kind_words p (Stage i) = codes "circuit stage " ++ name_of p i
kind_words p (Conwip i) = codes "circuit conwip " ++ name_of p i
kind_words p (CardLoop k) =
    codes "circuit loop " ++ name_of p (loop_at p k).first ++ codes " " ++ name_of p (loop_at p k).last

-- a card circuit, and how many cards it has
abbrev pub circuit_line : Plant → CardCircuit → List ℕ
circuit_line p c = kind_words p c.kind ++ codes " " ++ decimal c.number ++ codes "\n"

-- how many stations, arcs and jobs there are
abbrev pub live_line : Parts → List ℕ
live_line g =
    codes "live " ++ (decimal (stations g)
    ++ (codes " stations " ++ (decimal (arc_count g)
    ++ (codes " arcs " ++ (decimal (jobs g) ++ codes " jobs\n")))))

-- all lines
abbrev pub check_text : Plant → List ℕ
check_text p = live_line (graph p) ++ flat_map (circuit_line p) (circuits p)
