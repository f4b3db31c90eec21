-- The parts of a sound plant's graph are built without a refusal.
use Rattle.std.proofs.Common.{◌≡◌, refl, inl, inr, arith}
use Rattle.line_base.specs.declared.event.Parts.{Parts}
use Rattle.plant_model.specs.declared.plant.Plant.{Plant}
use Rattle.plant_model.specs.Graph.{labels, times, rows, arcs_of, delays_of, graph}
use Rattle.plant_model.specs.Sound.{IsSound}
use Rattle.event_graph.specs.declared.error.GraphError.{GraphError}
use Rattle.event_graph.specs.declared.error.GraphError.TheVariants.{EndOutOfRange, FeedInput, NoInput, NoMemory}
use Rattle.event_graph.specs.Limits.{HasFewArcs}
use Rattle.event_graph.specs.Network.{IsGraph}
use Rattle.event_graph.specs.Faults.{IsFirstFault}
use Rattle.line_graph.proofs.Sizes.{stations-graph, arc_count-graph, few_arcs}

-- the parts that are the plant's are its graph
pub graph-parts : (p : Plant) (g : Parts) → g.labels ≡ labels p → g.times ≡ times p → g.dates ≡ p.demands → g.arcs ≡ arcs_of (rows p) → g.delays ≡ delays_of (rows p) → g ≡ graph p
unfolding graph
graph-parts p g is_labels is_times is_dates is_arcs is_delays =
    λ i. record { labels = is_labels i; times = is_times i; dates = is_dates i; arcs = is_arcs i; delays = is_delays i }

-- a graph has no fault
pub no_fault : (g : Parts) (e : GraphError) → IsGraph g → IsFirstFault g e → e ≡ NoMemory
no_fault g (EndOutOfRange a) good h =
    elim h.found [
      | inl start ↦ let below = good.starts_exist a h.within in absurd (omega arith)
      | inr end ↦ let below = good.ends_exist a h.within in absurd (omega arith)
    ]
no_fault g (FeedInput a) good h = absurd (good.feed_has_no_input a h.1.within h.1.found)
no_fault g (NoInput t) good h =
    let input = good.others_have_input t h.2.found.0 h.2.within in
    absurd (h.2.found.1 input.0 input.1 input.2)
no_fault g NoMemory good h = refl

pub few_arcs-graph : (p : Plant) → IsSound p → HasFewArcs (graph p)
few_arcs-graph p sound = omega (arith, stations-graph p, arc_count-graph p, few_arcs p sound)
