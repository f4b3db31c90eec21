use Rattle.std.proofs.Common.{◌∙◌, sym, subst}
use Rattle.line_base.specs.declared.event.Parts.{Parts}
use Rattle.event_graph.specs.Live.{IsLive}
use Rattle.line_graph.specs.DeadLabels.{AreDead}
use Rattle.card_sizing.proofs.EnoughCards.{in_time_from, late_from}
use Rattle.card_sizing.proofs.DeadLines.{shows_its_circuit, names_its_circuit}
use Rattle.card_sizing.proofs.trying.try_plant.Goals as goal

pub returns-in-Some : goal.returns-in-Some
returns-in-Some c =
    let is = c.in-Ok.ensures.kept ∙ c.in_ok-graph_of.ensures.graph in
    let live = subst IsLive (sym c.in-Ok.ensures.kept) c.in-Ok.ensures.live in
    late_from c.args.plant.now c.args.may c.in-Ok.live.graph is live c.in-Some.field-0.job c.in-Some.field-0.wait
    (rw c.in-Some.is at c.in_ok-job-in-Ok.ensures)

pub returns-in-None : goal.returns-in-None
returns-in-None c =
    let is = c.in-Ok.ensures.kept ∙ c.in_ok-graph_of.ensures.graph in
    let live = subst IsLive (sym c.in-Ok.ensures.kept) c.in-Ok.ensures.live in
    in_time_from c.args.plant.now c.args.may c.in-Ok.live.graph is live (rw c.in-None.is at c.in_ok-job-in-Ok.ensures)

pub labels_of-requires : goal.labels_of-requires
labels_of-requires c =
    shows_its_circuit c.in_ok-graph_of.field-0 c.in-Err.not_live c.in-Err.ensures.handed_back c.in-Err.ensures.dead_circuit

pub returns-in_ok-labels-in-Err : goal.returns-in_ok-labels-in-Err
returns-in_ok-labels-in-Err c =
    subst (λ (g : Parts). AreDead g c.in_ok-labels-in-Err.labels) c.in_ok-graph_of.ensures.graph
    (names_its_circuit c.in_ok-graph_of.field-0 c.in-Err.not_live c.in_ok-labels-in-Err.labels c.in-Err.ensures.handed_back c.in_ok-labels-in-Err.ensures)
