use Rattle.std.proofs.Common.{subst, ◌∙◌}
use Rattle.std.proofs.lemmas.Result.{IfOk-from_err}
use Rattle.line_base.specs.declared.event.Parts.{Parts}
use Rattle.event_graph.specs.Live.{IsLive}
use Rattle.line_summary.specs.Points.{IsPointOf}
use Rattle.line_summary.proofs.trying.point_of.Goals as goal

pub returns-in_err-graph_of : goal.returns-in_err-graph_of
returns-in_err-graph_of c = IfOk-from_err c.from_residual.result (IsPointOf c.args.plant.now) c.from_residual.ensures.0

pub figures_of-figures-requires : goal.figures_of-figures-requires
figures_of-figures-requires c = record {
  sound = c.requires;
  of_plant = c.in-Ok.ensures.kept ∙ c.in_ok-graph_of.ensures.graph;
}

pub returns-in_err-figures-in-Ok : goal.returns-in_err-figures-in-Ok
returns-in_err-figures-in-Ok c =
    IfOk-from_err c.from_residual-in_err-figures-in-Ok.result (IsPointOf c.args.plant.now) c.from_residual-in_err-figures-in-Ok.ensures.0

pub returns-in_ok-figures-in-Ok : goal.returns-in_ok-figures-in-Ok
returns-in_ok-figures-in-Ok c =
    (subst IsLive c.in_ok-graph_of.ensures.graph c.in-Ok.ensures.live, c.in_ok-figures-in-Ok.ensures)

pub returns-in_err-check_dead-in-Err : goal.returns-in_err-check_dead-in-Err
returns-in_err-check_dead-in-Err c =
    IfOk-from_err c.from_residual-in_err-check_dead-in-Err.result (IsPointOf c.args.plant.now) c.from_residual-in_err-check_dead-in-Err.ensures.0

pub returns-in_ok-check_dead-in-Err : goal.returns-in_ok-check_dead-in-Err
returns-in_ok-check_dead-in-Err c =
    subst (λ (g : Parts). ¬ IsLive g) c.in_ok-graph_of.ensures.graph (c.in_ok-check_dead-in-Err.ensures _ c.in-Err.ensures.not_live)
