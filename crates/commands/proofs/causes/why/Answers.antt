use Rattle.std.proofs.Common.{ap, ◌∙◌, arith}
use Rattle.commands.proofs.DateAnswers.{names, names_none}
use Rattle.event_graph.specs.Network.{stations, jobs}
use Rattle.line_base.specs.declared.event.Parts.{Parts}
use Rattle.commands.proofs.causes.why.Goals as goal

pub causes_of-requires-clause-station : goal.causes_of-requires-clause-station
causes_of-requires-clause-station c =
    let same = c.graph.ensures.graph ∙ c.requires.plant.graph in
    omega (arith, c.in-Ok.ensures.station, ap (λ (g : Parts). stations g) same)

pub causes_of-requires-clause-job : goal.causes_of-requires-clause-job
causes_of-requires-clause-job c =
    let same = c.graph.ensures.graph ∙ c.requires.plant.graph in
    omega (arith, c.in-Ok.ensures.job, ap (λ (g : Parts). jobs g) same)

pub returns-in-Ok : goal.returns-in-Ok
returns-in-Ok c =
    names c.args.line.plant c.graph.result.now c.args.label c.as_bytes.result.now c.in-Ok.station c.args.job
    c.causes_of.result (c.graph.ensures.graph ∙ c.requires.plant.graph) (c.as_bytes.ensures.value ∙ c.as_str.ensures)
    c.in-Ok.ensures.named c.causes_of.ensures

pub returns-in-Err : goal.returns-in-Err
returns-in-Err c =
    names_none c.args.line.plant c.graph.result.now c.args.label c.as_bytes.result.now c.args.job
    (c.graph.ensures.graph ∙ c.requires.plant.graph) (c.as_bytes.ensures.value ∙ c.as_str.ensures)
    c.in-Err.ensures.none
