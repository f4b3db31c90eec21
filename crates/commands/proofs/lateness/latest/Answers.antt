use Rattle.std.proofs.Common.{◌∙◌, ap}
use Rattle.std.proofs.lemmas.Result.{err_from_is_err_and}
use Rattle.commands.proofs.DateAnswers.{latest_found, latest_refused}
use Rattle.live_check.specs.Order.{LiveGraph}
use Rattle.plant_model.specs.Graph.{graph}
use Rattle.commands.proofs.lateness.latest.Goals as goal

pub latest_dates-requires-clause-of_graph : goal.latest_dates-requires-clause-of_graph
latest_dates-requires-clause-of_graph c =
    let dates = c.in_ok-plant.ensures in
    rw (dates.live, c.requires.plant.graph) dates.least.graph_is

pub returns-in_err-latest : goal.returns-in_err-latest
returns-in_err-latest c =
    let dates = c.in_ok-plant.ensures in
    let refused = rw (dates.live, c.requires.plant.graph) at c.in_err-latest.ensures.refused in
    let exit = c.from_residual-in_err-latest in
    let p = err_from_is_err_and exit.result exit.ensures.1 in
    rw p.1
    (latest_refused (graph c.args.line.plant) c.args.wait c.in_ok-plant.field-0.table.rows
    c.in_err-latest.field-0.0 p.0 dates.least.least refused p.2)

pub returns : goal.returns
returns c =
    let live_is = c.in_ok-latest.ensures.live ∙ c.in_ok-plant.ensures.live in
    let same = ap (λ (l : LiveGraph). l.graph) live_is ∙ c.requires.plant.graph in
    latest_found (graph c.args.line.plant) c.args.wait c.in_ok-latest.latest same c.in_ok-latest.ensures.wait
    c.in_ok-latest.ensures.found
