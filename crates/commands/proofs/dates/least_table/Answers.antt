use Rattle.std.proofs.Common.{ap, ◌∙◌}
use Rattle.commands.proofs.LeastTables.{is_least_table}
use Rattle.line_core.specs.Run.{Dates}
use Rattle.commands.proofs.dates.least_table.Goals as goal

pub returns : goal.returns
returns c =
    let same = ap (λ (d : Dates). d.graph) c.into_table.ensures.dates ∙ c.in_ok-end.ensures.made_for in
    is_least_table c.args.live.now.graph c.into_table.result same c.into_table.ensures.least
