use Rattle.std.proofs.Common.{refl}
use Rattle.std.specs.Prelude.{Ok}
use Rattle.answers.specs.declared.answer.Answer.TheVariants.{Reported}
use Rattle.commands.proofs.DatedPlants.{dated_of, writes_dated}
use Rattle.line_report.specs.ReportText.{report}
use Rattle.commands.proofs.reports.report_or_none.Goals as goal

pub new-requires : goal.new-requires
new-requires c = dated_of c.args.line c.in_ok-plant.field-0 c.requires.plant c.in_ok-plant.ensures

pub returns : goal.returns
returns c =
    let made = c.in_ok-report.report in
    writes_dated c.args.line c.in_ok-plant.field-0 report made.plant made.rows (Ok (Reported made))
    c.in_ok-plant.ensures c.in_ok-report.ensures.plant c.in_ok-report.ensures.dates refl
