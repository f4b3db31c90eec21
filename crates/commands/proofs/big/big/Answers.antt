use Rattle.std.proofs.Common.{refl}
use Rattle.std.specs.Prelude.{Ok}
use Rattle.answers.specs.declared.answer.Answer.TheVariants.{Summarized}
use Rattle.commands.proofs.DatedPlants.{dated_of, writes_dated}
use Rattle.line_report.specs.SummaryText.{summary}
use Rattle.commands.proofs.big.big.Goals as goal

pub new-requires : goal.new-requires
new-requires g c = dated_of c.in_ok-line.line c.in_ok-plant.field-0 c.in_ok-line.ensures.line c.in_ok-plant.ensures

pub returns : goal.returns
returns g c =
    let made = c.in_ok-report.report in
    rw c.in_ok-line.ensures.plant at
    (writes_dated c.in_ok-line.line c.in_ok-plant.field-0 summary made.plant made.rows (Ok (Summarized made))
    c.in_ok-plant.ensures c.in_ok-report.ensures.plant c.in_ok-report.ensures.dates refl)
