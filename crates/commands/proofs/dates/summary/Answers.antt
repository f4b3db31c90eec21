use Rattle.std.proofs.Common.{refl}
use Rattle.std.specs.Prelude.{Ok}
use Rattle.answers.specs.declared.answer.Answer.TheVariants.{Summary}
use Rattle.commands.proofs.DatedPlants.{writes_dated}
use Rattle.line_summary.specs.SummaryText.{summary_text}
use Rattle.commands.proofs.dates.summary.Goals as goal

pub new-requires : goal.new-requires
new-requires c =
    let dates = c.in_ok-plant.ensures in
    rw dates.plant (record { sound = c.requires.sound; of_plant = dates.least.graph_is })

pub returns : goal.returns
returns c =
    let made = c.in_ok-summary.summary in
    writes_dated c.args.line c.in_ok-plant.field-0 summary_text made.plant made.rows (Ok (Summary made))
    c.in_ok-plant.ensures c.in_ok-summary.ensures.plant c.in_ok-summary.ensures.dates refl
