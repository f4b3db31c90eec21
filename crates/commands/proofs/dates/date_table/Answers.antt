use Rattle.std.proofs.Common.{refl}
use Rattle.std.specs.Prelude.{Ok}
use Rattle.answers.specs.declared.answer.Answer.TheVariants.{Dates}
use Rattle.commands.proofs.DatedPlants.{dated_of, writes_dated}
use Rattle.line_chart.specs.TableText.{table_text}
use Rattle.commands.proofs.dates.date_table.Goals as goal

pub new-requires : goal.new-requires
new-requires c = dated_of c.args.line c.in_ok-plant.field-0 c.requires c.in_ok-plant.ensures

pub returns : goal.returns
returns c =
    let made = c.in_ok-dates.dates in
    writes_dated c.args.line c.in_ok-plant.field-0 table_text made.plant made.rows (Ok (Dates made))
    c.in_ok-plant.ensures c.in_ok-dates.ensures.plant c.in_ok-dates.ensures.dates refl
