use Rattle.std.proofs.Common.{arith}
use Rattle.plant_model.proofs.LayoutFacts.{few_stages}
use Rattle.outside_io.proofs.OutgoingLemmas.{◌⨟◌}
use Rattle.line_chart.specs.ChartText.{picture}
use Rattle.line_chart.proofs.picture.write_picture.Goals as goal

pub overflow_add-len : goal.overflow_add-len
overflow_add-len g c = omega (arith, few_stages c.args.run.now.plant c.requires.of_plant.sound, c.len.ensures)

pub returns : goal.returns
unfolding picture
returns g c =
    let head = rw (c.areas_end-end.ensures.end, c.len.ensures) at c.write_head.ensures in
    let axis = rw (c.areas_end-end.ensures.end, c.len.ensures) at c.write_axis.ensures in
    head ⨟ axis ⨟ c.write_names.ensures ⨟ c.write_bars.ensures ⨟ c.write_stages.ensures ⨟ c.write_backlog.ensures
    ⨟ c.push.ensures
