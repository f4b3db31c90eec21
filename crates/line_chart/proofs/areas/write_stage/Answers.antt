use Rattle.std.proofs.Common.{◌∙◌}
use Rattle.outside_io.proofs.OutgoingLemmas.{◌⨟◌}
use Rattle.line_chart.specs.ChartText.{class_path, stage_area}
use Rattle.line_chart.proofs.LaneFacts.{stage-name}
use Rattle.line_chart.proofs.areas.write_stage.Goals as goal

pub returns : goal.returns
unfolding stage_area class_path
returns g c =
    let p = c.args.run.now.plant in
    let name = c.text-name.ensures.text ∙ stage-name p c.args.stage c.as_slice.result.now c.index-as_slice-stage.result c.as_slice.ensures c.requires.exists in
    let head = rw (name, c.areas_end-y.ensures.end, c.most.ensures) at c.write_head.ensures in
    head ⨟ c.write_path_element.ensures ⨟ c.write_path_element-2.ensures ⨟ c.push.ensures
