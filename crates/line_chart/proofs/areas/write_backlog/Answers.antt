use Rattle.outside_io.proofs.OutgoingLemmas.{◌⨟◌}
use Rattle.line_chart.specs.ChartText.{class_path, backlog_area}
use Rattle.line_chart.proofs.areas.write_backlog.Goals as goal

pub returns : goal.returns
unfolding backlog_area class_path
returns g c =
    let head = rw (c.areas_end-y.ensures.end, c.len.ensures, c.most.ensures) at c.write_head.ensures in
    head ⨟ c.write_path_element.ensures ⨟ c.push.ensures
