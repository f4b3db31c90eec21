use Rattle.outside_io.proofs.OutgoingLemmas.{◌⨟◌}
use Rattle.line_summary.proofs.texts.write_label.Goals as goal

pub returns : goal.returns
returns g c = c.write_stage_name.ensures ⨟ c.push.ensures ⨟ c.write_machine_name.ensures
