use Rattle.outside_io.proofs.OutgoingLemmas.{pushed_after}
use Rattle.line_report.proofs.words.write_number_behind.Goals as goal

pub returns : goal.returns
returns g c = pushed_after c.push.ensures c.push_number.ensures
