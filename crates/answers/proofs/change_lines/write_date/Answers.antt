use Rattle.outside_io.proofs.OutgoingLemmas.{◌⨟◌}
use Rattle.answers.specs.ChangesText.{change_line}
use Rattle.answers.proofs.SinkLines.{written_none, written_line, no_line, one_line}
use Rattle.answers.proofs.change_lines.write_date.Goals as goal

pub returns-then-old-new-clause-written : goal.returns-then-old-new-clause-written
returns-then-old-new-clause-written g c =
    rw (no_line c.args.label.now c.args.job c.args.old c.args.new c.if-old-new.true) (written_none _)

pub returns-clause-written : goal.returns-clause-written
returns-clause-written g c =
    rw (one_line c.args.label.now c.args.job c.args.old c.args.new c.if-old-new.false)
    (written_line _ _ (change_line c.args.label.now c.args.job c.args.old c.args.new)
    (c.push.ensures ⨟ c.push-2.ensures ⨟ c.push_number.ensures ⨟ c.push_last_two_numbers.ensures))
