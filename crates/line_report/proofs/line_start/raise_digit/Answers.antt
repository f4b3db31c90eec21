use Rattle.line_report.proofs.Starts.{raised, two_at_least}
use Rattle.line_report.proofs.line_start.raise_digit.Goals as goal

pub overflow_sub-text : goal.overflow_sub-text
overflow_sub-text c =
    two_at_least c.args.text.now c.args.at c.args.end c.args.job c.requires.few c.requires.low c.requires.end c.requires.job

pub returns : goal.returns
returns c =
    raised c.args.text.now c.args.at c.args.end c.args.job c.requires.few c.requires.low c.requires.end c.requires.job
