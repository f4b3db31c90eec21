use Rattle.std.proofs.Common.{◌++◌, take, decimal, ap, ◌∙◌}
use Rattle.latest_dates.specs.LatestText.{slack_words}
use Rattle.latest_dates.proofs.Lines.{line_parts}
use Rattle.latest_dates.proofs.writing.write_line.Goals as goal

pub returns-clause-written : goal.returns-clause-written
returns-clause-written c =
    c.write_slack.ensures.written
    ∙ ap (λ l. l ++ slack_words c.args.latest c.args.date) c.write-end.ensures.written
    ∙ line_parts (take c.args.at c.args.room.now) c.args.start.now.label (decimal c.args.start.now.job) (slack_words c.args.latest c.args.date)
