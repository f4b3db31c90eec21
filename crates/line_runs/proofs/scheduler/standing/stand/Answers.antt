use Rattle.std.proofs.Common.{sym, ◌∙◌}
use Rattle.line_runs.proofs.LinesOn.{goes_on_more}
use Rattle.line_runs.proofs.scheduler.standing.stand.Goals as goal

pub finish-requires-clause-line : goal.finish-requires-clause-line
finish-requires-clause-line g c = λ κs within. c.sweep_and_gather-line.ensures.line

pub finish-requires-clause-made_for : goal.finish-requires-clause-made_for
finish-requires-clause-made_for g c = λ κs within. c.requires.made_for ∙ sym c.sweep_and_gather-line.ensures.live

pub returns-clause-goes_on : goal.returns-clause-goes_on
returns-clause-goes_on g c =
    goes_on_more c.args.line c.sweep_and_gather-line.result c.finish.result c.sweep_and_gather-line.ensures c.finish.ensures.goes_on

pub returns-clause-finished : goal.returns-clause-finished
returns-clause-finished g c = c.finish.ensures.finished
