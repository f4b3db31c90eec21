use Rattle.std.proofs.Common.{sym, ◌∙◌, rules}
use Rattle.line_runs.specs.Bursts.{IsDone}
use Rattle.line_runs.proofs.Firings.{burst_leaves_less}
use Rattle.line_runs.proofs.LinesOn.{stays, goes_on_more, burst_goes_on}
use Rattle.line_runs.proofs.scheduler.bursts.finish.Goals as goal

pub loop-line-init : goal.loop-line-init
loop-line-init g c = stays c.args.line c.requires.line

pub loop-line-preserved : goal.loop-line-preserved
loop-line-preserved g c =
    goes_on_more c.args.line c.loop-line.line c.burst_on.new.line c.loop-line.invariant (burst_goes_on c.loop-line.line c.burst_on.new.line c.burst_on.ensures)

pub loop-line-smaller : goal.loop-line-smaller
loop-line-smaller g c = burst_leaves_less c.loop-line.line c.burst_on.new.line c.burst_on.ensures

pub burst_on-requires-clause-made_for : goal.burst_on-requires-clause-made_for
burst_on-requires-clause-made_for g c = λ κs within. c.requires.made_for ∙ sym c.loop-line.invariant.live

pub burst_on-requires-clause-undone : goal.burst_on-requires-clause-undone
burst_on-requires-clause-undone g c =
    let undone : ¬ IsDone c.loop-line.line = search rules in
    λ κs within. undone

pub returns-clause-goes_on : goal.returns-clause-goes_on
returns-clause-goes_on g c = c.loop-line.invariant

pub returns-clause-finished : goal.returns-clause-finished
returns-clause-finished g c = search rules
