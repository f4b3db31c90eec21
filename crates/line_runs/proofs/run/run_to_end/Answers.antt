use Rattle.std.proofs.Common.{◌<◌, sym, ◌∙◌, subst, rules}
use Rattle.live_check.specs.Order.{LiveGraph}
use Rattle.line_core.specs.Consistent.{firing_count}
use Rattle.line_runs.specs.AllFirings.{all_firings}
use Rattle.line_runs.specs.Bursts.{IsDone, none}
use Rattle.line_runs.proofs.Firings.{burst_leaves_less, undone_is_below}
use Rattle.line_runs.proofs.FirstBursts.{burst_live, led_more, finishes}
use Rattle.line_runs.proofs.run.run_to_end.Goals as goal

pub loop-line-init : goal.loop-line-init
loop-line-init g c = record { made_for = c.requires; led = record { count = 0; bursts = none } }

pub loop-line-smaller : goal.loop-line-smaller
loop-line-smaller g c = burst_leaves_less c.loop-line.line c.burst_on.new.line c.burst_on.ensures

pub loop-line-preserved : goal.loop-line-preserved
loop-line-preserved g c =
    let line = c.loop-line.line in
    let inv = c.loop-line.invariant in
    let undone : ¬ IsDone c.loop-line.line = search rules in
    let left : firing_count line.state < all_firings c.args.live.now.graph =
    subst (λ (v : LiveGraph). firing_count line.state < all_firings v.graph) (sym inv.made_for) (undone_is_below line c.finished.ensures.line undone) in
    record {
      made_for = inv.made_for ∙ sym (burst_live line c.burst_on.new.line c.burst_on.ensures);
      led = led_more (all_firings c.args.live.now.graph) c.args.line line c.burst_on.new.line inv.led left c.burst_on.ensures;
    }

pub burst_on-requires-clause-made_for : goal.burst_on-requires-clause-made_for
burst_on-requires-clause-made_for g c = λ κs within. c.loop-line.invariant.made_for

pub burst_on-requires-clause-undone : goal.burst_on-requires-clause-undone
burst_on-requires-clause-undone g c = let undone : ¬ IsDone c.loop-line.line = search rules in λ κs within. undone

pub returns : goal.returns
returns g c =
    let done : IsDone c.loop-line.line = search rules in
    record {
      least = c.table_of.ensures.table;
      bursts = finishes (all_firings c.args.live.now.graph) c.args.line c.loop-line.line c.loop-line.invariant.led c.finished.ensures.line done c.table_of.result c.table_of.ensures.dates;
    }

pub table_of-requires-clause-made_for : goal.table_of-requires-clause-made_for
table_of-requires-clause-made_for g c = c.loop-line.invariant.made_for
