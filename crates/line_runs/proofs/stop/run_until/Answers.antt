use Rattle.std.proofs.Common.{◌≡◌, ◌<◌, sym, ap, ◌∙◌, subst, arith, rules}
use Rattle.line_base.specs.declared.event.Parts.{Parts}
use Rattle.live_check.specs.Order.{LiveGraph}
use Rattle.line_core.specs.Consistent.{firing_count}
use Rattle.line_core.specs.Run.{Run}
use Rattle.line_runs.specs.Bursts.{IsDone, none}
use Rattle.line_runs.specs.AllFirings.{all_firings}
use Rattle.line_runs.specs.Stop.{IsShort, IsStopAt}
use Rattle.line_runs.specs.Headline.{MayBeResumed}
use Rattle.line_runs.proofs.Firings.{burst_leaves_less, undone_is_below}
use Rattle.line_runs.proofs.FirstBursts.{burst_live, led_more, bursts_made, finishes, stop_counts, finish_counts}
use Rattle.line_runs.proofs.Resumed.{may_be_resumed}
use Rattle.line_runs.proofs.stop.run_until.Goals as goal

pub loop-line-init : goal.loop-line-init
loop-line-init g c = record { made_for = c.requires; led = record { count = 0; bursts = none } }

pub loop-line-smaller : goal.loop-line-smaller
loop-line-smaller g c = burst_leaves_less c.loop-line.line c.burst_on.new.line c.burst_on.ensures

pub loop-line-preserved : goal.loop-line-preserved
loop-line-preserved g c = record {
  made_for = c.loop-line.invariant.made_for ∙ sym (burst_live c.loop-line.line c.burst_on.new.line c.burst_on.ensures);
  led = led_more c.args.firings c.args.line c.loop-line.line c.burst_on.new.line c.loop-line.invariant.led (omega (arith, c.fired.ensures.fired, c.if-fired-firings.false)) c.burst_on.ensures;
}

pub returns-then-fired-firings-clause-headline : goal.returns-then-fired-firings-clause-headline
returns-then-fired-firings-clause-headline g c =
    let line = c.loop-line.line in
    let undone : ¬ IsDone c.loop-line.line = search rules in
    let graph_is : c.close.result.graph ≡ c.args.live.now.graph =
    ap (λ (r : Run). r.graph) c.close.ensures.state ∙ ap (λ (v : LiveGraph). v.graph) (sym c.loop-line.invariant.made_for) in
    let left : firing_count c.close.result.state < all_firings c.close.result.graph =
    subst (λ (r : Run). firing_count r.state < all_firings r.graph) (sym c.close.ensures.state) (undone_is_below line c.finished.ensures.line undone) in
    (graph_is, subst (λ (g : Parts). MayBeResumed g c.close.result.state) graph_is (may_be_resumed c.close.result c.close.ensures.reached left))

pub returns-then-fired-firings-clause-stop : goal.returns-then-fired-firings-clause-stop
returns-then-fired-firings-clause-stop g c =
    let undone : ¬ IsDone c.loop-line.line = search rules in
    let led = c.loop-line.invariant.led in
    record {
      last = c.loop-line.line;
      count = led.count;
      bursts = led.bursts;
      counts = bursts_made c.args.firings c.args.line led.count c.loop-line.line led.bursts c.finished.ensures.line;
      enough = omega (arith, c.fired.ensures.fired, c.if-fired-firings.true);
      undone = undone;
      state = c.close.ensures.state;
    }

pub returns-then-fired-firings-clause-count : goal.returns-then-fired-firings-clause-count
returns-then-fired-firings-clause-count g c =
    let line = c.loop-line.line in
    let undone : ¬ IsDone c.loop-line.line = search rules in
    let counts = stop_counts c.args.firings c.args.line c.loop-line.invariant.led.count line c.loop-line.invariant.led.bursts c.finished.ensures.line (omega (arith, c.fired.ensures.fired, c.if-fired-firings.true)) undone in
    subst (λ (r : Run). IsStopAt c.args.live.now.graph c.args.firings (firing_count c.args.line.state) (firing_count r.state)) (sym c.close.ensures.state) (
    subst (λ (v : LiveGraph). IsStopAt v.graph c.args.firings (firing_count c.args.line.state) (firing_count line.state)) (sym c.requires) counts)

pub returns-clause-stop : goal.returns-clause-stop
returns-clause-stop g c =
    let done : IsDone c.loop-line.line = search rules in
    finishes c.args.firings c.args.line c.loop-line.line c.loop-line.invariant.led c.finished.ensures.line done c.table_of.result c.table_of.ensures.dates

pub returns-clause-count : goal.returns-clause-count
returns-clause-count g c = λ left.
    let line = c.loop-line.line in
    let done : IsDone c.loop-line.line = search rules in
    let first : firing_count c.args.line.state < all_firings c.args.line.live.graph =
    subst (λ (v : LiveGraph). firing_count c.args.line.state < all_firings v.graph) c.requires left in
    subst (λ (v : LiveGraph). IsShort v.graph c.args.firings (firing_count c.args.line.state)) (sym c.requires) (
    finish_counts c.args.firings c.args.line c.loop-line.invariant.led.count line c.loop-line.invariant.led.bursts c.finished.ensures.line done first)

pub burst_on-requires-clause-made_for : goal.burst_on-requires-clause-made_for
burst_on-requires-clause-made_for g c = λ κs within. c.loop-line.invariant.made_for

pub burst_on-requires-clause-undone : goal.burst_on-requires-clause-undone
burst_on-requires-clause-undone g c = let undone : ¬ IsDone c.loop-line.line = search rules in λ κs within. undone

pub table_of-requires-clause-made_for : goal.table_of-requires-clause-made_for
table_of-requires-clause-made_for g c = c.loop-line.invariant.made_for

pub returns-clause-headline : goal.returns-clause-headline
returns-clause-headline g c = c.table_of.ensures.table
