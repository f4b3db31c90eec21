use Rattle.std.proofs.Common.{◌≡◌, sym, ap, ◌∙◌, arith}
use Rattle.event_graph.specs.Network.{jobs}
use Rattle.event_graph.specs.Table.{date_in}
use Rattle.outside_io.proofs.OutgoingLemmas.{pushed_none, ◌⨟◌}
use Rattle.line_chart.specs.Bars.{meets, machine_bars}
use Rattle.line_chart.specs.ChartText.{bar_line}
use Rattle.line_chart.proofs.ChartLines.{first_bars-missed, text-met}
use Rattle.line_chart.proofs.bars.write_bars_of.Goals.{then-meets, else-meets}
use Rattle.line_chart.proofs.bars.write_bars_of.Goals as goal

pub loop-before-init : goal.loop-before-init
loop-before-init g c = pushed_none _

pub loop-before-preserved : goal.loop-before-preserved
loop-before-preserved g c =
    let h = c.args.graph.now in
    let x = date_in c.args.table.now.rows in
    let w = c.args.window in
    let m = c.args.machine in
    let n = c.loop-before.before in
    let met = sym (c.meets.ensures ∙ ap (meets w) c.bar-bar.ensures.bar) in
    elim c.if-meets.branch [
      | then-meets t ↦
          rw (text-met bar_line h x w m n (met ∙ t.if-meets.true), t.out-is, t.sink-is)
          (c.loop-before.invariant ⨟ (rw c.bar-bar.ensures.bar at t.write_bar.ensures))
      | else-meets t ↦ rw (first_bars-missed h x w m n (met ∙ t.if-meets.false), t.out-is, t.sink-is) c.loop-before.invariant
    ]

pub returns : goal.returns
unfolding machine_bars
returns g c =
    let all : c.loop-before.before ≡ jobs c.args.graph.now = omega (arith, c.jobs-before-end.ensures.count) in
    rw all at c.loop-before.invariant
