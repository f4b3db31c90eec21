use Rattle.std.proofs.Common.{◌≡◌, ◌+◌, length, sym, ap, ◌∙◌, arith}
use Rattle.event_graph.specs.Network.{jobs}
use Rattle.event_graph.specs.Table.{date_in}
use Rattle.line_chart.specs.Bars.{meets, machine_bars}
use Rattle.line_chart.proofs.ChartLines.{first_bars, first_bars-missed, length-met, few_bars}
use Rattle.line_chart.proofs.bars.count_bars_of.Goals.{then-meets, else-meets}
use Rattle.line_chart.proofs.bars.count_bars_of.Goals as goal

pub overflow_add-count : goal.overflow_add-count
overflow_add-count c =
    omega (arith, c.loop-before.invariant, few_bars c.args.graph.now (date_in c.args.table.now.rows) c.args.window c.args.machine c.loop-before.before)

pub loop-before-preserved : goal.loop-before-preserved
loop-before-preserved c =
    let g = c.args.graph.now in
    let x = date_in c.args.table.now.rows in
    let w = c.args.window in
    let m = c.args.machine in
    let n = c.loop-before.before in
    let met = sym (c.meets.ensures ∙ ap (meets w) c.bar.ensures.bar) in
    elim c.if-meets.branch [
      | then-meets t ↦ t.count-is ∙ ap (λ k. k + 1) c.loop-before.invariant ∙ sym (length-met g x w m n (met ∙ t.if-meets.true))
      | else-meets t ↦ t.count-is ∙ c.loop-before.invariant ∙ ap length (sym (first_bars-missed g x w m n (met ∙ t.if-meets.false)))
    ]

pub returns : goal.returns
unfolding machine_bars
returns c =
    let all : c.loop-before.before ≡ jobs c.args.graph.now = omega (arith, c.jobs-before-end.ensures.count) in
    c.loop-before.invariant ∙ ap (λ n. length (first_bars c.args.graph.now (date_in c.args.table.now.rows) c.args.window c.args.machine n)) all
