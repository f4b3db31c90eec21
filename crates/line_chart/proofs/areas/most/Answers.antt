use Rattle.std.proofs.Common.{max, sym, ap, ◌∙◌, arith}
use Rattle.event_graph.specs.Table.{date_in}
use Rattle.line_core.proofs.Searches.{ord_max-nat}
use Rattle.line_chart.specs.Areas.{count_of, most}
use Rattle.line_chart.proofs.StepLists.{most-more, most-none}
use Rattle.line_chart.proofs.areas.most.Goals as goal

pub loop-date-init : goal.loop-date-init
loop-date-init c = (sym (most-none (count_of c.args.run.now.plant (date_in c.args.run.now.table.rows) c.args.count) c.args.run.now.window.from), omega arith, omega (arith, c.requires.run.window.forward))

pub loop-date-preserved : goal.loop-date-preserved
loop-date-preserved c =
    let f = count_of c.args.run.now.plant (date_in c.args.run.now.table.rows) c.args.count in
    let from = c.args.run.now.window.from in
    let d = c.loop-date.date in
    let next = c.next_date-date.result in
    let inv = c.loop-date.invariant in (
      c.max-most.ensures
          ∙ ord_max-nat c.loop-date.most c.count_at.result
          ∙ ap (λ m. max m c.count_at.result) inv.0
          ∙ ap (max (most f from d)) c.count_at.ensures
          ∙ sym (most-more f from d next inv.1 c.next_date-date.ensures.after c.next_date-date.ensures.still),
      omega (arith, inv.1, c.next_date-date.ensures.after),
      c.next_date-date.ensures.within,
    )
