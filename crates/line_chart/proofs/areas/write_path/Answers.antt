use Rattle.std.proofs.Common.{◌≡◌, ◌≢◌, ◌-◌, sym, ◌∙◌, arith}
use Rattle.event_graph.specs.Table.{date_in}
use Rattle.outside_io.proofs.OutgoingLemmas.{pushed_none, ◌⨟◌}
use Rattle.line_chart.specs.Areas.{count_of}
use Rattle.line_chart.specs.ChartText.{path_text}
use Rattle.line_chart.proofs.StepLists.{steps-none, steps-step, steps-same}
use Rattle.line_chart.proofs.areas.write_path.Goals as goal
use Rattle.line_chart.proofs.areas.write_path.Goals.{then-now-height, else-now-height}

pub loop-date-init : goal.loop-date-init
loop-date-init g c =
    let f = count_of c.args.run.now.plant (date_in c.args.run.now.table.rows) c.args.count in
    let from = c.args.run.now.window.from in
    let d = c.next_date-date.result in
    let after = c.next_date-date.ensures.after in
    let still = c.next_date-date.ensures.still in (
      rw (steps-none f from d after still) (pushed_none _),
      c.count_at-height.ensures ∙ sym (still (d - 1) (omega arith) (omega arith)),
      after,
      c.next_date-date.ensures.within,
    )

pub loop-date-preserved : goal.loop-date-preserved
loop-date-preserved g c =
    let f = count_of c.args.run.now.plant (date_in c.args.run.now.table.rows) c.args.count in
    let from = c.args.run.now.window.from in
    let d = c.loop-date.date in
    let next = c.next_date-date-in-loop-date.result in
    let inv = c.loop-date.invariant in
    let after = c.next_date-date-in-loop-date.ensures.after in
    let still = c.next_date-date-in-loop-date.ensures.still in (
      elim c.if-now-height.branch [
        | then-now-height w ↦
            let other : f d ≢ f (d - 1) = λ same. w.if-now-height.true (c.count_at-now.ensures ∙ same ∙ sym inv.1) in
            rw (steps-step f from d next inv.2 after still other, w.out-is, w.sink-is)
            (inv.0 ⨟ (rw c.count_at-now.ensures at w.write_step.ensures))
        | else-now-height w ↦
            let same : f d ≡ f (d - 1) = sym c.count_at-now.ensures ∙ w.if-now-height.false ∙ inv.1 in
            rw (steps-same f from d next inv.2 after still same, w.out-is, w.sink-is) inv.0
      ],
      c.count_at-now.ensures ∙ sym (still (next - 1) (omega arith) (omega arith)),
      omega (arith, inv.2, after),
      c.next_date-date-in-loop-date.ensures.within,
    )

pub returns : goal.returns
unfolding path_text
returns g c =
    let f = count_of c.args.run.now.plant (date_in c.args.run.now.table.rows) c.args.count in
    let all : c.loop-date.date ≡ c.args.run.now.window.to = omega (arith, c.loop-date.invariant.3) in
    let first = rw c.count_at-height.ensures at c.write_numbered-2.ensures in
    let steps = rw all at c.loop-date.invariant.0 in
    c.write_numbered.ensures ⨟ first ⨟ steps ⨟ c.write_numbered-3.ensures ⨟ c.push.ensures
