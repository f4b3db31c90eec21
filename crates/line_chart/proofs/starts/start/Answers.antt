use Rattle.std.proofs.Common.{ℕ, List, false, max, get_or, refl, sym, ap, ◌∙◌, arith}
use Rattle.line_base.specs.declared.event.Arc.{Arc}
use Rattle.std.proofs.lemmas.List.{take_all}
use Rattle.std.specs.List.{filter}
use Rattle.event_graph.specs.Network.{arc}
use Rattle.event_graph.specs.Table.{date_in}
use Rattle.event_graph.specs.Term.{token_date}
use Rattle.event_graph.specs.GreatestValue.{greatest}
use Rattle.line_core.proofs.Searches.{ord_max-nat}
use Rattle.line_chart.specs.Starts.{start, worked_ins}
use Rattle.line_chart.proofs.StartFacts.{passing-more, failing-more}
use Rattle.line_chart.proofs.starts.start.Goals.{then-arcs-a, else-arcs-a}
use Rattle.line_chart.proofs.starts.start.Goals as goal

pub loop-a-init : goal.loop-a-init
unfolding greatest
loop-a-init c = (refl, omega arith)

pub loop-a-preserved : goal.loop-a-preserved
loop-a-preserved c =
    let g = c.args.graph.now in
    let dates = λ (a : ℕ). token_date g (date_in c.args.table.now.rows) a c.args.n in
    let works = λ (a : ℕ). (arc g a).worked in
    let items = c.ins-a-items.result.now in
    let i = c.loop-a.a-index in
    let read = ap (λ (arcs : List Arc). (get_or arcs (get_or items i 0) (record { from = 0; to = 0; tokens = 0; worked = false })).worked) c.arcs-arcs.ensures.arcs in
    elim c.if-arcs-a.branch [
      | then-arcs-a w ↦
          let more = passing-more dates works items i 0 c.loop-a.start c.loop-a-test.true (sym read ∙ w.if-arcs-a.true) c.loop-a.invariant.0 in
          let larger = w.max-start.ensures ∙ ord_max-nat c.loop-a.start w.token_date.result in
          (w.start-is ∙ larger ∙ ap (max c.loop-a.start) w.token_date.ensures.date ∙ more, omega (arith, w.start-is, larger, c.loop-a.invariant.1, w.token_date.ensures.early))
      | else-arcs-a w ↦
          let more = failing-more dates works items i 0 c.loop-a.start c.loop-a-test.true (sym read ∙ w.if-arcs-a.false) c.loop-a.invariant.0 in
          (w.start-is ∙ more, omega (arith, w.start-is, c.loop-a.invariant.1))
    ]

pub returns-clause-start : goal.returns-clause-start
unfolding start worked_ins
returns-clause-start c =
    let items = c.ins-a-items.result.now in
    let all = take_all c.loop-a.a-index items (omega arith) in
    c.loop-a.invariant.0
    ∙ ap (λ l. greatest (λ a. token_date c.args.graph.now (date_in c.args.table.now.rows) a c.args.n) (filter (λ a. (arc c.args.graph.now a).worked) l)) (all ∙ c.ins-a-items.ensures.arcs)
