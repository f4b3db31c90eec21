use Rattle.std.proofs.Common.{ap, ◌∙◌, sym, arith, ℕ, ◌+◌, eqb, max, drop}
use Rattle.std.proofs.lemmas.Bool.{cond-true, cond-false, eq-eqb, ne_eqb}
use Rattle.event_graph.specs.GreatestValue.{greatest}
use Rattle.event_graph.specs.Table.{date_in}
use Rattle.event_graph.specs.Term.{term}
use Rattle.line_base.specs.Roomy.{dates_of}
use Rattle.line_core.specs.Consistent.{due_date}
use Rattle.line_core.proofs.Searches.{ord_max-nat, greatest-next, greatest-past}
use Rattle.line_core.proofs.parts.due_date.Goals as goal

pub returns-then-t-eq0 : goal.returns-then-t-eq0
unfolding due_date
returns-then-t-eq0 c = c.demand.ensures.date ∙ sym (cond-true (eqb c.args.t 0) _ _ (eq-eqb c.args.t 0 c.if-t-eq0.true))

pub loop-a-preserved : goal.loop-a-preserved
loop-a-preserved c =
    let asks = λ (a : ℕ). term c.args.graph.now (date_in (dates_of c.args.logs.now)) a c.args.n in
    ap (λ m. max m (greatest asks (drop (c.loop-a.a-index + 1) c.ins-ins.result.now))) (c.max-latest.ensures ∙ ord_max-nat c.loop-a.latest c.term_of.result ∙ ap (max c.loop-a.latest) c.term_of.ensures)
    ∙ greatest-next asks c.ins-ins.result.now c.loop-a.a-index 0 c.loop-a.latest c.loop-a-test.true
    ∙ c.loop-a.invariant

pub returns : goal.returns
unfolding due_date
returns c =
    let asks = λ (a : ℕ). term c.args.graph.now (date_in (dates_of c.args.logs.now)) a c.args.n in
    sym (greatest-past asks c.ins-ins.result.now c.loop-a.a-index c.loop-a.latest (omega arith))
    ∙ c.loop-a.invariant
    ∙ ap (greatest asks) c.ins-ins.ensures.arcs
    ∙ sym (cond-false (eqb c.args.t 0) _ _ (ne_eqb c.args.t 0 c.if-t-eq0.false))
