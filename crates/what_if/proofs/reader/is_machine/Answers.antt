use Rattle.std.proofs.Common.{ℕ, Bool, false, List, get_or, length, sym, ap, ◌∙◌, arith}
use Rattle.std.specs.Prelude.{◌||◌}
use Rattle.std.specs.List.{list_any}
use Rattle.std.proofs.lemmas.List.{take_all}
use Rattle.std.proofs.lemmas.List.Folds.{list_any_at, list_any_more}
use Rattle.line_base.specs.declared.event.Arc.{Arc}
use Rattle.event_graph.specs.Network.{arc}
use Rattle.what_if.proofs.reader.is_machine.Goals as goal

abbrev worked_in : List Arc → ℕ → Bool
worked_in arcs a = (get_or arcs a (record { from = 0; to = 0; tokens = 0; worked = false })).worked

pub bounds-arcs-a : goal.bounds-arcs-a
bounds-arcs-a c =
    omega (arith, (c.ins-ins.ensures.each c.loop-a.a-index 0 c.loop-a-test.true).0, ap length c.arcs-arcs.ensures.arcs)

pub returns-then-arcs-a : goal.returns-then-arcs-a
returns-then-arcs-a c =
    let g = c.args.graph.now in
    let a = get_or c.ins-ins.result.now c.loop-a.a-index 0 in
    let here = ap (λ (arcs : List Arc). worked_in arcs a) (sym c.arcs-arcs.ensures.arcs) ∙ c.if-arcs-a.true in
    sym (ap (list_any (λ a. (arc g a).worked)) (sym c.ins-ins.ensures.arcs)
    ∙ list_any_at (λ a. (arc g a).worked) c.ins-ins.result.now c.loop-a.a-index 0 c.loop-a-test.true here)

pub loop-a-preserved : goal.loop-a-preserved
loop-a-preserved c =
    let g = c.args.graph.now in
    let a = get_or c.ins-ins.result.now c.loop-a.a-index 0 in
    let here = ap (λ (arcs : List Arc). worked_in arcs a) (sym c.arcs-arcs.ensures.arcs) ∙ c.if-arcs-a.false in
    list_any_more (λ a. (arc g a).worked) c.ins-ins.result.now c.loop-a.a-index 0 c.loop-a-test.true
    ∙ ap (λ b. b || (arc g a).worked) c.loop-a.invariant
    ∙ here

pub returns : goal.returns
returns c =
    let g = c.args.graph.now in
    sym c.loop-a.invariant
    ∙ ap (list_any (λ a. (arc g a).worked)) (take_all c.loop-a.a-index c.ins-ins.result.now c.loop-a-test.false ∙ c.ins-ins.ensures.arcs)
