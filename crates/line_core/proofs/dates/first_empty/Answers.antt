use Rattle.std.proofs.Common.{get_or, sym, ap, ◌∙◌, arith, length}
use Rattle.std.specs.List.{find}
use Rattle.std.proofs.lemmas.Bool.{eq-eqb, ne_eqb}
use Rattle.event_graph.specs.State.{place}
use Rattle.line_core.specs.Refusals.{is_empty}
use Rattle.line_core.proofs.Runs.{state_in}
use Rattle.line_core.proofs.Searches.{find-here, find-later, find-past}
use Rattle.line_core.proofs.dates.first_empty.Goals as goal

pub returns-then-tokens_on-eq0 : goal.returns-then-tokens_on-eq0
returns-then-tokens_on-eq0 c =
    let s = state_in c.args.graph.now c.args.logs.now in
    let ins = c.ins-ins.result.now in
    let i = c.loop-a.a-index in
    let empty = eq-eqb (length (place s (get_or ins i 0))) 0 (sym c.tokens_on.ensures ∙ c.if-tokens_on-eq0.true) in
    sym (find-here (is_empty s) ins i 0 c.loop-a-test.true empty)
    ∙ c.loop-a.invariant
    ∙ ap (find (is_empty s)) c.ins-ins.ensures.arcs

pub loop-a-preserved : goal.loop-a-preserved
loop-a-preserved c =
    let s = state_in c.args.graph.now c.args.logs.now in
    let ins = c.ins-ins.result.now in
    let i = c.loop-a.a-index in
    let other = ne_eqb (length (place s (get_or ins i 0))) 0 (λ none. c.if-tokens_on-eq0.false (c.tokens_on.ensures ∙ none)) in
    find-later (is_empty s) ins i 0 c.loop-a-test.true other ∙ c.loop-a.invariant

pub returns : goal.returns
returns c =
    let s = state_in c.args.graph.now c.args.logs.now in
    sym (find-past (is_empty s) c.ins-ins.result.now c.loop-a.a-index (omega (arith, c.loop-a-test.false)))
    ∙ c.loop-a.invariant
    ∙ ap (find (is_empty s)) c.ins-ins.ensures.arcs
