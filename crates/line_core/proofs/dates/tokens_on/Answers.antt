use Rattle.std.proofs.Common.{ap, arith, length}
use Rattle.line_base.specs.declared.event.Arc.{Arc}
use Rattle.event_graph.specs.State.{log}
use Rattle.line_core.proofs.Runs.{state_in, length-place}
use Rattle.line_core.proofs.dates.tokens_on.Goals as goal

pub overflow_sub-result : goal.overflow_sub-result
overflow_sub-result c =
    let g = c.args.graph.now in
    let s = state_in g c.args.logs.now in
    omega (arith, ap (λ (x : Arc). x.tokens) c.arc-arc.ensures.arc, ap (λ (x : Arc). length (log s x.from)) c.arc-arc.ensures.arc, ap (λ (x : Arc). length (log s x.to)) c.arc-arc.ensures.arc, length-place g c.args.logs.now c.requires.has_room c.args.a c.requires.arc)

pub returns : goal.returns
returns c =
    let g = c.args.graph.now in
    let s = state_in g c.args.logs.now in
    omega (arith, ap (λ (x : Arc). x.tokens) c.arc-arc.ensures.arc, ap (λ (x : Arc). length (log s x.from)) c.arc-arc.ensures.arc, ap (λ (x : Arc). length (log s x.to)) c.arc-arc.ensures.arc, length-place g c.args.logs.now c.requires.has_room c.args.a c.requires.arc)
