use Rattle.std.proofs.Common.{length, refl, ap, ◌∙◌, arith}
use Rattle.line_base.specs.Roomy.{RoomyLog}
use Rattle.event_graph.proofs.Sizes.{delay-small}
use Rattle.checkpoint.proofs.ReadTokens.{left_within, left_is}
use Rattle.checkpoint.proofs.tokens.tokens_left.Goals as goal

pub after_takes-requires-clause-within : goal.after_takes-requires-clause-within
after_takes-requires-clause-within c =
    let g = c.args.graph.now in
    let a = c.args.a in
    let read = c.arc-arc.ensures.arc in
    left_within g c.args.logs.now a _ c.dates-made.result.now c.delay.result read c.arc-arc.ensures.graph c.requires.arc c.requires.a_log_each c.requires.given (c.dates-made.ensures ∙ ap (λ (l : RoomyLog). l.dates) c.get-2.ensures) (omega (arith, c.delay.ensures.delay, delay-small g a c.delay.ensures.limits))

pub returns : goal.returns
returns c =
    let g = c.args.graph.now in
    let a = c.args.a in
    let read = c.arc-arc.ensures.arc in
    left_is g c.args.logs.now a _ _ _ c.min.result c.dates-made.result.now c.after_takes.result c.delay.result read
    (ap length (c.dates-taken.ensures ∙ ap (λ (l : RoomyLog). l.dates) c.get.ensures))
    (c.dates-made.ensures ∙ ap (λ (l : RoomyLog). l.dates) c.get-2.ensures)
    c.delay.ensures.delay refl c.min.ensures c.after_takes.ensures
