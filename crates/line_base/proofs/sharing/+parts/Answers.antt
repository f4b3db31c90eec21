use Rattle.std.proofs.Common.{◌+◌, arith}
use Rattle.std.specs.Fork.{AcceptsAt, ChangesAt}
use Rattle.line_base.proofs.SharedParts.{part_ready, rest_ready, both_done}
use Rattle.line_base.proofs.sharing.+parts.Goals as goal

pub call_by_parts-call_in_turn-requires : goal.call_by_parts-call_in_turn-requires
call_by_parts-call_in_turn-requires g t c = c.requires.ready

pub call_by_parts-returns-then-s-size : goal.call_by_parts-returns-then-s-size
call_by_parts-returns-then-s-size g t c = c.call_in_turn.ensures

pub call_by_parts-split_at_mut-part-requires : goal.call_by_parts-split_at_mut-part-requires
call_by_parts-split_at_mut-part-requires g t c = omega (arith, c.if-s-size.false)

pub call_by_parts-call_both_parts-requires-clause-part : goal.call_by_parts-call_both_parts-requires-clause-part
call_by_parts-call_both_parts-requires-clause-part g t c κs within =
    let cut = c.split_at_mut-part in
    part_ready (AcceptsAt g.F.Fn c.args.f.now) c.args.base c.args.s.now cut.result.0.now cut.result.1.now cut.ensures.value c.requires.ready

pub call_by_parts-call_both_parts-requires-clause-rest : goal.call_by_parts-call_both_parts-requires-clause-rest
call_by_parts-call_both_parts-requires-clause-rest g t c κs within =
    let cut = c.split_at_mut-part in
    rest_ready (AcceptsAt g.F.Fn c.args.f.now) c.args.base c.args.s.now cut.result.0.now cut.result.1.now (c.args.base + c.args.size)
    cut.ensures.value (omega (arith, cut.ensures.front_len)) c.requires.ready

pub call_by_parts-returns : goal.call_by_parts-returns
call_by_parts-returns g t c =
    let cut = c.split_at_mut-part in
    both_done (ChangesAt g.F.Fn c.args.f.now) c.args.base c.args.s.now cut.result.0.now cut.result.1.now c.call_both_parts.new.part c.call_both_parts.new.rest (c.args.base + c.args.size)
    cut.ensures.value (omega (arith, cut.ensures.front_len)) c.call_both_parts.ensures.part c.call_both_parts.ensures.rest

pub call_both_parts-of_rest-returns : goal.call_both_parts-of_rest-returns
call_both_parts-of_rest-returns g t c = c.call_by_parts.ensures
