use Rattle.std.proofs.Common.{rules, ◌≡◌, ◌+◌, ◌++◌, ◌∷◌, [], take, drop, sym, ap, ◌∙◌, append_assoc, arith}
use Rattle.std.proofs.lemmas.List.{take-append-drop}
use Rattle.outside_io.proofs.RawOutLemmas.{hands_more, hands_no_more, hands_all, hands_none, written_more}
use Rattle.outside_io.proofs.std_sink.hand_on.Goals as goal

pub loop-taken-init : goal.loop-taken-init
loop-taken-init g c = record {
  within = omega arith;
  calls = ([], search rules, hands_none c.args.piece.now);
  written = search rules;
}

pub loop-taken-preserved : goal.loop-taken-preserved
loop-taken-preserved g c =
    let before = c.loop-taken.invariant in
    let once = c.hand_on_once.ensures.once in
    record {
      within = omega (arith, c.hand_on_once.ensures.bound);
      calls = (before.calls.0 ++ once.0 ∷ [], once.1 ∙ ap (λ xs. xs ++ once.0 ∷ []) before.calls.1 ∙ append_assoc _ before.calls.0 (once.0 ∷ []), hands_more _ c.loop-taken.taken _ once.0 c.hand_on_once.result before.calls.2 c.loop-taken-test.true once.2 once.3 (omega arith));
      written = written_more (g.O.RawOut.asked c.args.out.now) _ _ c.args.piece.now c.loop-taken.taken _ before.written once;
    }

pub returns-in-0-clause-asked : goal.returns-in-0-clause-asked
returns-in-0-clause-asked g c =
    let before = c.loop-taken.invariant in
    let once = c.hand_on_once.ensures.once in
    let none : c.hand_on_once.result ≡ 0 = omega arith in
    (before.calls.0 ++ once.0 ∷ [], once.1 ∙ ap (λ xs. xs ++ once.0 ∷ []) before.calls.1 ∙ append_assoc _ before.calls.0 (once.0 ∷ []), hands_no_more _ c.loop-taken.taken _ once.0 before.calls.2 c.loop-taken-test.true once.2 (once.3 ∙ none))

pub returns-in-0-clause-prefix : goal.returns-in-0-clause-prefix
returns-in-0-clause-prefix g c =
    let taken = c.loop-taken.taken + c.hand_on_once.result in
    let piece = c.args.piece.now in
    (take taken piece, drop taken piece, sym (take-append-drop taken piece), written_more (g.O.RawOut.asked c.args.out.now) _ _ piece c.loop-taken.taken _ c.loop-taken.invariant.written c.hand_on_once.ensures.once)

pub returns-clause-asked : goal.returns-clause-asked
returns-clause-asked g c =
    let before = c.loop-taken.invariant in
    (before.calls.0, before.calls.1, hands_all c.args.piece.now c.loop-taken.taken before.calls.0 before.calls.2 (omega (arith, c.loop-taken-test.false)))
