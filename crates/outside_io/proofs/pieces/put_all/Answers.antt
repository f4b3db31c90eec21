use Rattle.std.proofs.Common.{◌≡◌, ℕ, List, ◌++◌, sym, ap, ◌∙◌, append_assoc, append-nil, arith}
use Rattle.std.proofs.lemmas.List.{nil_from_length}
use Rattle.std.proofs.lemmas.Result.{err_from_is_err_and}
use Rattle.std.specs.Slice.Iter.{chunks_rest}
use Rattle.outside_io.proofs.WrittenLemmas.{puts_all_after, puts_prefix_after, puts_prefix_longer}
use Rattle.outside_io.proofs.pieces.put_all.Goals as goal

-- a piece goes from the rest to what is done
piece_moves : (bytes done rest piece later : List ℕ) → bytes ≡ done ++ rest → rest ≡ piece ++ later → bytes ≡ (done ++ piece) ++ later
piece_moves bytes done rest piece later split next =
    rw append_assoc (split ∙ ap (λ left. done ++ left) next)

pub put-requires : goal.put-requires
put-requires g c =
    let size = c.loop-piece.invariant.size in
    let chunk = c.in-Some.ensures.steps.1 in
    record {
      some = omega (arith, chunk.1, size);
      short = omega (arith, chunk.1, size);
    }

pub loop-piece-preserved : goal.loop-piece-preserved
loop-piece-preserved g c =
    let old = c.loop-piece.invariant in
    let step = c.in-Some.ensures.steps in
    let piece = c.in-Some.piece.now in
    record {
      size = step.0 ∙ old.size;
      done = (old.done.0 ++ piece, piece_moves _ _ _ _ _ old.done.1 step.1.0, puts_all_after _ _ _ _ _ old.done.2 c.in_ok-put.ensures.appended);
      no_fault = c.in_ok-put.ensures.faults_stay ∙ old.no_fault;
    }

pub returns-in_err-put-clause-prefix : goal.returns-in_err-put-clause-prefix
returns-in_err-put-clause-prefix g c =
    let p = err_from_is_err_and c.from_residual.result c.from_residual.ensures.1 in
    let old = c.loop-piece.invariant in
    let split = piece_moves c.args.bytes.now old.done.0 (chunks_rest c.loop-piece.piece-iterator) c.in-Some.piece.now (chunks_rest c.next.new.self) old.done.1 c.in-Some.ensures.steps.1.0 in
    rw (p.1, split)
    (puts_prefix_longer _ _ _ _ (puts_prefix_after _ _ _ _ _ old.done.2 c.in_err-put.ensures.prefix))

pub returns-in_err-put-clause-cause : goal.returns-in_err-put-clause-cause
returns-in_err-put-clause-cause g c =
    let p = err_from_is_err_and c.from_residual.result c.from_residual.ensures.1 in
    rw p.1 (rw c.loop-piece.invariant.no_fault at c.in_err-put.ensures.cause)

pub returns-in_err-put-clause-once : goal.returns-in_err-put-clause-once
returns-in_err-put-clause-once g c =
    let p = err_from_is_err_and c.from_residual.result c.from_residual.ensures.1 in
    rw p.1 (rw c.loop-piece.invariant.no_fault at c.in_err-put.ensures.once)

pub returns-in_err-put-clause-faults_stay_or_rise : goal.returns-in_err-put-clause-faults_stay_or_rise
returns-in_err-put-clause-faults_stay_or_rise g c =
    omega (arith, c.loop-piece.invariant.no_fault, c.in_err-put.ensures.faults_stay_or_rise)

pub returns-in_err-put-clause-appended : goal.returns-in_err-put-clause-appended
returns-in_err-put-clause-appended g c = rw (err_from_is_err_and c.from_residual.result c.from_residual.ensures.1).1 tt

pub returns-in_err-put-clause-faults_stay : goal.returns-in_err-put-clause-faults_stay
returns-in_err-put-clause-faults_stay g c =
    rw (err_from_is_err_and c.from_residual.result c.from_residual.ensures.1).1 tt

pub returns-clause-appended : goal.returns-clause-appended
returns-clause-appended g c =
    let old = c.loop-piece.invariant in
    let none = nil_from_length _ c.in-None.ensures.steps.1.0 in
    let all : old.done.0 ≡ c.args.bytes.now = sym (old.done.1 ∙ ap (λ left. old.done.0 ++ left) none ∙ append-nil old.done.0) in
    old.done.2 ∙ ap (λ bytes. (g.K.Sink.shown c.args.sink.now).written ++ bytes) all

pub returns-clause-faults_stay : goal.returns-clause-faults_stay
returns-clause-faults_stay g c = c.loop-piece.invariant.no_fault

pub returns-clause-faults_stay_or_rise : goal.returns-clause-faults_stay_or_rise
returns-clause-faults_stay_or_rise g c = omega (arith, c.loop-piece.invariant.no_fault)
