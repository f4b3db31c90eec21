use Rattle.std.proofs.Common.{◌≡◌, ◌++◌, sym, arith}
use Rattle.std.proofs.lemmas.List.{take-append-drop}
use Rattle.outside_io.proofs.OutgoingLemmas.{pushed_none, pushed_sent, pushed_dropped}
use Rattle.outside_io.proofs.outgoing.send_full.Goals as goal
use Rattle.outside_io.proofs.outgoing.send_full.Goals.{then-failed, else-failed}

pub returns-then-len-lt-MAX_PIECE-clause-pushed : goal.returns-then-len-lt-MAX_PIECE-clause-pushed
returns-then-len-lt-MAX_PIECE-clause-pushed g c = pushed_none _

pub put-requires-clause-short : goal.put-requires-clause-short
put-requires-clause-short g c = omega (arith, c.piece.ensures.size)

pub returns-clause-pushed : goal.returns-clause-pushed
returns-clause-pushed g c =
    elim c.if-failed.branch [
      | then-failed w ↦ rw (w.sink-is, w.failed-is, w.if-failed.true) (pushed_dropped _ _ _)
      | else-failed w ↦
          let sent = w.put.ensures in
          let split : c.args.buffer.now ≡ w.piece.result.now ++ c.remove_piece.new.self = rw (w.piece.ensures.bytes, c.remove_piece.ensures.rest) (sym (take-append-drop 4096 c.args.buffer.now)) in
          rw (w.sink-is, w.failed-is, w.if-failed.false, w.is_err-failed.ensures.value)
          (pushed_sent _ _ c.args.buffer.now w.piece.result.now c.remove_piece.new.self w.put.result split sent.appended sent.prefix sent.cause sent.faults_stay_or_rise)
    ]
