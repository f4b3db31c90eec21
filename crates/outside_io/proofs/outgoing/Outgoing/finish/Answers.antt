use Rattle.std.proofs.Common.{◌≡◌, sym, is_err, append-nil}
use Rattle.outside_io.proofs.OutgoingLemmas.{pushed_sent, pushed_dropped}
use Rattle.outside_io.proofs.outgoing.Outgoing.finish.Goals as goal
use Rattle.outside_io.proofs.outgoing.Outgoing.finish.Goals.{then-self, else-self, then-failed, else-failed}

pub returns-clause-flushed : goal.returns-clause-flushed
returns-clause-flushed g c =
    let known : is_err c.if-failed.result ≡ c.if-self.failed =
    elim c.if-failed.branch [
      | then-failed w ↦ rw w.result-is (sym w.if-failed.true)
      | else-failed w ↦ rw w.result-is (sym w.if-failed.false)
    ]
    in
    elim c.if-self.branch [
      | then-self w ↦ rw (known, w.sink-is, w.failed-is, ← c.self.view_is, w.if-self.true) (pushed_dropped _ _ _)
      | else-self w ↦
          let sent = w.put_all.ensures in
          rw (known, w.sink-is, w.failed-is, ← c.self.view_is, w.if-self.false, w.is_err-failed.ensures.value, ← w.bytes.ensures)
          (pushed_sent _ _ w.bytes.result.now w.bytes.result.now _ w.put_all.result (sym (append-nil _)) sent.appended sent.prefix sent.cause sent.faults_stay_or_rise)
    ]
