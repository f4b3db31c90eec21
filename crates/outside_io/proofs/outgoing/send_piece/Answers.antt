use Rattle.outside_io.proofs.OutgoingLemmas.{pushed_dropped}
use Rattle.outside_io.proofs.outgoing.send_piece.Goals as goal

pub returns-then-failed : goal.returns-then-failed
returns-then-failed g c = rw c.if-failed.true (pushed_dropped _ _ _)
