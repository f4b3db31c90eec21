use Rattle.std.proofs.Common.{◌<◌}
use Rattle.line_workers.specs.Meeting.{IsMeeting}
use Rattle.line_workers.proofs.workers.meet_all.Given as goal

abbrev pub invariant-loop-a : goal.invariant-loop-a
invariant-loop-a l = IsMeeting l.live l.initial.workers l.workers (λ b. b < l.a)
