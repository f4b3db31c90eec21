use Rattle.std.proofs.Common.{◌<◌}
use Rattle.line_core.specs.Run.{IsReached}
use Rattle.checkpoint.proofs.writer.likely_size.Given as goal

-- a log was shown
abbrev pub invariant-loop-t : goal.invariant-loop-t
invariant-loop-t g l = 0 < l.t → IsReached (g.S.AsState.run l.state)
