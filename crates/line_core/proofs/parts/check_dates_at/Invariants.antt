use Rattle.line_base.specs.Roomy.{dates_of}
use Rattle.std.proofs.Common.{length}
use Rattle.line_core.specs.Parts.{list_at, wrong_date}
use Rattle.line_core.proofs.FirstRefusals.{NoneBelow}
use Rattle.line_core.proofs.parts.check_dates_at.Given as goal

abbrev pub invariant-loop-job : goal.invariant-loop-job
invariant-loop-job l = NoneBelow (length (list_at (dates_of l.logs) l.station)) (wrong_date l.graph (dates_of l.logs) l.station) l.job
