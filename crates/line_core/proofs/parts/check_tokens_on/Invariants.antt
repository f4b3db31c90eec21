use Rattle.line_base.specs.Roomy.{dates_of}
use Rattle.std.proofs.Common.{length}
use Rattle.line_core.specs.Parts.{list_at, wrong_token}
use Rattle.line_core.proofs.FirstRefusals.{NoneBelow}
use Rattle.line_core.proofs.parts.check_tokens_on.Given as goal

abbrev pub invariant-loop-token : goal.invariant-loop-token
invariant-loop-token l = NoneBelow (length (list_at (dates_of l.places) l.arc)) (wrong_token l.graph (dates_of l.logs) (dates_of l.places) l.arc) l.token
