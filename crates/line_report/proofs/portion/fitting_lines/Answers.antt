use Rattle.std.proofs.Common.{arith}
use Rattle.std.proofs.lemmas.Nat.{le-div}
use Rattle.line_report.proofs.Starts.{short_label}
use Rattle.line_report.proofs.portion.fitting_lines.Goals as goal

pub loop-t-preserved : goal.loop-t-preserved
loop-t-preserved c = omega (arith, short_label c.label.result.now c.label.ensures.rule)

pub returns : goal.returns
returns c = le-div 1 _ _ (omega arith) (omega arith)
