use Rattle.line_summary.proofs.Ratios.{nearest-above, nearest-below}
use Rattle.line_summary.proofs.laws.ratios_are_rounded.Goals as goal

pub returns-clause-above : goal.returns-clause-above
returns-clause-above c = λ part whole some. nearest-above part whole

pub returns-clause-below : goal.returns-clause-below
returns-clause-below c = λ part whole some. nearest-below part whole some
