use Rattle.line_chart.proofs.StepLists.{areas-are-counts}
use Rattle.line_chart.proofs.laws.areas_are_counts.Goals as goal

pub returns : goal.returns
returns c = areas-are-counts
