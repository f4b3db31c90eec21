use Rattle.std.proofs.Common.{refl}
use Rattle.plant_model.specs.Graph.{graph}
use Rattle.live_check.proofs.NeverLater.{least-rises}
use Rattle.line_graph.proofs.Inputs.{IsGraph-graph}
use Rattle.line_graph.proofs.WithinLimits.{IsWithinLimits-graph}
use Rattle.line_stats.proofs.RisingDates.{lists_keep_order}
use Rattle.line_chart.proofs.BarsApart.{bars-stay-apart}
use Rattle.line_chart.proofs.laws.bars_of_a_lane_stay_apart.Goals as goal

pub returns : goal.returns
returns c = λ p sound live.
    bars-stay-apart p sound live (λ x least.
    least-rises (graph p) x (IsGraph-graph p sound) (IsWithinLimits-graph p sound).demands_in_order (lists_keep_order p (graph p) refl) least)
