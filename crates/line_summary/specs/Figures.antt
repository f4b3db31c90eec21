-- The figures of a plant's line that need no memory, each by its definition, for callers of `Figures::of`.
use Rattle.std.specs.Prelude.{◌≡◌}
use Rattle.plant_model.specs.declared.plant.Plant.{Plant}
use Rattle.plant_model.specs.Graph.{graph}
use Rattle.plant_model.specs.Sound.{IsSound}
use Rattle.event_graph.specs.Network.{jobs}
use Rattle.event_graph.specs.Table.{Table}
use Rattle.line_core.specs.Run.{Dates}
use Rattle.line_stats.specs.Counts.{last_date, waiting}
use Rattle.line_summary.specs.OverTime.{parts_sum}
use Rattle.line_summary.specs.Waits.{most_wait, worst_job}
use Rattle.line_summary.specs.declared.figures.Figures.{Figures}

-- a sound plant, its numbers, and a table of its graph
pub record IsLine (p numbered : Plant) (table : Dates) : Type 0 where
  pub sound : IsSound p
  pub numbers : numbered ≡ p
  pub of_plant : table.graph ≡ graph p

-- how many jobs, the last date, the sum of the waits, the greatest wait and the first job with it, and the sum over
-- time of all parts
unfoldable pub figures : Plant → Table → Figures
figures p x =
    record {
      jobs = jobs (graph p);
      last = last_date (graph p) x;
      waited = waiting (graph p) x;
      most = most_wait (graph p) x;
      worst = worst_job (graph p) x;
      parts = parts_sum p x;
    }
