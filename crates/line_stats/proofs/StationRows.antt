-- The dates of a station of a plant, as a list that was read from a table of the plant's graph.
use Rattle.std.proofs.Common.{◌≡◌, ℕ, ◌<◌, ◌≤◌, List, [], length, get_or, sym, ap, ◌∙◌, subst, arith}
use Rattle.std.specs.List.Sorted.{IsNonDecreasing}
use Rattle.plant_model.specs.declared.plant.Plant.{Plant}
use Rattle.plant_model.specs.Line.{station_count}
use Rattle.plant_model.specs.Graph.{graph}
use Rattle.event_graph.specs.Table.{date_in}
use Rattle.line_core.specs.Run.{Dates, IsLeastTable}
use Rattle.line_stats.specs.Counts.{jobs_done}
use Rattle.line_stats.specs.Between.{dates_until}
use Rattle.line_stats.proofs.RisingDates.{lists_keep_order, row-rises, count-row}
use Rattle.line_stats.proofs.PlantTables.{exists_in, done_in}

module _ (p : Plant) (d : Dates) (t : ℕ) (row : List ℕ) (of_plant : d.graph ≡ graph p) (table : IsLeastTable d) (exists : t < station_count p) (read : row ≡ get_or d.rows t []) where
  pub row-in_order : IsNonDecreasing row
  row-in_order =
      subst IsNonDecreasing (sym read) (row-rises d t table (lists_keep_order p d.graph of_plant) (exists_in p d.graph t of_plant exists))

  pub row-short : length row ≤ 20000
  row-short =
      omega (arith, ap length read, table.a_date_each t (exists_in p d.graph t of_plant exists), table.limits.few_jobs)

  -- how many of the dates are at most v is how many jobs the station has done by v
  pub row-done : (u v : ℕ) → t ≡ u → dates_until row v ≡ jobs_done (graph p) (date_in d.rows) u v
  row-done u v at =
      done_in p d.graph (date_in d.rows) t u v (dates_until row v) of_plant at (ap (λ dates. dates_until dates v) read ∙ count-row d t v table (exists_in p d.graph t of_plant exists))
