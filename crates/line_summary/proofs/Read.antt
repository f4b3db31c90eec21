-- What was read of a line, by its plant and its table.
use Rattle.std.proofs.Common.{◌≡◌, refl, sym, ◌∙◌}
use Rattle.plant_model.specs.declared.plant.Plant.{Plant}
use Rattle.plant_model.specs.Graph.{graph}
use Rattle.event_graph.specs.Network.{jobs}
use Rattle.event_graph.specs.Table.{Table, date_in}
use Rattle.line_core.specs.Run.{IsLeastTable}
use Rattle.line_stats.specs.Counts.{last_date, waiting}
use Rattle.line_stats.proofs.PlantTables.{solves_in}
use Rattle.line_summary.specs.Figures.{figures}
use Rattle.line_summary.specs.OverTime.{parts_sum, backlog_sum}
use Rattle.line_summary.specs.Summarized.{IsOfRun}
use Rattle.line_summary.specs.Waits.{most_wait, worst_job}
use Rattle.line_summary.specs.declared.figures.Figures.{Figures}
use Rattle.line_summary.specs.declared.texts.SummaryRun.{SummaryRun}
use Rattle.line_summary.proofs.Stays.{backlog-adds_up}

-- the figures of a plant's line, each by what it is
pub record HasFigures (p : Plant) (x : Table) (f : Figures) : Type 0 where
  pub jobs : f.jobs ≡ jobs (graph p)
  pub last : f.last ≡ last_date (graph p) x
  pub waited : f.waited ≡ waiting (graph p) x
  pub most : f.most ≡ most_wait (graph p) x
  pub worst : f.worst ≡ worst_job (graph p) x
  pub parts : f.parts ≡ parts_sum p x

module _ (r : SummaryRun) (read : IsOfRun r) where
  -- those that were read
  pub figures-read : HasFigures r.plant (date_in r.table.rows) r.figures
  unfolding figures
  figures-read =
      rw read.figures
      (record { jobs = refl; last = refl; waited = refl; most = refl; worst = refl; parts = refl })

  -- the waits add up to the backlog
  pub backlog-read : IsLeastTable r.table → r.figures.waited ≡ backlog_sum r.plant (date_in r.table.rows)
  backlog-read table =
      figures-read.waited ∙ sym (backlog-adds_up r.plant (date_in r.table.rows) read.line.sound (solves_in r.plant r.table read.line.of_plant table))
