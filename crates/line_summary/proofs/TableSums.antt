-- The sums over time that are taken from the rows of a table.
use Rattle.std.proofs.Common.{◌≡◌, ℕ, ◌+◌, ◌-◌, ◌*◌, ◌^◌, ◌<◌, ◌≤◌, [], length, get_or, sym, arith}
use Rattle.std.specs.List.{sum_by}
use Rattle.std.proofs.Math.Nat.{mul-le-mul}
use Rattle.event_graph.specs.Network.{stations, jobs}
use Rattle.event_graph.specs.Table.{date_in}
use Rattle.line_core.specs.Run.{Dates, IsLeastTable}
use Rattle.line_stats.specs.Counts.{jobs_done, count_until}
use Rattle.line_stats.proofs.RisingDates.{date-row}
use Rattle.line_summary.specs.OverTime.{sum_until}
use Rattle.line_summary.proofs.OverTime.{sum-row-left, sum-row-done, sum-until-small}

module _ (d : Dates) (t : ℕ) (table : IsLeastTable d) (exists : t < stations d.graph) where
  pub row-short : length (get_or d.rows t []) ≤ 20_000
  row-short = omega (arith, table.a_date_each t exists, table.limits.few_jobs)

  pub done-row : (end : ℕ) → sum_by (λ date. end - 0 - date) (get_or d.rows t []) ≡ sum_until end (jobs_done d.graph (date_in d.rows) t)
  unfolding count_until
  done-row end =
      sum-row-done end (jobs d.graph) (date_in d.rows t) (get_or d.rows t []) (table.a_date_each t exists) (λ k below. sym (date-row d t k))

  pub arrived-row : (end travel : ℕ) → sum_by (λ date. end - travel - date) (get_or d.rows t []) ≡ sum_until end (count_until d.graph (λ n. date_in d.rows t n + travel))
  unfolding count_until
  arrived-row end travel =
      sum-row-left end travel (jobs d.graph) (date_in d.rows t) (get_or d.rows t []) (table.a_date_each t exists) (λ k below. sym (date-row d t k))

  -- over any dates of the jobs
  pub sum-small : (end : ℕ) (date : ℕ → ℕ) → end < 2 ^ 64 → sum_until end (count_until d.graph date) ≤ 20_000 * 2 ^ 64
  unfolding count_until
  sum-small end date fits =
      let few : jobs d.graph ≤ 20_000 = table.limits.few_jobs in
      let before : end ≤ 2 ^ 64 = omega arith in
      omega (arith, sum-until-small end (jobs d.graph) date, mul-le-mul few before)
