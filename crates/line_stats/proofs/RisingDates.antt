-- The dates at a station don't decrease in the table of a plant's graph.
use Rattle.std.proofs.Common.{◌≡◌, ℕ, suc, ◌+◌, ◌-◌, ◌<◌, ◌≤◌, leb, [], get_or, sym, ap, subst, arith, count_by}
use Rattle.std.specs.List.Sorted.{IsNonDecreasing}
use Rattle.std.proofs.lemmas.List.{get_or_default}
use Rattle.line_base.specs.declared.event.Parts.{Parts}
use Rattle.plant_model.specs.declared.plant.Plant.{Plant}
use Rattle.plant_model.specs.Graph.{graph}
use Rattle.event_graph.specs.Network.{stations, jobs}
use Rattle.event_graph.specs.Table.{date_in}
use Rattle.live_check.specs.MoreTokens.{ListsKeepOrder}
use Rattle.live_check.proofs.NeverLater.{least-rises, rises}
use Rattle.line_core.specs.Run.{Dates, IsLeastTable}
use Rattle.line_graph.proofs.OwnTokens.{graph_keeps_order}
use Rattle.line_stats.specs.Counts.{count_until}
use Rattle.line_stats.proofs.CountsOfDates.{until-row}

-- the graph of a plant keeps the jobs of each list of times in order, whatever it is called
pub lists_keep_order : (p : Plant) (g : Parts) → g ≡ graph p → ListsKeepOrder g
lists_keep_order p g is = subst ListsKeepOrder (sym is) (graph_keeps_order p)

pub date-row : (d : Dates) (t k : ℕ) → date_in d.rows t (k + 1) ≡ get_or (get_or d.rows t []) k 0
date-row d t k = let e : k + 1 ≡ suc k = omega arith in ap (date_in d.rows t) e

-- the dates of a station don't decrease
pub row-rises : (d : Dates) (t : ℕ) → IsLeastTable d → ListsKeepOrder d.graph → t < stations d.graph → IsNonDecreasing (get_or d.rows t [])
row-rises d t table order exists i j other before inside =
    let row = get_or d.rows t [] in
    let long = table.a_date_each t exists in
    let up = least-rises d.graph (date_in d.rows) table.sound table.limits.demands_in_order order table.least in
    let e : i + 1 + (j - i) ≡ j + 1 = omega arith in
    let h = subst (λ n. date_in d.rows t (i + 1) ≤ date_in d.rows t n) e (rises d.graph (date_in d.rows) up t (i + 1) (j - i) exists (omega arith) (omega arith)) in
    omega (arith, h, date-row d t i, date-row d t j, get_or_default row i other 0 (omega arith), get_or_default row j other 0 inside)

-- a count over the row of a station is one over the jobs
pub count-row : (d : Dates) (t v : ℕ) → IsLeastTable d → t < stations d.graph → count_by (λ date. leb date v) (get_or d.rows t []) ≡ count_until d.graph (date_in d.rows t) v
unfolding count_until
count-row d t v table exists =
    until-row (jobs d.graph) (get_or d.rows t []) (date_in d.rows t) v (table.a_date_each t exists) (λ k below. sym (date-row d t k))
