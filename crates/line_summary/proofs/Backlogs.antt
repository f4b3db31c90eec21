-- The greatest backlog, which is reached as a demand comes.
use Rattle.std.proofs.Common.{◌≡◌, ℕ, zero, suc, ◌+◌, ◌<◌, ◌≤◌, [], length, get_or, refl, ap, ◌∙◌, leb, inl, inr, max, arith}
use Rattle.std.specs.List.{range_with_len}
use Rattle.std.proofs.lemmas.Bool.{cases_lt}
use Rattle.plant_model.specs.declared.plant.Plant.{Plant}
use Rattle.plant_model.specs.Line.{deliver}
use Rattle.plant_model.specs.Graph.{graph}
use Rattle.event_graph.specs.Network.{jobs, stations}
use Rattle.event_graph.specs.Table.{date_in}
use Rattle.event_graph.specs.GreatestValue.{greatest}
use Rattle.line_core.specs.Run.{Dates, IsLeastTable}
use Rattle.line_stats.specs.Between.{dates_until}
use Rattle.line_stats.specs.Counts.{count_until, backlog, last_date}
use Rattle.line_stats.proofs.CountsOfDates.{until-later}
use Rattle.line_stats.proofs.DateLists.{count-above, counted-le}
use Rattle.line_stats.proofs.PlantTables.{exists_in}
use Rattle.line_stats.proofs.RisingDates.{date-row}
use Rattle.line_stats.proofs.StandingParts.{date-le-last, at-range}
use Rattle.line_stats.proofs.StationRows.{row-in_order, row-done}
use Rattle.std.proofs.lemmas.List.Sums.{count_by-le-length}
use Rattle.line_summary.specs.OverTime.{most_backlog}
use Rattle.line_summary.proofs.Longest.{greatest-range-le}

-- the backlogs at the first demands were looked at: none is above this, and it is one of a date up to the last, or 0
pub record IsMostSoFar (p : Plant) (d : Dates) (count most : ℕ) : Type 0 where
  pub none_above : (k : ℕ) → k < count → backlog p (date_in d.rows) (get_or (get_or d.rows 0 []) k 0) ≤ most
  pub least : (bound : ℕ) → ((v : ℕ) → v ≤ last_date (graph p) (date_in d.rows) → backlog p (date_in d.rows) v ≤ bound) → most ≤ bound

pub IsMostSoFar-begins : (p : Plant) (d : Dates) → IsMostSoFar p d 0 0
IsMostSoFar-begins p d = record { none_above = λ k below. absurd (omega arith); least = λ bound all. omega arith }

module _ (p : Plant) (d : Dates) (is : d.graph ≡ graph p) (table : IsLeastTable d) where
  there : 0 < stations d.graph
  there = exists_in p d.graph 0 is (omega arith)

  long : length (get_or d.rows 0 []) ≡ jobs (graph p)
  long = table.a_date_each 0 there ∙ ap jobs is

  pub IsMostSoFar-goes : (count most date next result : ℕ) → count < length (get_or d.rows 0 []) → date ≡ get_or (get_or d.rows 0 []) count 0 → next ≡ backlog p (date_in d.rows) date → result ≡ max most next → IsMostSoFar p d count most → IsMostSoFar p d (count + 1) result
  IsMostSoFar-goes count most date next result inside date_is next_is greater so_far = record {
    none_above = λ k below. elim (cases_lt k count) [
      | inl before ↦ (let h = so_far.none_above k before in omega arith)
      | inr here ↦
          let same : k ≡ count = omega arith in
          let at = ap (λ n. backlog p (date_in d.rows) (get_or (get_or d.rows 0 []) n 0)) same in
          let value = ap (backlog p (date_in d.rows)) date_is in
          omega (arith, at, value)
    ];
    least = λ bound all.
        let before = so_far.least bound all in
        let early : date ≤ last_date (graph p) (date_in d.rows) = omega (arith, date_is, date-row d 0 count, date-le-last p (date_in d.rows) 0 (count + 1) (omega arith) (omega arith) (omega (arith, long))) in
        let here = all date early in
        omega arith;
  }

  -- the backlog at a date is no more than that at the last demand by then
  backlog-le : (most : ℕ) → IsMostSoFar p d (jobs (graph p)) most → (v n : ℕ) → dates_until (get_or d.rows 0 []) v ≡ n → backlog p (date_in d.rows) v ≤ most
  unfolding backlog count_until
  backlog-le most all v zero none =
      omega (arith, none, row-done p d 0 (get_or d.rows 0 []) is table (omega arith) refl 0 v refl)
  backlog-le most all v (suc k) some =
      let x = date_in d.rows in
      let row = get_or d.rows 0 [] in
      let order = row-in_order p d 0 row is table (omega arith) refl in
      let few = count_by-le-length (λ date. leb date v) row in
      let inside : k < length row = omega (arith, some, few) in
      let date = get_or row k 0 in
      let early = counted-le row k v order (omega (arith, some)) in
      let counts = count-above row k date order inside (omega arith) in
      let now = row-done p d 0 row is table (omega arith) refl 0 v refl in
      let then_done = row-done p d 0 row is table (omega arith) refl 0 date refl in
      let delivered = until-later (jobs (graph p)) (x (deliver p)) date v early in
      let here = all.none_above k (omega (arith, long, inside)) in
      omega (arith, now, then_done, delivered, here, some, counts)

  -- after all of them no backlog is above it
  covers : (most : ℕ) → IsMostSoFar p d (jobs (graph p)) most → (v : ℕ) → backlog p (date_in d.rows) v ≤ most
  covers most all v = backlog-le most all v (dates_until (get_or d.rows 0 []) v) refl

  pub most_backlog-is : (most : ℕ) → IsMostSoFar p d (jobs (graph p)) most → most ≡ most_backlog p (date_in d.rows)
  unfolding most_backlog
  most_backlog-is most all =
      let x = date_in d.rows in
      let last = last_date (graph p) x in
      let up = greatest-range-le (backlog p x) 0 (last + 1) most (λ v low high. covers most all v) in
      let down = all.least (greatest (backlog p x) (range_with_len 0 (last + 1))) (λ v early. at-range (backlog p x) 0 (last + 1) v (omega arith) (omega arith)) in
      omega arith
