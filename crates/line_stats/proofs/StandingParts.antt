-- The parts of a stage, and the most of them.
use Rattle.std.proofs.Common.{◌≡◌, ℕ, ◌+◌, ◌-◌, ◌<◌, ◌≤◌, length, get_or, Option, None, Some, subst, inl, inr, arith}
use Rattle.std.specs.Prelude.{IfSome}
use Rattle.std.specs.List.{range_with_len}
use Rattle.std.proofs.lemmas.Bool.{cases_lt}
use Rattle.std.proofs.lemmas.List.FromFn.{length-range_with_len, get_or-range_with_len}
use Rattle.plant_model.specs.declared.plant.Plant.{Plant}
use Rattle.plant_model.specs.Line.{release, receiver, starting, station_count}
use Rattle.plant_model.specs.Graph.{graph}
use Rattle.plant_model.specs.Sound.{IsSound}
use Rattle.plant_model.proofs.LayoutStations.{release-below, receiver-above}
use Rattle.event_graph.specs.Network.{stations, jobs}
use Rattle.event_graph.specs.Table.{Table}
use Rattle.event_graph.specs.Solves.{Solves}
use Rattle.event_graph.specs.GreatestValue.{greatest}
use Rattle.event_graph.proofs.Greatest.{le-greatest, greatest-le}
use Rattle.line_graph.proofs.Sizes.{stations-graph}
use Rattle.plant_model.specs.Bound.{bound}
use Rattle.line_stats.specs.Counts.{job_numbers, count_until, jobs_done, in_process, in_move, in_stock, standing, last_date, peak}
use Rattle.line_stats.proofs.CountsOfDates.{until-all}
use Rattle.line_stats.proofs.Flows.{process-flow, move-flow, stock-flow}
use Rattle.line_stats.proofs.CardFlows.{held-back}

-- what is released and not taken, with the starting stock
pub standing-is : (p : Plant) (x : Table) (i v : ℕ) → IsSound p → Solves (graph p) x → i < length p.stages → standing p x i v ≡ starting p i + jobs_done (graph p) x (release p i) v - jobs_done (graph p) x (receiver p i) v
unfolding standing in_process in_move in_stock
standing-is p x i v sound solves below =
    omega (arith, process-flow p x i v sound solves below, move-flow p x i v, stock-flow p x i v sound solves below)

-- a value on a range is at most the greatest
pub at-range : (f : ℕ → ℕ) (a n k : ℕ) → a ≤ k → k < a + n → f k ≤ greatest f (range_with_len a n)
at-range f a n k low high =
    let all = le-greatest f (range_with_len a n) (k - a) 0 (omega (arith, length-range_with_len a n)) in
    let here : get_or (range_with_len a n) (k - a) 0 ≡ k = omega (arith, get_or-range_with_len a n (k - a) 0 (omega arith)) in
    subst (λ m. f m ≤ greatest f (range_with_len a n)) here all

-- no date is above the last one
pub date-le-last : (p : Plant) (x : Table) (t n : ℕ) → t < station_count p → 1 ≤ n → n ≤ jobs (graph p) → x t n ≤ last_date (graph p) x
unfolding last_date
date-le-last p x t n exists some few =
    let g = graph p in
    let row = at-range (x t) 1 (jobs g) n some (omega arith) in
    let all = at-range (λ u. greatest (x u) (job_numbers g)) 0 (stations g) t (omega arith) (omega (arith, stations-graph p)) in
    omega arith

-- from the last date on all jobs are done
done-all : (p : Plant) (x : Table) (t v : ℕ) → t < station_count p → last_date (graph p) x ≤ v → jobs_done (graph p) x t v ≡ jobs (graph p)
unfolding count_until
done-all p x t v exists late =
    until-all (jobs (graph p)) (x t) v (λ n some few. let h = date-le-last p x t n exists some few in omega arith)

-- at no date there are more parts than the most up to the last date
pub standing-le-peak : (p : Plant) (x : Table) (i v : ℕ) → IsSound p → Solves (graph p) x → i < length p.stages → standing p x i v ≤ peak p x i
unfolding peak
standing-le-peak p x i v sound solves below =
    let last = last_date (graph p) x in
    let most = λ (w : ℕ). λ (early : w ≤ last). at-range (standing p x i) 0 (last + 1) w (omega arith) (omega arith) in
    elim (cases_lt last v) [
      | inl late ↦
          let at_last = most last (omega arith) in
          let release_exists : release p i < station_count p = omega (arith, release-below p i below) in
          let receiver_exists : receiver p i < station_count p = omega (arith, (receiver-above p i sound below).1) in
          let released = done-all p x (release p i) v release_exists (omega arith) in
          let released_at_last = done-all p x (release p i) last release_exists (omega arith) in
          let taken = done-all p x (receiver p i) v receiver_exists (omega arith) in
          let taken_at_last = done-all p x (receiver p i) last receiver_exists (omega arith) in
          omega (arith, standing-is p x i v sound solves below, standing-is p x i last sound solves below)
      | inr early ↦ most v early
    ]

-- what no date exceeds, and is no more than needed, is the most
pub peak-is : (p : Plant) (x : Table) (i most : ℕ) → IsSound p → Solves (graph p) x → i < length p.stages → ((v : ℕ) → standing p x i v ≤ most) → ((bound : ℕ) → ((v : ℕ) → standing p x i v ≤ bound) → most ≤ bound) → most ≡ peak p x i
unfolding peak
peak-is p x i most sound solves below covers least =
    let dates = range_with_len 0 (last_date (graph p) x + 1) in
    let up : peak p x i ≤ most = greatest-le (standing p x i) dates most (λ k d inside. covers (get_or dates k d)) in
    let down = least (peak p x i) (λ v. standing-le-peak p x i v sound solves below) in
    omega arith

-- no more parts than the bound
pub standing-bounded : (p : Plant) (x : Table) (i v : ℕ) → IsSound p → Solves (graph p) x → i < length p.stages → IfSome (bound p i) (λ number. standing p x i v ≤ number)
standing-bounded p x i v sound solves below = by_bound (bound p i) (held-back p x v sound solves i below)
  where
    by_bound : (o : Option ℕ) → IfSome o (λ number. starting p i + jobs_done (graph p) x (release p i) v ≤ number + jobs_done (graph p) x (receiver p i) v) → IfSome o (λ number. standing p x i v ≤ number)
    by_bound None h = h
    by_bound (Some number) h = omega (arith, standing-is p x i v sound solves below)

pub most-bounded : (p : Plant) (x : Table) (i most : ℕ) → IsSound p → Solves (graph p) x → i < length p.stages → ((bound : ℕ) → ((v : ℕ) → standing p x i v ≤ bound) → most ≤ bound) → IfSome (bound p i) (λ number. most ≤ number)
most-bounded p x i most sound solves below least = by_bound (bound p i) (λ v. standing-bounded p x i v sound solves below)
  where
    by_bound : (o : Option ℕ) → ((v : ℕ) → IfSome o (λ number. standing p x i v ≤ number)) → IfSome o (λ number. most ≤ number)
    by_bound None h = h 0
    by_bound (Some number) h = least number h
