-- Tables with the same date for each station and each job of a plant's graph have the same counts.
use Rattle.std.proofs.Common.{◌≡◌, ℕ, ◌+◌, ◌-◌, ◌<◌, ◌≤◌, leb, length, sym, ap, ◌∙◌, subst, arith}
use Rattle.std.specs.List.{All, range_with_len}
use Rattle.std.proofs.lemmas.List.FromFn.{length-range_with_len, get_or-range_with_len}
use Rattle.line_base.specs.declared.event.Parts.{Parts}
use Rattle.plant_model.specs.declared.plant.Plant.{Plant}
use Rattle.plant_model.specs.Line.{stage_at, release, last_machine, deliver, receiver}
use Rattle.plant_model.specs.Graph.{graph}
use Rattle.plant_model.specs.Sound.{IsSound}
use Rattle.plant_model.proofs.LayoutStations.{last_machine-below, release-below, receiver-above}
use Rattle.event_graph.specs.Network.{stations, jobs}
use Rattle.event_graph.specs.Table.{Table, IsSameTable}
use Rattle.event_graph.specs.GreatestValue.{greatest}
use Rattle.event_graph.proofs.Greatest.{greatest-same}
use Rattle.live_check.proofs.Counts.{count_by-range-agree}
use Rattle.line_graph.proofs.Sizes.{stations-graph}
use Rattle.line_graph.proofs.SharedRows.{sum_by-alike}
use Rattle.line_stats.specs.Counts.{job_numbers, count_until, jobs_done, parts_arrived, in_process, in_move, in_stock, standing, backlog, last_date, peak, waiting}

-- what holds at each number from a on holds of each number of the list
pub All-numbers : (P : ℕ → Type 0) (a n : ℕ) → ((k : ℕ) → a ≤ k → k < a + n → P k) → All P (range_with_len a n)
All-numbers P a n each i d low =
    let inside : i < n = omega (arith, low, length-range_with_len a n) in
    subst P (sym (get_or-range_with_len a n i d inside)) (each (a + i) (omega arith) (omega arith))

-- dates that are the same for each job are as often at most v
until-same : (g : Parts) (f h : ℕ → ℕ) (v : ℕ) → ((n : ℕ) → 1 ≤ n → n ≤ jobs g → f n ≡ h n) → count_until g f v ≡ count_until g h v
unfolding count_until
until-same g f h v same =
    count_by-range-agree (λ n. leb (f n) v) (λ n. leb (h n) v) 1 (jobs g) (λ n one low. ap (λ d. leb d v) (same n one (omega arith)))

module _ (p : Plant) (sound : IsSound p) (x y : Table) (same : IsSameTable (graph p) x y) where
  done-same : (t v : ℕ) → t ≤ deliver p → jobs_done (graph p) x t v ≡ jobs_done (graph p) y t v
  done-same t v there =
      until-same (graph p) (x t) (y t) v (λ n one within. same t n (omega (arith, stations-graph p)) one within)

  arrived-same : (i v : ℕ) → i < length p.stages → parts_arrived p x i v ≡ parts_arrived p y i v
  arrived-same i v low =
      let travel = (stage_at p i).travel in
      until-same (graph p) (λ n. x (last_machine p i) n + travel) (λ n. y (last_machine p i) n + travel) v (λ n one within. ap (λ (d : ℕ). d + travel) (same (last_machine p i) n (omega (arith, stations-graph p, last_machine-below p i low)) one within))

  pub in_process-same : (i v : ℕ) → i < length p.stages → in_process p x i v ≡ in_process p y i v
  unfolding in_process
  in_process-same i v low =
      omega (arith, done-same (release p i) v (omega (arith, release-below p i low)), done-same (last_machine p i) v (omega (arith, last_machine-below p i low)))

  pub in_move-same : (i v : ℕ) → i < length p.stages → in_move p x i v ≡ in_move p y i v
  unfolding in_move
  in_move-same i v low =
      omega (arith, done-same (last_machine p i) v (omega (arith, last_machine-below p i low)), arrived-same i v low)

  pub in_stock-same : (i v : ℕ) → i < length p.stages → in_stock p x i v ≡ in_stock p y i v
  unfolding in_stock
  in_stock-same i v low =
      let taken = done-same (receiver p i) v (receiver-above p i sound low).1 in omega (arith, taken, arrived-same i v low)

  standing-same : (i v : ℕ) → i < length p.stages → standing p x i v ≡ standing p y i v
  unfolding standing
  standing-same i v low = omega (arith, in_process-same i v low, in_move-same i v low, in_stock-same i v low)

  pub backlog-same : (v : ℕ) → backlog p x v ≡ backlog p y v
  unfolding backlog
  backlog-same v = omega (arith, done-same 0 v (omega arith), done-same (deliver p) v (omega arith))

  pub last_date-same : last_date (graph p) x ≡ last_date (graph p) y
  unfolding last_date
  last_date-same =
      greatest-same (λ t. greatest (x t) (job_numbers (graph p))) (λ t. greatest (y t) (job_numbers (graph p))) (range_with_len 0 (stations (graph p)))
      (All-numbers _ 0 (stations (graph p)) (λ t none there.
      greatest-same (x t) (y t) (job_numbers (graph p)) (All-numbers _ 1 (jobs (graph p)) (λ n one low. same t n (omega arith) one (omega arith)))))

  pub peak-same : (i : ℕ) → i < length p.stages → peak p x i ≡ peak p y i
  unfolding peak
  peak-same i low =
      ap (λ (last : ℕ). greatest (standing p x i) (range_with_len 0 (last + 1))) last_date-same ∙ (λ j. greatest (λ (v : ℕ). standing-same i v low j) (range_with_len 0 (last_date (graph p) y + 1)))

  pub waiting-same : waiting (graph p) x ≡ waiting (graph p) y
  unfolding waiting
  waiting-same =
      let g = graph p in
      let wait : (n : ℕ) → 1 ≤ n → n < 1 + jobs g → x (stations g - 1) n - x 0 n ≡ y (stations g - 1) n - y 0 n =
      λ n one low.
      omega (arith, same (stations g - 1) n (omega (arith, stations-graph p)) one (omega arith), same 0 n (omega (arith, stations-graph p)) one (omega arith)) in
      sum_by-alike (λ n. x (stations g - 1) n - x 0 n) (λ n. y (stations g - 1) n - y 0 n) (job_numbers g) (All-numbers _ 1 (jobs g) wait)
