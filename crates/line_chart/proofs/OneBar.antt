-- For each job at each machine there is one bar, where it meets the window.
use Rattle.std.proofs.Common.{◌≡◌, ◌≢◌, ℕ, ◌+◌, ◌<◌, ◌≤◌, Bool, true, false, cond, eqb, map, length, get_or, refl, ap, ◌∙◌, inl, inr, arith}
use Rattle.std.specs.Prelude.{sum_by, count_by, ◌&&◌}
use Rattle.std.specs.List.{All, filter, flat_map, range_with_len}
use Rattle.std.proofs.lemmas.Bool.{cases_lt, eq-eqb, ne_eqb}
use Rattle.std.proofs.lemmas.List.FromFn.{get_or-range_with_len, length-range_with_len}
use Rattle.std.proofs.lemmas.List.Elements.{All-filter, All-map, filter_passes}
use Rattle.plant_model.specs.declared.plant.Plant.{Plant}
use Rattle.plant_model.specs.Line.{stage_at, machine_station, release, stage_numbers, machine_numbers}
use Rattle.plant_model.specs.Graph.{graph}
use Rattle.plant_model.proofs.LayoutStations.{release-next, release-le}
use Rattle.event_graph.specs.Network.{jobs}
use Rattle.event_graph.specs.Table.{Table}
use Rattle.line_chart.specs.Laws.{IsJobAt, IsBarOfJob, BarsAreOfJobs, EachJobHasOneBar}
use Rattle.line_chart.specs.declared.window.Window.{Window}
use Rattle.line_chart.specs.declared.lanes.Lanes.{Lanes}
use Rattle.line_chart.specs.declared.bar.Bar.{Bar}
use Rattle.line_chart.specs.Bars.{machine_lanes, stage_machines, machines, bar, meets, machine_bars, bars}
use Rattle.line_chart.proofs.LaneFacts.{IsLanesOf, each_machine}
use Rattle.line_chart.proofs.PairLists.{count-flat_map, count-filter-map, sum-none, sum-one, sum-map, sum-flat_map}
use Rattle.line_graph.proofs.WithinLimits.{All-flat_map}

-- ---- each bar is of a job

bars-of-machine : (p : Plant) (x : Table) (w : Window) (m : Lanes) → IsLanesOf p m → All (IsBarOfJob p x w) (machine_bars (graph p) x w m)
unfolding machine_bars
bars-of-machine p x w m of k d below =
    let g = graph p in
    let all = map (bar g x m) (range_with_len 1 (jobs g)) in
    let b = get_or (filter (meets w) all) k d in
    let shape = λ (c : Bar). (1 ≤ c.job) × (c.job ≤ jobs g) × (c ≡ bar g x m c.job) in
    let of_jobs : All shape all = All-map shape (bar g x m) (range_with_len 1 (jobs g)) (λ i e inside.
    let low : i < jobs g = omega (arith, inside, length-range_with_len 1 (jobs g)) in
    let is = get_or-range_with_len 1 (jobs g) i e low in
    (omega (arith, is), omega (arith, is), refl)) in
    let here = All-filter (meets w) shape all of_jobs k d below in
    record {
      stage = of.stage;
      machine = of.machine;
      job = record { stage = of.stage_exists; machine = of.machine_exists; from_one = here.0; job = here.1 };
      same = here.2 ∙ ap (λ l. bar g x l b.job) of.same;
      meets_window = filter_passes (meets w) all k d below;
    }

pub bars-are-of-jobs : (p : Plant) → BarsAreOfJobs p
unfolding bars
bars-are-of-jobs p x w =
    All-flat_map (IsBarOfJob p x w) (machine_bars (graph p) x w) (machines p) (λ k d below. bars-of-machine p x w (get_or (machines p) k d) (each_machine p k d below))

-- ---- no two machines are one station

stations-differ : (p : Plant) (i j k l : ℕ) → i < length p.stages → j < length (stage_at p i).machines → k < length p.stages → l < length (stage_at p k).machines → machine_station p i j ≡ machine_station p k l → (i ≡ k) × (j ≡ l)
stations-differ p i j k l below inside there within same =
    elim (cases_lt i k) [
      | inl before ↦ absurd (omega (arith, release-next p i below, release-le p (i + 1) k (omega arith)))
      | inr after ↦
          elim (cases_lt k i) [
            | inl before ↦ absurd (omega (arith, release-next p k there, release-le p (k + 1) i (omega arith)))
            | inr not_before ↦
                let one : i ≡ k = omega arith in
                let at = ap (release p) one in
                (one, omega arith)
          ]
    ]

-- ---- how many bars a job has at a machine

module _ (p : Plant) (x : Table) (w : Window) (i j n : ℕ) (at : IsJobAt p i j n) where
  abbrev asked : Bar → Bool
  asked b = eqb b.station (machine_station p i j) && eqb b.job n

  abbrev own : ℕ
  own = cond (meets w (bar (graph p) x (machine_lanes p i j) n)) 1 0

  abbrev counted : Lanes → ℕ
  counted m = count_by asked (machine_bars (graph p) x w m)

  -- what one job at a machine counts
  abbrev one : Lanes → ℕ → ℕ
  one m k = cond (meets w (bar (graph p) x m k)) (cond (asked (bar (graph p) x m k)) 1 0) 0

  no-more : (b c : Bool) → b ≡ false → ◌≡◌ {A = ℕ} (cond c (cond b 1 0) 0) 0
  no-more false true is = refl
  no-more false false is = refl
  no-more true true is = cc
  no-more true false is = refl

  counted-is : (m : Lanes) → counted m ≡ sum_by (one m) (range_with_len 1 (jobs (graph p)))
  unfolding machine_bars
  counted-is m = count-filter-map asked (meets w) (bar (graph p) x m) (range_with_len 1 (jobs (graph p)))

  -- another station, and another job
  other-station : (m : Lanes) → m.station ≢ machine_station p i j → counted m ≡ 0
  other-station m differs =
      counted-is m ∙ sum-none (one m) 1 (jobs (graph p)) (λ k low high. no-more (asked (bar (graph p) x m k)) (meets w (bar (graph p) x m k)) (ap (λ t. t && eqb k n) (ne_eqb m.station (machine_station p i j) differs)))

  and-false : (b : Bool) → (b && false) ≡ false
  and-false true = refl
  and-false false = refl

  here : counted (machine_lanes p i j) ≡ own
  here =
      let m = machine_lanes p i j in
      let t = machine_station p i j in
      let some = at.from_one in
      let few = at.job in
      let job = λ (k : ℕ) (low : 1 ≤ k) (high : k < 1 + jobs (graph p)) (differs : k ≢ n).
      no-more (asked (bar (graph p) x m k)) (meets w (bar (graph p) x m k)) (ap (λ b. eqb t t && b) (ne_eqb k n differs) ∙ and-false (eqb t t))
      in
      let yes : asked (bar (graph p) x m n) ≡ true = ap (λ b. b && eqb n n) (eq-eqb t t refl) ∙ eq-eqb n n refl in
      counted-is m
      ∙ sum-one (one m) n 1 (jobs (graph p)) some (omega arith) job
      ∙ ap (λ b. cond (meets w (bar (graph p) x m n)) (cond b 1 0) 0) yes

  -- all machines of a stage
  abbrev of_stage : ℕ → ℕ
  of_stage k = sum_by counted (stage_machines p k)

  at_stage : (k : ℕ) → of_stage k ≡ sum_by (λ l. counted (machine_lanes p k l)) (machine_numbers p k)
  at_stage k = sum-map counted (machine_lanes p k) (machine_numbers p k)

  other-stage : (k : ℕ) → k < length p.stages → k ≢ i → of_stage k ≡ 0
  other-stage k there differs =
      at_stage k ∙ sum-none (λ l. counted (machine_lanes p k l)) 0 (length (stage_at p k).machines) (λ l low high.
      other-station (machine_lanes p k l) (λ same. differs ((stations-differ p k l i j there (omega arith) at.stage at.machine same).0)))

  own-stage : of_stage i ≡ own
  own-stage =
      let inside = at.machine in
      at_stage i
      ∙ sum-one (λ l. counted (machine_lanes p i l)) j 0 (length (stage_at p i).machines) (omega arith) (omega arith) (λ l low high differs.
      other-station (machine_lanes p i l) (λ same. differs ((stations-differ p i l i j at.stage (omega arith) at.stage at.machine same).1)))
      ∙ here

  one-bar : count_by asked (bars p x w) ≡ own
  unfolding bars machines
  one-bar =
      let below = at.stage in
      count-flat_map asked (machine_bars (graph p) x w) (flat_map (stage_machines p) (stage_numbers p))
      ∙ sum-flat_map counted (stage_machines p) (stage_numbers p)
      ∙ sum-one of_stage i 0 (length p.stages) (omega arith) (omega arith) (λ k low high differs. other-stage k (omega arith) differs)
      ∙ own-stage

pub each-job-has-one-bar : (p : Plant) → EachJobHasOneBar p
each-job-has-one-bar p x w i j n at = one-bar p x w i j n at
