-- Little's law, of any dates and of a plant's stages.
use Rattle.std.proofs.Common.{◌≡◌, ℕ, zero, suc, ◌+◌, ◌-◌, ◌*◌, ◌<◌, ◌≤◌, cond, ltb, leb, List, [], ◌∷◌, length, refl, sym, ap, ◌∙◌, subst, Option, None, Some, inl, inr, arith}
use Rattle.std.specs.Prelude.{IfSome, ◌&&◌, All}
use Rattle.std.specs.List.{sum_by, Contains, flat_map}
use Rattle.std.proofs.lemmas.Bool.{cases_lt}
use Rattle.std.proofs.lemmas.Bool.Decides.{nat_tests}
use Rattle.std.proofs.lemmas.List.Elements.{All-head, All-tail, All-contains}
use Rattle.std.proofs.lemmas.List.Sums.{sum_by-cons}
use Rattle.live_check.proofs.Counts.{sum_by-range-add}
use Rattle.line_graph.proofs.Sizes.{stations-graph}
use Rattle.line_base.specs.declared.event.Parts.{Parts}
use Rattle.line_base.proofs.RangeLists.{Contains-head}
use Rattle.line_graph.proofs.Inputs.{in_stages, in_machines}
use Rattle.line_graph.proofs.SolvesRows.{Meets, Meets-solves}
use Rattle.plant_model.proofs.SoundPlants.{IsSoundStage-sound}
use Rattle.plant_model.specs.declared.plant.Plant.{Plant}
use Rattle.plant_model.specs.Line.{stage_at, release, last_machine, machine_station, machine_numbers, deliver, station_count}
use Rattle.plant_model.specs.Bound.{bound}
use Rattle.plant_model.specs.Graph.{Row, worked_row, onward, machine_rows, times, rows, graph}
use Rattle.plant_model.specs.Sound.{IsSound}
use Rattle.plant_model.proofs.LayoutStations.{last_machine-below}
use Rattle.event_graph.specs.Network.{jobs, stations}
use Rattle.event_graph.specs.Table.{Table}
use Rattle.event_graph.specs.Solves.{Solves}
use Rattle.line_stats.specs.Between.{dates_until}
use Rattle.line_stats.specs.Counts.{job_numbers, count_until, in_process, in_move, in_stock, standing, backlog, last_date, waiting}
use Rattle.line_stats.proofs.CountsOfDates.{until}
use Rattle.line_stats.proofs.Flows.{asked-late, onward-inner, process-flow, delivery-after, delivery-flow}
use Rattle.line_stats.proofs.StandingParts.{date-le-last, standing-bounded}
use Rattle.line_summary.specs.Laws.{Stay, inside}
use Rattle.line_summary.specs.OverTime.{sum_until, process_sum, backlog_sum, stage_sum}
use Rattle.line_summary.proofs.OverTime.{sum_until-add, sum_until-same, sum_until-le, sum-until, sum-job}

-- any list of dates
pub dates-add_up : (dates : List ℕ) (end : ℕ) → sum_until end (dates_until dates) ≡ sum_by (λ date. end - date) dates
dates-add_up [] end = sum_until-same end 0 ∙ omega arith
dates-add_up (date ∷ dates) end =
    let one = λ (v : ℕ). cond (leb date v) 1 0 in
    let more = sum_until-add end (dates_until (date ∷ dates)) one (dates_until dates) (λ v. sum_by-cons (λ d. cond (leb d v) 1 0) date dates) in
    omega (arith, more, sum-job end date, dates-add_up dates end, sum_by-cons (λ d. end - d) date dates)

-- any stays that are over by an end
test-split : (from to v : ℕ) → from ≤ to → cond (leb from v) 1 0 ≡ cond (leb from v && ltb v to) 1 0 + cond (leb to v) 1 0
test-split from to v le = grind (arith, nat_tests)

test-never : (from to v : ℕ) → to < from → ◌≡◌ {A = ℕ} (cond (leb from v && ltb v to) 1 0) 0
test-never from to v lt = grind (arith, nat_tests)

never-le : (from to v : ℕ) → to < from → cond (leb from v && ltb v to) 1 0 ≤ 0
never-le from to v lt = let h = test-never from to v lt in omega (arith, h)

stay-adds_up : (from to end : ℕ) → to ≤ end → sum_until end (λ v. cond (leb from v && ltb v to) 1 0) ≡ to - from
stay-adds_up from to end over =
    let here : ℕ → ℕ = λ v. cond (leb from v && ltb v to) 1 0 in
    let from_on : ℕ → ℕ = λ v. cond (leb from v) 1 0 in
    let to_on : ℕ → ℕ = λ v. cond (leb to v) 1 0 in
    elim (cases_lt to from) [
      | inl never ↦
          let zero : ℕ → ℕ = λ v. 0 in
          let none = sum_until-le end here zero (λ v. never-le from to v never) in
          omega (arith, none, sum_until-same end 0)
      | inr some ↦
          let split = sum_until-add end from_on here to_on (λ v. test-split from to v some) in
          omega (arith, split, sum-job end from, sum-job end to)
    ]

pub stays-add_up : (stays : List Stay) (end : ℕ) → All (λ s. s.left ≤ end) stays → sum_until end (inside stays) ≡ sum_by (λ s. s.left - s.entered) stays
stays-add_up [] end all = sum_until-same end 0 ∙ omega arith
stays-add_up (s ∷ stays) end all =
    let one = λ (v : ℕ). cond (leb s.entered v && ltb v s.left) 1 0 in
    let more = sum_until-add end (inside (s ∷ stays)) one (inside stays) (λ v. sum_by-cons (λ r. cond (leb r.entered v && ltb v r.left) 1 0) s stays) in
    let here = stay-adds_up s.entered s.left end (All-head (λ r. r.left ≤ end) s stays all) in
    omega (arith, more, here, stays-add_up stays end (All-tail (λ r. r.left ≤ end) s stays all), sum_by-cons (λ r. r.left - r.entered) s stays)

-- what a row asks of each job: no sooner than the job leaves its start, where it has no token of the start
row-after : (p : Plant) (x : Table) (r : Row) (n : ℕ) → Solves (graph p) x → Contains (rows p) r → r.arc.tokens ≡ 0 → 1 ≤ n → n ≤ jobs (graph p) → x r.arc.from n ≤ x r.arc.to n
row-after p x r n solves row none some few =
    let meets = All-contains (Meets (times p) (jobs (graph p)) x) (rows p) r (Meets-solves p x solves) row in
    let e : n - r.arc.tokens ≡ n = omega arith in
    let asks = asked-late (times p) x r.arc r.delay n (omega arith) in
    let same = ap (x r.arc.from) e in
    omega (arith, asks, meets.each n some few, same)

-- two dates of each job, the second no sooner, both by the end: the jobs between them
between-adds_up : (g : Parts) (from to count : ℕ → ℕ) (end : ℕ) → ((v : ℕ) → count_until g from v ≡ count v + count_until g to v) → ((n : ℕ) → 1 ≤ n → n ≤ jobs g → (from n ≤ to n) × (to n ≤ end)) → sum_until end count ≡ sum_by (λ n. to n - from n) (job_numbers g)
unfolding count_until
between-adds_up g from to count end split order =
    let h = jobs g in
    let parts = sum_until-add end (until h from) count (until h to) split in
    let times =
    sum_by-range-add (λ n. end - from n) (λ n. to n - from n) (λ n. end - to n) 1 h
    (λ n low high. let both = order n low (omega arith) in omega arith) in
    omega (arith, parts, times, sum-until end h from, sum-until end h to)

module _ (p : Plant) (x : Table) (sound : IsSound p) (solves : Solves (graph p) x) where
  -- no machine is done with a job before its release
  machine-after : (i j n : ℕ) → i < length p.stages → j < length (stage_at p i).machines → 1 ≤ n → n ≤ jobs (graph p) → x (release p i) n ≤ x (machine_station p i j) n
  machine-after i zero n below inside some few =
      let entry = worked_row (release p i) (machine_station p i 0) 0 in
      let row = in_stages p i entry below (Contains-head entry (flat_map (machine_rows p i) (machine_numbers p i))) in
      row-after p x entry n solves row refl some few
  machine-after i (suc j) n below inside some few =
      let e : j + 1 ≡ suc j = omega arith in
      let before = machine-after i j n below (omega arith) some few in
      let inner = onward-inner p i j (omega arith) in
      let has = in_machines p i j (onward p i j) below (omega arith) (2, omega arith, refl) in
      let row = subst (Contains (rows p)) inner has in
      let h = row-after p x (worked_row (machine_station p i j) (machine_station p i (j + 1)) 0) n solves row refl some few in
      subst (λ k. x (release p i) n ≤ x (machine_station p i k) n) e (omega (arith, h, before))

  pub parts-add_up : (i : ℕ) → i < length p.stages → process_sum p x i ≡ sum_by (λ n. x (last_machine p i) n - x (release p i) n) (job_numbers (graph p))
  unfolding in_process
  parts-add_up i below =
      let g = graph p in
      let some = (IsSoundStage-sound p i sound below).some_machine in
      let last : machine_station p i (length (stage_at p i).machines - 1) ≡ last_machine p i = omega arith in
      let exists : last_machine p i < station_count p = omega (arith, last_machine-below p i below) in
      between-adds_up g (x (release p i)) (x (last_machine p i)) (in_process p x i) (last_date g x)
      (λ v. omega (arith, process-flow p x i v sound solves below))
      (λ n one few. (
        subst (λ t. x (release p i) n ≤ x t n) last (machine-after i (length (stage_at p i).machines - 1) n below (omega arith) one few),
        date-le-last p x (last_machine p i) n exists one few,
      ))

  pub backlog-adds_up : backlog_sum p x ≡ waiting (graph p) x
  unfolding backlog waiting
  backlog-adds_up =
      let g = graph p in
      let end : stations g - 1 ≡ deliver p = omega (arith, stations-graph p) in
      let exists : deliver p < station_count p = omega arith in
      between-adds_up g (x 0) (x (deliver p)) (backlog p x) (last_date g x)
      (λ v. omega (arith, delivery-flow p x v solves))
      (λ n one few. (delivery-after p x n solves one few, date-le-last p x (deliver p) n exists one few))
      ∙ ap (λ t. sum_by (λ n. x t n - x 0 n) (job_numbers g)) (sym end)

  -- the parts of a stage are no more than its bound at each date
  all-parts : (i : ℕ) → stage_sum p x i ≡ sum_until (last_date (graph p) x) (standing p x i)
  unfolding standing
  all-parts i =
      let last = last_date (graph p) x in
      let two = λ (v : ℕ). in_process p x i v + in_move p x i v in
      let first = sum_until-add last two (in_process p x i) (in_move p x i) (λ v. refl) in
      let all = sum_until-add last (standing p x i) two (in_stock p x i) (λ v. refl) in
      omega (arith, first, all)

  pub means-bounded : (i : ℕ) → i < length p.stages → IfSome (bound p i) (λ number. stage_sum p x i ≤ number * last_date (graph p) x)
  means-bounded i below = by_bound (bound p i) (λ v. standing-bounded p x i v sound solves below)
    where
      by_bound : (o : Option ℕ) → ((v : ℕ) → IfSome o (λ number. standing p x i v ≤ number)) → IfSome o (λ number. stage_sum p x i ≤ number * last_date (graph p) x)
      by_bound None h = h 0
      by_bound (Some number) h =
          let last = last_date (graph p) x in
          omega (arith, all-parts i, sum_until-le last (standing p x i) (λ v. number) h, sum_until-same last number)
