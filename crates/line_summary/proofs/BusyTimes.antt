-- How long a machine works: no longer than its servers have time.
use Rattle.std.proofs.Common.{◌≡◌, ℕ, zero, suc, ◌+◌, ◌-◌, ◌*◌, ◌<◌, ◌≤◌, Bool, cond, true, List, [], ◌∷◌, ◌++◌, length, get_or, take, refl, ap, ◌∙◌, inl, inr, arith}
use Rattle.std.specs.List.{sum_by, range_with_len, flat_map}
use Rattle.std.proofs.lemmas.Bool.{cases_lt, lt-ltb, le-ltb}
use Rattle.std.proofs.lemmas.List.{get_or_append_left, get_or-map}
use Rattle.std.proofs.lemmas.List.Concat.{get_or-flat_map}
use Rattle.std.proofs.lemmas.List.Folds.{length-flat_map-take}
use Rattle.std.proofs.lemmas.List.Elements.{All-contains}
use Rattle.line_base.proofs.RangeLists.{Contains-head}
use Rattle.line_base.specs.declared.times.Times.{Times}
use Rattle.line_base.specs.declared.times.Times.TheVariants.{Fixed}
use Rattle.line_base.specs.Times.{time_at}
use Rattle.plant_model.specs.declared.plant.Plant.{Plant}
use Rattle.plant_model.specs.Line.{stage_at, machine_at, machine_station, station_count, no_stage, no_machine}
use Rattle.plant_model.specs.Graph.{worked_row, plain_row, onward, rows, times, stage_times, graph}
use Rattle.plant_model.specs.Sound.{IsSound}
use Rattle.event_graph.specs.Network.{jobs}
use Rattle.event_graph.specs.Table.{Table}
use Rattle.event_graph.specs.Solves.{Solves}
use Rattle.plant_model.proofs.LayoutStations.{last_machine-below}
use Rattle.line_graph.proofs.Inputs.{in_machines}
use Rattle.line_graph.proofs.Sizes.{length-stage_times, length-times_of}
use Rattle.line_graph.proofs.SolvesRows.{asked, Meets, Meets-solves}
use Rattle.line_stats.specs.Counts.{last_date}
use Rattle.line_stats.proofs.StandingParts.{date-le-last}
use Rattle.line_summary.specs.Machines.{busy}
use Rattle.line_summary.proofs.OverTime.{sum-jobs-more}

-- the dates of the last `count` jobs up to job h, added up, where job 0 has date 0
pub window : (ℕ → ℕ) → ℕ → ℕ → ℕ
window f zero h = 0
window f (suc count) h = window f count h + f (h - count)

-- one job later the first of them goes, and the next one comes
window-next : (f : ℕ → ℕ) (count h : ℕ) → window f count (suc h) + f (suc h - count) ≡ f (suc h) + window f count h
unfolding window
window-next f zero h = let e : suc h - 0 ≡ suc h = omega arith in omega (arith, ap f e)
window-next f (suc count) h =
    let rest = window-next f count h in
    let e : suc h - suc count ≡ h - count = omega arith in
    omega (arith, rest, ap f e)

window-le : (f : ℕ → ℕ) (count h most : ℕ) → ((n : ℕ) → n ≤ h → f n ≤ most) → window f count h ≤ count * most
unfolding window
window-le f zero h most all = omega arith
window-le f (suc count) h most all = one_more (window-le f count h most all) (all (h - count) (omega arith))
  where
    one_more : {m n : ℕ} → m ≤ count * most → n ≤ most → m + n ≤ suc count * most
    one_more {m} {n} le one = omega (arith, le, one)

window-none : (f : ℕ → ℕ) (count : ℕ) → f 0 ≡ 0 → window f count 0 ≡ 0
unfolding window
window-none f zero none = refl
window-none f (suc count) none =
    let e : 0 - count ≡ 0 = omega arith in omega (arith, window-none f count none, ap f e)

-- work that fits between the date of a job and that of the job `count` before fits the last `count` dates
pub work-fits : (f work : ℕ → ℕ) (count jobs : ℕ) → f 0 ≡ 0 → ((n : ℕ) → 1 ≤ n → n ≤ jobs → f (n - count) + work n ≤ f n) → sum_by work (range_with_len 1 jobs) ≤ window f count jobs
work-fits f work count zero none fits = omega (arith, window-none f count none)
work-fits f work count (suc jobs) none fits =
    let rest = work-fits f work count jobs none (λ n some few. fits n some (omega arith)) in
    omega (arith, rest, sum-jobs-more work jobs, window-next f count jobs, fits (suc jobs) (omega arith) (omega arith))

-- the job times of a machine stand at its station
times-machine : (p : Plant) (i j : ℕ) → i < length p.stages → j < length (stage_at p i).machines → get_or (times p) (machine_station p i j) (Fixed 0) ≡ (machine_at p i j).times
unfolding times
times-machine p i j below inside =
    let all = flat_map stage_times p.stages in
    let before = length (flat_map stage_times (take i p.stages)) in
    let at : machine_station p i j ≡ suc (before + (1 + j)) = omega (arith, length-times_of (take i p.stages)) in
    let few : 1 + j < length (stage_times (stage_at p i)) = omega (arith, length-stage_times (stage_at p i)) in
    let within = length-flat_map-take stage_times p.stages i no_stage below in
    let left = get_or_append_left all (Fixed 0 ∷ []) (Fixed 0) (before + (1 + j)) (omega (arith, within, few)) in
    let here = get_or-flat_map stage_times p.stages i (1 + j) no_stage (Fixed 0) below few in
    let next : 1 + j ≡ suc j = omega arith in
    ap (λ n. get_or (Fixed 0 ∷ (all ++ Fixed 0 ∷ [])) n (Fixed 0)) at ∙ left ∙ here ∙ ap (λ n. get_or (stage_times (stage_at p i)) n (Fixed 0)) next ∙ get_or-map (λ m. m.times) (stage_at p i).machines j no_machine (Fixed 0) inside

-- a date for each job, and 0 before the first
from_one : (ℕ → ℕ) → ℕ → ℕ
from_one date zero = 0
from_one date (suc n) = date (suc n)

from_one-is : (date : ℕ → ℕ) (n : ℕ) → 1 ≤ n → from_one date n ≡ date n
unfolding from_one
from_one-is date zero some = absurd (omega arith)
from_one-is date (suc n) some = refl

from_one-zero : (date : ℕ → ℕ) → from_one date 0 ≡ 0
unfolding from_one
from_one-zero date = refl

from_one-le : (date : ℕ → ℕ) (most n : ℕ) → (1 ≤ n → date n ≤ most) → from_one date n ≤ most
unfolding from_one
from_one-le date most zero all = omega arith
from_one-le date most (suc n) all = all (omega arith)

-- what the servers of a machine ask of its dates
asked-worked : (ts : List Times) (x : Table) (m servers n : ℕ) → 1 ≤ n → asked ts x (record { from = m; to = m; tokens = servers; worked = true }) 0 n ≡ time_at (get_or ts m (Fixed 0)) n + from_one (x m) (n - servers)
unfolding asked
asked-worked ts x m servers n some =
    elim (cases_lt servers n) [
      | inl above ↦
          let here = from_one-is (x m) (n - servers) (omega arith) in
          let part = ap (λ (b : Bool). cond b (x m (n - servers) + 0) 0) (lt-ltb servers n above) in
          omega (arith, here, part)
      | inr few ↦
          let none : n - servers ≡ 0 = omega arith in
          let here = ap (from_one (x m)) none ∙ from_one-zero (x m) in
          let part = ap (λ (b : Bool). cond b (x m (n - servers) + 0) 0) (le-ltb servers n few) in
          omega (arith, here, part)
    ]

pub busy-fits : (p : Plant) (x : Table) (i j : ℕ) → IsSound p → Solves (graph p) x → i < length p.stages → j < length (stage_at p i).machines → busy p i j ≤ (machine_at p i j).servers * last_date (graph p) x
unfolding busy
busy-fits p x i j sound solves below inside =
    let m = machine_station p i j in
    let servers = (machine_at p i j).servers in
    let last = last_date (graph p) x in
    let row = worked_row m m servers in
    let has = in_machines p i j row below inside (Contains-head row (plain_row m m 1 0 ∷ onward p i j ∷ [])) in
    let meets = All-contains (Meets (times p) (jobs (graph p)) x) (rows p) row (Meets-solves p x solves) has in
    let f = from_one (x m) in
    let work = time_at (machine_at p i j).times in
    let fits = λ (n : ℕ). λ (some : 1 ≤ n). λ (few : n ≤ jobs (graph p)).
    let asks = meets.each n some few in
    let is = asked-worked (times p) x m servers n some in
    let time = ap (λ ts. time_at ts n) (times-machine p i j below inside) in
    let here = from_one-is (x m) n some in
    let h : f (n - servers) + work n ≤ f n = omega (arith, asks, is, time, here) in h in
    let all = work-fits f work servers (jobs (graph p)) (from_one-zero (x m)) fits in
    let exists : m < station_count p = omega (arith, last_machine-below p i below) in
    let early = window-le f servers (jobs (graph p)) last (λ n few. from_one-le (x m) last n (λ some. date-le-last p x m n exists some few)) in
    omega (arith, all, early)
