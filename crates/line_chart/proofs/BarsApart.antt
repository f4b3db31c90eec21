-- Two bars of one lane never overlap.
use Rattle.std.proofs.Common.{◌≡◌, ℕ, zero, suc, ◌+◌, ◌-◌, ◌*◌, ◌/◌, ◌%◌, ◌<◌, ◌≤◌, map, length, get_or, sym, ap, subst, inl, inr, arith}
use Rattle.std.specs.List.{All, AllPairs, range_with_len}
use Rattle.std.proofs.Math.Nat.{mul-le-mul_left, div-add-mod}
use Rattle.std.proofs.lemmas.Bool.{cases_lt}
use Rattle.std.proofs.lemmas.List.Elements.{All-filter, All-map}
use Rattle.std.proofs.lemmas.List.Kept.{AllPairs-filter}
use Rattle.line_base.specs.declared.event.Parts.{Parts}
use Rattle.plant_model.specs.declared.plant.Plant.{Plant}
use Rattle.plant_model.specs.Line.{stage_at, machine_at, machine_station}
use Rattle.plant_model.specs.Graph.{graph}
use Rattle.plant_model.specs.Sound.{IsSound}
use Rattle.plant_model.proofs.LayoutStations.{last_machine-below}
use Rattle.event_graph.specs.Network.{jobs, stations}
use Rattle.event_graph.specs.Live.{IsLive}
use Rattle.event_graph.specs.Table.{Table}
use Rattle.event_graph.specs.Least.{IsLeast}
use Rattle.line_graph.proofs.Sizes.{stations-graph}
use Rattle.line_stats.specs.Laws.{NeverDecreases}
use Rattle.line_chart.specs.Starts.{start}
use Rattle.line_chart.proofs.StartLaws.{none_leaves_earlier, servers_are_free}
use Rattle.line_chart.specs.declared.window.Window.{Window}
use Rattle.line_chart.specs.declared.lanes.Lanes.{Lanes}
use Rattle.line_chart.specs.declared.bar.Bar.{Bar}
use Rattle.line_chart.specs.Bars.{lanes, machine_lanes, machines, bar, meets, machine_bars, bars}
use Rattle.line_chart.specs.Laws.{BarsStayApart}
use Rattle.line_chart.proofs.LaneFacts.{some_lanes, IsLanesOf, each_machine, ComesBefore, machines_in_order}
use Rattle.line_chart.proofs.PairLists.{AllPairs-flat_map, AllPairs-range, AllPairs-weaker}

-- two numbers with one remainder are as far apart as the divisor
mod-apart : (c a b : ℕ) → a < b → a % c ≡ b % c → a + c ≤ b
mod-apart c a b less same =
    let a_is = div-add-mod a c in
    let b_is = div-add-mod b c in
    elim (cases_lt (a / c) (b / c)) [
      | inl before ↦
          let up : c * (a / c + 1) ≤ c * (b / c) = mul-le-mul_left c (omega arith) in
          let more : c * (a / c + 1) ≡ c * (a / c) + c = omega arith in
          omega (arith, a_is, b_is, up, more)
      | inr after ↦
          let down : c * (b / c) ≤ c * (a / c) = mul-le-mul_left c after in
          absurd (omega (arith, a_is, b_is, down))
    ]

-- of two bars, the first ends before the second begins, if they are in one lane
abbrev StayApart : Bar → Bar → Type 0
StayApart b c = b.lane ≡ c.lane → b.start + b.time ≤ c.start

-- dates at a machine don't decrease
module _ (p : Plant) (sound : IsSound p) (x : Table) (least : IsLeast (graph p) x) (rises : NeverDecreases (graph p) x) where
  rises-by : (t n k : ℕ) → t < stations (graph p) → 1 ≤ n → n + k ≤ jobs (graph p) → x t n ≤ x t (n + k)
  rises-by t n zero exists some few = let e : n ≡ n + 0 = omega arith in subst (λ m. x t n ≤ x t m) e (omega arith)
  rises-by t n (suc k) exists some few =
      let e : n + k + 1 ≡ n + suc k = omega arith in
      let step = subst (λ m. x t (n + k) ≤ x t m) e (rises t (n + k) exists (omega arith) (omega arith)) in
      omega (arith, step, rises-by t n k exists some (omega arith))

  -- two jobs in one lane of a machine
  jobs-apart : (i j n m : ℕ) → i < length p.stages → j < length (stage_at p i).machines → 1 ≤ n → n < m → m ≤ jobs (graph p) → StayApart (bar (graph p) x (machine_lanes p i j) n) (bar (graph p) x (machine_lanes p i j) m)
  jobs-apart i j n m below inside some less few lane =
      let g = graph p in
      let t = machine_station p i j in
      let count = lanes p i j in
      let servers = (machine_at p i j).servers in
      let remainders : (n - 1) % count ≡ (m - 1) % count = omega (arith, lane) in
      let far = mod-apart count (n - 1) (m - 1) (omega arith) remainders in
      let few_servers : count ≡ servers = omega arith in
      let before = m - servers in
      let e : before + servers ≡ m = omega arith in
      let e_2 : n + (before - n) ≡ before = omega arith in
      let exists : t < stations g = omega (arith, stations-graph p, last_machine-below p i below) in
      let free = subst (λ k. x t before ≤ start g x t k) e (servers_are_free p x i j before (record { stage = below; machine = inside; from_one = omega arith; job = omega arith }) (omega arith)) in
      let up = subst (λ k. x t n ≤ x t k) e_2 (rises-by t n (before - n) exists some (omega arith)) in
      let left = none_leaves_earlier p sound x least.solves i j n (record { stage = below; machine = inside; from_one = some; job = omega arith }) in
      omega (arith, free, up, left)

  machine-apart : (w : Window) (m : Lanes) → IsLanesOf p m → AllPairs StayApart (machine_bars (graph p) x w m)
  unfolding machine_bars
  machine-apart w m of =
      let g = graph p in
      AllPairs-filter StayApart (meets w) (map (bar g x m) (range_with_len 1 (jobs g))) (AllPairs-range StayApart (bar g x m) 1 (jobs g) (λ n k low before high.
      subst (λ l. StayApart (bar g x l n) (bar g x l k)) (sym of.same) (jobs-apart of.stage of.machine n k of.stage_exists of.machine_exists low before (omega arith))))

-- the lane of a bar is one of its machine
bar-lane : (g : Parts) (x : Table) (w : Window) (m : Lanes) → 1 ≤ m.count → All (λ b. (m.first ≤ b.lane) × (b.lane < m.first + m.count)) (machine_bars g x w m)
unfolding machine_bars
bar-lane g x w m some =
    let Inside = λ (b : Bar). (m.first ≤ b.lane) × (b.lane < m.first + m.count) in
    All-filter (meets w) Inside (map (bar g x m) (range_with_len 1 (jobs g))) (All-map Inside (bar g x m) (range_with_len 1 (jobs g)) (λ k d below. (omega arith, omega arith)))

pub bars-stay-apart : (p : Plant) → IsSound p → IsLive (graph p) → ((x : Table) → IsLeast (graph p) x → NeverDecreases (graph p) x) → BarsStayApart p
unfolding bars
bars-stay-apart p sound live order x least w =
    let g = graph p in
    let of_machine = machine_bars g x w in
    AllPairs-flat_map StayApart of_machine (machines p)
    (λ k d below. machine-apart p sound x least (order x least) w (get_or (machines p) k d) (each_machine p k d below))
    (AllPairs-weaker ComesBefore (λ m k. All (λ b. All (StayApart b) (of_machine k)) (of_machine m)) (IsLanesOf p) (machines p) (λ m k m_of k_of before.
    let m_some = ap (λ (l : Lanes). l.count) m_of.same in
    let k_some = ap (λ (l : Lanes). l.count) k_of.same in
    let first = bar-lane g x w m (omega (arith, m_some, some_lanes p m_of.stage m_of.machine sound live m_of.stage_exists m_of.machine_exists)) in
    let second = bar-lane g x w k (omega (arith, k_some, some_lanes p k_of.stage k_of.machine sound live k_of.stage_exists k_of.machine_exists)) in
    λ a d below c e inside lane. absurd (omega (arith, (first a d below).1, (second c e inside).0, lane, before)))
    (each_machine p) (machines_in_order p))
