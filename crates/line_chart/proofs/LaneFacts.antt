-- The lanes of the machines of a plant: each machine of a live plant has one, and those of a later machine come after.
use Rattle.std.proofs.Common.{◌≡◌, ℕ, zero, suc, ◌+◌, ◌-◌, ◌*◌, ◌<◌, ◌≤◌, min, List, [], ◌∷◌, ◌++◌, map, length, get_or, refl, sym, ap, ◌∙◌, subst, map-id, append_assoc, arith}
use Rattle.std.specs.Prelude.{sum_by}
use Rattle.std.specs.List.{All, AllPairs, flat_map, range_with_len}
use Rattle.std.specs.Ordering.{ord_min, nat_cmp}
use Rattle.std.proofs.lemmas.Bool.Decides.{nat_tests}
use Rattle.std.proofs.lemmas.List.{get_or_default, length-append}
use Rattle.std.proofs.lemmas.List.FromFn.{map-range_with_len_more, length-map-range_with_len}
use Rattle.std.proofs.lemmas.List.Sums.{sum_by-append, sum_by-cons}
use Rattle.std.proofs.lemmas.List.Elements.{All-weaker}
use Rattle.line_base.specs.declared.event.Arc.{Arc}
use Rattle.line_base.proofs.RangeLists.{All-map-range, All-flat_map-range, flat_map-range_more}
use Rattle.plant_model.specs.declared.plant.Plant.{Plant}
use Rattle.plant_model.specs.Stages.{Stage, Machine}
use Rattle.plant_model.specs.Line.{no_stage, no_machine, stage_at, machine_at, machine_station, release, stage_numbers}
use Rattle.plant_model.specs.Graph.{graph}
use Rattle.plant_model.specs.Sound.{IsSound}
use Rattle.plant_model.proofs.LayoutStations.{last_machine-below, release-next, release-all}
use Rattle.plant_model.proofs.LayoutFacts.{few_stations}
use Rattle.plant_model.proofs.SoundPlants.{IsSoundMachine-sound, HasSoundSizes-sound}
use Rattle.event_graph.specs.Network.{arc}
use Rattle.event_graph.specs.Circuit.{IsCircuit}
use Rattle.event_graph.specs.Live.{IsLive}
use Rattle.line_graph.proofs.Sizes.{stations-graph}
use Rattle.line_chart.proofs.MachineArcs.{servers_row}
use Rattle.line_chart.specs.declared.lanes.Lanes.{Lanes}
use Rattle.line_chart.specs.Bars.{lanes, lanes_before, stage_lanes, lanes_of_stages, machine_lanes, stage_machines, machines}
use Rattle.line_chart.specs.Machines.{IsMachineOf}
use Rattle.line_chart.proofs.StepLists.{range-two}
use Rattle.line_chart.proofs.PairLists.{AllPairs-flat_map, AllPairs-range}
use Rattle.line_stats.proofs.DateSums.{sum_by-range-more}

-- ---- sums over the first numbers

sum-grows : (f : ℕ → ℕ) (m n : ℕ) → m ≤ n → sum_by f (range_with_len 0 m) ≤ sum_by f (range_with_len 0 n)
sum-grows f m n le =
    let e : n ≡ m + (n - m) = omega arith in
    let split = ap (λ k. sum_by f (range_with_len 0 k)) e ∙ ap (sum_by f) (range-two 0 m (n - m)) ∙ sum_by-append f (range_with_len 0 m) (range_with_len (0 + m) (n - m)) in
    omega (arith, split)

-- one machine more, and one stage more
pub lanes_before-next : (p : Plant) (i j : ℕ) → lanes_before p i (j + 1) ≡ lanes_before p i j + lanes p i j
lanes_before-next p i j = sum_by-range-more (lanes p i) j

pub lanes_of_stages-next : (p : Plant) (i : ℕ) → lanes_of_stages p (i + 1) ≡ lanes_of_stages p i + stage_lanes p i
lanes_of_stages-next p i = sum_by-range-more (stage_lanes p) i

-- a machine has no more lanes than may be servers
pub few_lanes : (p : Plant) (i j : ℕ) → IsSound p → i < length p.stages → j < length (stage_at p i).machines → lanes p i j ≤ 10_000
few_lanes p i j sound below inside = omega (arith, (IsSoundMachine-sound p i j sound below inside).few_servers)

-- how many lanes come before a machine
few_before : (p : Plant) (i j : ℕ) → IsSound p → i < length p.stages → j ≤ length (stage_at p i).machines → lanes_before p i j ≤ 10_000 * j
few_before p i zero sound below inside = omega arith
few_before p i (suc j) sound below inside =
    let e : j + 1 ≡ suc j = omega arith in
    let next = subst (λ k. lanes_before p i k ≡ lanes_before p i j + lanes p i j) e (lanes_before-next p i j) in
    omega (arith, next, few_before p i j sound below (omega arith), few_lanes p i j sound below (omega arith))

few_of_stages : (p : Plant) (i : ℕ) → IsSound p → i ≤ length p.stages → lanes_of_stages p i ≤ 10_000 * release p i
few_of_stages p zero sound below = omega arith
few_of_stages p (suc i) sound below =
    let e : i + 1 ≡ suc i = omega arith in
    let next = subst (λ k. lanes_of_stages p k ≡ lanes_of_stages p i + stage_lanes p i) e (lanes_of_stages-next p i) in
    let station = subst (λ k. release p k ≡ release p i + length (stage_at p i).machines + 1) e (release-next p i (omega arith)) in
    let few = few_before p i (length (stage_at p i).machines) sound (omega arith) (omega arith) in
    omega (arith, next, station, few, few_of_stages p i sound (omega arith))

pub small_first : (p : Plant) (i j : ℕ) → IsSound p → i < length p.stages → j < length (stage_at p i).machines → lanes_of_stages p i + lanes_before p i j ≤ 5_120_000
small_first p i j sound below inside =
    omega (arith, few_of_stages p i sound (omega arith), few_before p i j sound below (omega arith), last_machine-below p i below, few_stations p sound)

pub small_count : (p : Plant) → IsSound p → lanes_of_stages p (length p.stages) ≤ 5_120_000
small_count p sound = omega (arith, few_of_stages p (length p.stages) sound (omega arith), release-all p, few_stations p sound)

-- ---- each machine of a live plant has a lane

-- an arc from a station to itself is a circuit, so it has a token
some_servers : (p : Plant) (i j : ℕ) → IsLive (graph p) → i < length p.stages → j < length (stage_at p i).machines → 1 ≤ (machine_at p i j).servers
some_servers p i j live below inside =
    let row = servers_row p i j below inside in
    let g = graph p in
    let a = row.number in
    let from = ap (λ (b : Arc). b.from) row.arc_is in
    let to = ap (λ (b : Arc). b.to) row.arc_is in
    let tokens = ap (λ (b : Arc). b.tokens) row.arc_is in
    let circuit : IsCircuit g (a ∷ []) = record {
      some = omega arith;
      base = machine_station p i j;
      closed = (row.exists, from, to);
      distinct = λ k l d before within. absurd (omega arith);
    } in
    omega (arith, live (a ∷ []) circuit, sum_by-cons (λ b. (arc g b).tokens) a [], tokens)

pub some_lanes : (p : Plant) (i j : ℕ) → IsSound p → IsLive (graph p) → i < length p.stages → j < length (stage_at p i).machines → 1 ≤ lanes p i j
unfolding graph
some_lanes p i j sound live below inside =
    omega (arith, some_servers p i j live below inside, (HasSoundSizes-sound p sound).some_demand)

-- the lanes are those of a machine of the plant
pub record IsLanesOf (p : Plant) (m : Lanes) : Type 0 where
  pub stage : ℕ
  pub machine : ℕ
  pub stage_exists : stage < length p.stages
  pub machine_exists : machine < length (stage_at p stage).machines
  pub same : m ≡ machine_lanes p stage machine

pub each_machine : (p : Plant) → All (IsLanesOf p) (machines p)
unfolding machines
each_machine p =
    All-flat_map-range (IsLanesOf p) (stage_machines p) (length p.stages) (λ i below.
    All-map-range (IsLanesOf p) (machine_lanes p i) (length (stage_at p i).machines) (λ j inside. record {
      stage = i;
      machine = j;
      stage_exists = below;
      machine_exists = inside;
      same = refl;
    }))

pub are_machines : (p : Plant) → IsSound p → IsLive (graph p) → All (IsMachineOf (graph p)) (machines p)
are_machines p sound live =
    All-weaker (IsLanesOf p) (IsMachineOf (graph p)) (λ m of.
    subst (IsMachineOf (graph p)) (sym of.same) (record {
      exists = omega (arith, stations-graph p, last_machine-below p of.stage of.stage_exists, of.machine_exists);
      some = some_lanes p of.stage of.machine sound live of.stage_exists of.machine_exists;
      few = few_lanes p of.stage of.machine sound of.stage_exists of.machine_exists;
      small = small_first p of.stage of.machine sound of.stage_exists of.machine_exists;
    })) (machines p) (each_machine p)

-- ---- the lanes of a later machine come after

abbrev pub ComesBefore : Lanes → Lanes → Type 0
ComesBefore m k = m.first + m.count ≤ k.first

pub machines_in_order : (p : Plant) → AllPairs ComesBefore (machines p)
unfolding machines
machines_in_order p =
    AllPairs-flat_map ComesBefore (stage_machines p) (stage_numbers p) (λ n d below.
    let i = get_or (stage_numbers p) n d in
    AllPairs-range ComesBefore (machine_lanes p i) 0 (length (stage_at p i).machines) (λ j k low before high.
    omega (arith, lanes_before-next p i j, sum-grows (lanes p i) (j + 1) k (omega arith))))
    (rw-pairs (AllPairs-range Apart (λ i. i) 0 (length p.stages) stages_apart))
  where
    Apart : ℕ → ℕ → Type 0
    Apart i k = All (λ m. All (ComesBefore m) (stage_machines p k)) (stage_machines p i)

    rw-pairs : AllPairs Apart (map (λ i. i) (range_with_len 0 (length p.stages))) → AllPairs Apart (stage_numbers p)
    rw-pairs h = subst (AllPairs Apart) (map-id (stage_numbers p)) h

    stages_apart : (i k : ℕ) → 0 ≤ i → i < k → k < 0 + length p.stages → Apart i k
    stages_apart i k low before high =
        All-map-range (λ m. All (ComesBefore m) (stage_machines p k)) (machine_lanes p i) (length (stage_at p i).machines) (λ j inside.
        All-map-range (ComesBefore (machine_lanes p i j)) (machine_lanes p k) (length (stage_at p k).machines) (λ l within.
        omega (arith, lanes_before-next p i j, sum-grows (lanes p i) (j + 1) (length (stage_at p i).machines) (omega arith), lanes_of_stages-next p i, sum-grows (stage_lanes p) (i + 1) k (omega arith))))

-- ---- the lanes as they are listed

-- the machines of a stage that is read, and a machine of them
pub machines-count : (p : Plant) (i : ℕ) (stages : List Stage) (s : Stage) (ms : List Machine) → stages ≡ p.stages → i < length p.stages → ms ≡ (get_or stages i s).machines → ms ≡ (stage_at p i).machines
machines-count p i stages s ms same below are =
    are
    ∙ ap (λ (l : List Stage). (get_or l i s).machines) same
    ∙ ap (λ (t : Stage). t.machines) (get_or_default p.stages i s no_stage below)

pub machine-read : (p : Plant) (i j : ℕ) (ms : List Machine) (m : Machine) → ms ≡ (stage_at p i).machines → j < length ms → (get_or ms j m ≡ machine_at p i j) × (j < length (stage_at p i).machines)
machine-read p i j ms m all inside =
    let within : j < length (stage_at p i).machines = rw all at inside in
    (ap (λ l. get_or l j m) all ∙ get_or_default (stage_at p i).machines j m no_machine within, within)

-- one machine more
pub lanes-more : (p : Plant) (i n station first count : ℕ) (old list more : List Lanes) → list ≡ old ++ map (machine_lanes p i) (range_with_len 0 n) → more ≡ list ++ record { station = station; first = first; count = count } ∷ [] → station ≡ machine_station p i n → first ≡ lanes_of_stages p i + lanes_before p i n → count ≡ lanes p i n → more ≡ old ++ map (machine_lanes p i) (range_with_len 0 (n + 1))
lanes-more p i n station first count old list more are added s_is f_is c_is =
    let f = machine_lanes p i in
    let same : record { station = station; first = first; count = count } ≡ f n =
    ap (λ s. record { station = s; first = first; count = count }) s_is
    ∙ ap (λ k. record { station = machine_station p i n; first = k; count = count }) f_is
    ∙ ap (λ k. record { station = machine_station p i n; first = lanes_of_stages p i + lanes_before p i n; count = k }) c_is
    in
    added
    ∙ ap (λ l. l ++ record { station = station; first = first; count = count } ∷ []) are
    ∙ append_assoc old (map f (range_with_len 0 n)) _
    ∙ ap (λ x. old ++ (map f (range_with_len 0 n) ++ x ∷ [])) same
    ∙ ap (λ xs. old ++ xs) (sym (map-range_with_len_more f 0 n n (omega arith)))

-- one stage more
pub machines-more : (p : Plant) (n : ℕ) (list more : List Lanes) → list ≡ flat_map (stage_machines p) (range_with_len 0 n) → more ≡ list ++ stage_machines p n → more ≡ flat_map (stage_machines p) (range_with_len 0 (n + 1))
machines-more p n list more are added =
    added ∙ ap (λ l. l ++ stage_machines p n) are ∙ sym (flat_map-range_more (stage_machines p) n)

-- the lesser of two numbers, as `Ord::min` has it
pub ord_min-nat : (a b : ℕ) → ord_min nat_cmp a b ≡ min a b
ord_min-nat a b = grind (arith, nat_tests)

-- there are no more machines than stations
few_of : (p : Plant) (i : ℕ) → i ≤ length p.stages → length (flat_map (stage_machines p) (range_with_len 0 i)) + 1 ≤ release p i
few_of p zero below = omega arith
few_of p (suc i) below =
    let e : i + 1 ≡ suc i = omega arith in
    let m = length (stage_at p i).machines in
    let next = subst (λ k. flat_map (stage_machines p) (range_with_len 0 k) ≡ flat_map (stage_machines p) (range_with_len 0 i) ++ stage_machines p i) e (flat_map-range_more (stage_machines p) i) in
    let long = ap length next ∙ length-append (flat_map (stage_machines p) (range_with_len 0 i)) (stage_machines p i) in
    let own : length (stage_machines p i) ≡ m = length-map-range_with_len (machine_lanes p i) 0 m in
    let station = subst (λ k. release p k ≡ release p i + m + 1) e (release-next p i (omega arith)) in
    omega (arith, long, own, station, few_of p i (omega arith))

pub few_machines : (p : Plant) → IsSound p → length (machines p) ≤ 512
unfolding machines
few_machines p sound = omega (arith, few_of p (length p.stages) (omega arith), release-all p, few_stations p sound)

-- the name of a stage that is read
pub stage-name : (p : Plant) (i : ℕ) (stages : List Stage) (s : Stage) → stages ≡ p.stages → i < length p.stages → (get_or stages i s).name ≡ (stage_at p i).name
stage-name p i stages s same below =
    ap (λ (l : List Stage). (get_or l i s).name) same ∙ ap (λ (t : Stage). t.name) (get_or_default p.stages i s no_stage below)

-- how many lanes come before the machines of the next stage
pub stage_lanes-read : (p : Plant) (i n : ℕ) → n ≡ length (stage_at p i).machines → lanes_of_stages p i + lanes_before p i n ≡ lanes_of_stages p (i + 1)
stage_lanes-read p i n is =
    ap (λ k. lanes_of_stages p i + lanes_before p i k) is ∙ sym (lanes_of_stages-next p i)
