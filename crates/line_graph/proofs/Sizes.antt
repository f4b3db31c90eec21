-- How many stations and arcs a plant's graph has, and that its lists are of one length.
use Rattle.std.proofs.Common.{codes, ◌≡◌, ℕ, ◌+◌, ◌-◌, ◌*◌, ◌<◌, ◌≤◌, List, [], ◌∷◌, ◌++◌, length, get_or, map, sum, refl, sym, ap, ◌∙◌, arith}
use Rattle.std.specs.List.{flat_map, filter, sum_by}
use Rattle.std.proofs.lemmas.List.{length-append, length-map, get_or-map}
use Rattle.std.proofs.lemmas.List.FromFn.{length-map-range_with_len, length-range_with_len, fill_by_all}
use Rattle.std.proofs.lemmas.List.Concat.{length-flat_map}
use Rattle.std.proofs.lemmas.List.Sums.{sum_by-cons, sum-map, length-filter, count_by-le-length}
use Rattle.std.proofs.lemmas.Simd.{map-map}
use Rattle.line_base.specs.declared.times.Times.TheVariants.{Fixed}
use Rattle.plant_model.specs.declared.plant.Policy.{Policy}
use Rattle.plant_model.specs.declared.plant.Policy.TheVariants.{Kanban, Conwip, BaseStock, Extended}
use Rattle.plant_model.specs.Stages.{Stage}
use Rattle.plant_model.specs.declared.plant.Plant.{Plant}
use Rattle.plant_model.specs.Line.{no_stage, stage_at, stage_numbers, stations_of, station_count, starting, is_first}
use Rattle.plant_model.specs.Graph.{Row, machine_rows, stage_rows, feed_row, card_row, demand_row, line_card_row, loop_row, policy_rows, loop_rows, rows, stage_labels, labels, stage_times, times, graph}
use Rattle.plant_model.specs.Sound.{IsSound}
use Rattle.event_graph.specs.Network.{stations, jobs, arc_count, demand, delay}
use Rattle.plant_model.proofs.SoundPlants.{HasSoundSizes-sound}
use Rattle.line_base.proofs.RangeLists.{length-flat_map-range}
use Rattle.line_graph.proofs.PolicyRows.{policy_rows-kanban, policy_rows-base_stock, policy_rows-extended, policy_rows-conwip}

-- two sums of the same terms are the same
pub sum_by-same : {X : Type 0} (f g : X → ℕ) (xs : List X) → ((x : X) → f x ≡ g x) → sum_by f xs ≡ sum_by g xs
sum_by-same f g xs h = λ j. sum_by (λ x. h x j) xs

-- a list of the stations of all stages, with one before and one after
length-around : {X : Type 0} (first last : X) (f : Stage → List X) (stages : List Stage) → ((s : Stage) → length (f s) ≡ 1 + length s.machines) → length (first ∷ (flat_map f stages ++ last ∷ [])) ≡ 2 + stations_of stages
length-around first last f stages each =
    let joined = length-append (flat_map f stages) (last ∷ []) in
    let parts = length-flat_map f stages in
    let same = sum_by-same (λ s. length (f s)) (λ s. 1 + length s.machines) stages each in
    omega arith

length-stage_labels : (s : Stage) → length (stage_labels s) ≡ 1 + length s.machines
length-stage_labels s = omega (arith, length-map s.machines (λ m. s.name ++ codes "." ++ m.name))

pub length-stage_times : (s : Stage) → length (stage_times s) ≡ 1 + length s.machines
length-stage_times s = omega (arith, length-map s.machines (λ m. m.times))

pub length-times_of : (stages : List Stage) → length (flat_map stage_times stages) ≡ stations_of stages
length-times_of stages =
    length-flat_map stage_times stages
    ∙ sum_by-same (λ s. length (stage_times s)) (λ s. 1 + length s.machines) stages length-stage_times

-- there is a label and a list of times for each station
pub stations-graph : (p : Plant) → stations (graph p) ≡ station_count p
unfolding graph labels
stations-graph p = length-around (codes "feed") (codes "deliver") stage_labels p.stages length-stage_labels ∙ omega arith

pub length-times : (p : Plant) → length (times p) ≡ station_count p
unfolding times
length-times p = length-around (Fixed 0) (Fixed 0) stage_times p.stages length-stage_times ∙ omega arith

-- there is a delay for each arc
pub arc_count-graph : (p : Plant) → arc_count (graph p) ≡ length (rows p)
unfolding graph
arc_count-graph p = length-map (rows p) (λ r. r.arc)

pub length-delays : (p : Plant) → length (graph p).delays ≡ length (rows p)
unfolding graph
length-delays p = length-map (rows p) (λ r. r.delay)

-- the jobs, the demand dates, the job times and the delays of the graph are those of the plant
pub jobs-graph : (p : Plant) → jobs (graph p) ≡ length p.demands
unfolding graph
jobs-graph p = refl

pub demand-graph : (p q : Plant) (n : ℕ) → p.demands ≡ q.demands → demand (graph p) n ≡ demand (graph q) n
unfolding graph demand
demand-graph p q n same = ap (λ (dates : List ℕ). get_or dates (n - 1) 0) same

pub times-graph : (p : Plant) → (graph p).times ≡ times p
unfolding graph
times-graph p = refl

pub delay-graph : (p : Plant) (a : ℕ) (d : Row) → a < length (rows p) → delay (graph p) a ≡ (get_or (rows p) a d).delay
unfolding graph delay
delay-graph p a d below = get_or-map (λ (r : Row). r.delay) (rows p) a d 0 below

-- a stage has one row and three a machine
length-stage_rows : (p : Plant) (i : ℕ) → length (stage_rows p i) ≡ 1 + 3 * length (stage_at p i).machines
length-stage_rows p i =
    omega (arith, length-flat_map-range (machine_rows p i) 3 (length (stage_at p i).machines) (λ j. refl))

-- the stages are those with their numbers
pub stages-numbered : (p : Plant) → p.stages ≡ map (stage_at p) (stage_numbers p)
stages-numbered p = fill_by_all (stage_at p) p.stages (length p.stages) no_stage refl (λ k below. refl)

-- one and three a machine, and two more a stage, are three a station
three_each : (stages : List Stage) → sum_by (λ s. 1 + 3 * length s.machines) stages + 2 * length stages ≡ 3 * stations_of stages
three_each [] = refl
three_each (s ∷ stages) =
    omega (arith, three_each stages, sum_by-cons (λ (t : Stage). 1 + 3 * length t.machines) s stages, sum_by-cons (λ (t : Stage). 1 + length t.machines) s stages)

-- the rows of the stages, and two more a stage, are three a station
length-stages : (p : Plant) → length (flat_map (stage_rows p) (stage_numbers p)) + 2 * length p.stages ≡ 3 * stations_of p.stages
length-stages p =
    let is = stage_numbers p in
    let count = λ (s : Stage). 1 + 3 * length s.machines in
    let rows = length-flat_map (stage_rows p) is ∙ sum_by-same (λ i. length (stage_rows p i)) (λ i. count (stage_at p i)) is (length-stage_rows p) in
    let numbered = ap (sum_by count) (stages-numbered p) ∙ sym (sum-map count (map (stage_at p) is)) ∙ ap sum (map-map count (stage_at p) is) ∙ sum-map (λ i. count (stage_at p i)) is in
    omega (arith, rows, numbered, three_each p.stages)

-- the policy has two rows a stage at most
length-policy_rows : (p : Plant) → length (policy_rows p) ≤ 2 * length p.stages
length-policy_rows p = by_policy p.policy refl
  where
    by_policy : (policy : Policy) → p.policy ≡ policy → length (policy_rows p) ≤ 2 * length p.stages
    by_policy Kanban is = rw (policy_rows-kanban p is) (omega (arith, length-map-range_with_len (card_row p 0) 0 (length p.stages)))
    by_policy (Conwip cards) is =
        let firsts = filter (is_first p) (stage_numbers p) in
        let few = count_by-le-length (is_first p) (stage_numbers p) in
        rw (policy_rows-conwip p cards is) (omega (arith, length-map firsts (line_card_row p), length-filter (is_first p) (stage_numbers p), length-range_with_len 0 (length p.stages)))
    by_policy BaseStock is = rw (policy_rows-base_stock p is) (omega (arith, length-map-range_with_len (demand_row p) 0 (length p.stages)))
    by_policy Extended is =
        rw (policy_rows-extended p is) (omega (arith, length-flat_map-range (λ (i : ℕ). demand_row p i ∷ card_row p ((stage_at p i).cards - starting p i) i ∷ []) 2 (length p.stages) (λ i. refl)))

-- three arcs a station at most, and 59
pub few_arcs : (p : Plant) → IsSound p → length (rows p) ≤ 3 * station_count p + 59
unfolding rows
few_arcs p sound =
    let stages = flat_map (stage_rows p) (stage_numbers p) in
    let rest = policy_rows p ++ loop_rows p in
    let joined = length-append stages (feed_row p ∷ rest) in
    let both = length-append (policy_rows p) (loop_rows p) in
    let loops = length-map p.loops (loop_row p) in
    let policy = length-policy_rows p in
    let all = length-stages p in
    let few = (HasSoundSizes-sound p sound).few_loops in
    omega arith
