-- The graph of a sound plant is within the limits of event graphs.
use Rattle.std.proofs.Common.{ℕ, suc, ◌+◌, ◌<◌, ◌≤◌, List, [], ◌∷◌, length, get_or, sym, ◌∙◌, add-one, arith}
use Rattle.std.specs.List.{All, flat_map}
use Rattle.std.specs.List.Sorted.{IsNonDecreasing}
use Rattle.std.proofs.lemmas.List.{get_or_default}
use Rattle.std.proofs.lemmas.List.Elements.{All-nil, All-cons, All-append, All-map, All-weaker, All-from_get_or}
use Rattle.std.proofs.lemmas.List.Sorted.{IsNonDecreasingBy-from_all_adjacent}
use Rattle.line_base.specs.declared.limits.TheConstants.{MAX_CARDS, MAX_TIME, MAX_DEMAND_DATE}
use Rattle.line_base.specs.declared.times.Times.{Times}
use Rattle.line_base.specs.declared.times.Times.TheVariants.{Fixed, Each}
use Rattle.plant_model.specs.Stages.{Stage}
use Rattle.plant_model.specs.declared.plant.Plant.{Plant}
use Rattle.plant_model.specs.Line.{no_stage, no_machine, stage_at, machine_at}
use Rattle.plant_model.specs.Graph.{rows, stage_times, times, graph}
use Rattle.plant_model.specs.Sound.{IsSound}
use Rattle.event_graph.specs.Limits.{AreTimesFor, IsWithinLimits}
use Rattle.plant_model.proofs.SoundPlants.{AreSoundTimes, HasSoundSizes-sound, IsSoundMachine-sound}
use Rattle.line_graph.proofs.Sizes.{stations-graph, arc_count-graph, length-times, length-delays, few_arcs}
use Rattle.line_graph.proofs.SmallRows.{IsSmallRow, rows-small}

-- what holds of each element of each list holds of all of them one after the other
pub All-flat_map : {X Y : Type 0} (P : Y → Type 0) (f : X → List Y) (xs : List X) → All (λ x. All P (f x)) xs → All P (flat_map f xs)
All-flat_map P f [] h = All-nil P
All-flat_map P f (x ∷ xs) h =
    All-append P (f x) (flat_map f xs) (h 0 x (omega arith)) (All-flat_map P f xs (λ k d below. h (suc k) d (omega arith)))

-- the words of both layers for job times within the limits say the same
AreTimesFor-sound : (n : ℕ) (ts : Times) → AreSoundTimes n ts → AreTimesFor n ts
AreTimesFor-sound n (Fixed time) h = h
AreTimesFor-sound n (Each ts) h = (h.0, All-from_get_or (λ t. t ≤ MAX_TIME) ts 0 h.1)

module _ (p : Plant) (sound : IsSound p) where
  machine_times-short : (i : ℕ) (d : Stage) → i < length p.stages → All (λ m. AreTimesFor (length p.demands) m.times) (get_or p.stages i d).machines
  machine_times-short i d below =
      let at = get_or_default p.stages i d no_stage below in
      rw at (All-from_get_or (λ m. AreTimesFor (length p.demands) m.times) (stage_at p i).machines no_machine (λ j inside. AreTimesFor-sound (length p.demands) (machine_at p i j).times (IsSoundMachine-sound p i j sound below inside).short_times))

  times-short : All (AreTimesFor (length p.demands)) (times p)
  unfolding times
  times-short =
      let n = length p.demands in
      let free : AreTimesFor n (Fixed 0) = omega arith in
      let stage = λ (i : ℕ). λ (d : Stage). λ (below : i < length p.stages). All-cons (AreTimesFor n) (Fixed 0) _ free (All-map (AreTimesFor n) (λ m. m.times) (get_or p.stages i d).machines (machine_times-short i d below)) in
      let stages = All-flat_map (AreTimesFor n) stage_times p.stages stage in
      All-cons (AreTimesFor n) (Fixed 0) _ free (All-append (AreTimesFor n) (flat_map stage_times p.stages) (Fixed 0 ∷ []) stages (All-cons (AreTimesFor n) (Fixed 0) [] free (All-nil (AreTimesFor n))))

  ordered_dates : IsNonDecreasing p.demands
  ordered_dates =
      IsNonDecreasingBy-from_all_adjacent (λ x. x) p.demands (λ k d below.
      let here = get_or_default p.demands k d 0 (omega arith) in
      let next = get_or_default p.demands (k + 1) d 0 (omega arith) in
      rw (here, next, add-one) ((HasSoundSizes-sound p sound).ordered_demands k (omega arith)))

  pub IsWithinLimits-graph : IsWithinLimits (graph p)
  unfolding graph
  IsWithinLimits-graph =
      let sizes = HasSoundSizes-sound p sound in
      let count = stations-graph p in
      let arcs = arc_count-graph p in
      let small = rows-small p sound in
      record {
        some_station = omega arith;
        few_stations = omega (arith, sizes.few_stations);
        some_job = sizes.some_demand;
        few_jobs = sizes.few_demands;
        small_table = rw count sizes.small_table;
        demands_in_order = ordered_dates;
        demands_small = All-from_get_or (λ d. d ≤ MAX_DEMAND_DATE) p.demands 0 sizes.early_demands;
        times_for_each = length-times p ∙ sym count;
        times_small = times-short;
        few_arcs = omega (arith, few_arcs p sound, sizes.few_stations);
        few_tokens = All-map (λ a. a.tokens ≤ MAX_CARDS) (λ r. r.arc) (rows p) (All-weaker (IsSmallRow p) (λ r. r.arc.tokens ≤ MAX_CARDS) (λ r h. h.few_tokens) (rows p) small);
        delays_for_each = length-delays p ∙ sym arcs;
        delays_small = All-map (λ d. d ≤ MAX_TIME) (λ r. r.delay) (rows p) (All-weaker (IsSmallRow p) (λ r. r.delay ≤ MAX_TIME) (λ r h. h.short_delay) (rows p) small);
      }
