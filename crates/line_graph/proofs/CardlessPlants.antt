-- Plants that differ in cards and stock alone have the same stations, labels, times and paths.
use Rattle.std.proofs.Common.{codes, ◌≡◌, ℕ, zero, suc, ◌+◌, ◌||◌, not, List, [], ◌∷◌, ◌++◌, length, get_or, take, map, Option, refl, sym, ap, ◌∙◌, arith}
use Rattle.std.specs.List.{list_any, filter, range_with_len, take-map}
use Rattle.std.specs.Option.{option_map_or}
use Rattle.std.proofs.Math.ListN.{get_or-map}
use Rattle.std.proofs.lemmas.List.{length-map}
use Rattle.std.proofs.lemmas.List.Folds.{flat_map-map}
use Rattle.std.proofs.lemmas.List.Sums.{sum_by-cons}
use Rattle.line_base.specs.declared.times.Times.{Times}
use Rattle.line_base.specs.declared.times.Times.TheVariants.{Fixed}
use Rattle.plant_model.specs.Stages.{Machine, Stage}
use Rattle.plant_model.specs.declared.plant.Plant.{Plant}
use Rattle.plant_model.specs.Line.{no_stage, no_loop, loop_at, stage_at, stage_numbers, stations_of, release, deliver, next, receiver, feeds, is_first, first_stages, path_within, path}
use Rattle.plant_model.specs.Graph.{stage_labels, labels, stage_times, times}
use Rattle.line_graph.specs.MoreCards.{stage_without_cards, loop_without_cards, without_cards, DifferInCards}
use Rattle.line_graph.proofs.RowPairs.{HaveOneShape}

-- ---- what cards and stock do not touch

stations-without : (stages : List Stage) → stations_of (map stage_without_cards stages) ≡ stations_of stages
stations-without [] = refl
stations-without (s ∷ stages) =
    let count = λ (t : Stage). 1 + length t.machines in
    omega (arith, stations-without stages, sum_by-cons count (stage_without_cards s) (map stage_without_cards stages), sum_by-cons count s stages)

release-without : (p : Plant) (i : ℕ) → release (without_cards p) i ≡ release p i
release-without p i =
    ap (λ (stages : List Stage). 1 + stations_of stages) (take-map stage_without_cards i p.stages) ∙ ap (λ (n : ℕ). 1 + n) (stations-without (take i p.stages))

deliver-without : (p : Plant) → deliver (without_cards p) ≡ deliver p
deliver-without p = ap (λ (n : ℕ). 1 + n) (stations-without p.stages)

labels-without : (p : Plant) → labels (without_cards p) ≡ labels p
unfolding labels
labels-without p =
    ap (λ (texts : List (List ℕ)). codes "feed" ∷ (texts ++ codes "deliver" ∷ [])) (flat_map-map stage_labels stage_without_cards p.stages)

times-without : (p : Plant) → times (without_cards p) ≡ times p
unfolding times
times-without p =
    ap (λ (all : List Times). Fixed 0 ∷ (all ++ Fixed 0 ∷ [])) (flat_map-map stage_times stage_without_cards p.stages)

fed-without : (i : ℕ) (stages : List Stage) → list_any (feeds i) (map stage_without_cards stages) ≡ list_any (feeds i) stages
fed-without i [] = refl
fed-without i (s ∷ stages) = ap (λ b. feeds i s || b) (fed-without i stages)

-- ---- so plants that differ in them alone have the same

module _ (p q : Plant) (differ : DifferInCards p q) where
  pub labels-same : labels p ≡ labels q
  labels-same = sym (labels-without p) ∙ ap labels differ.alike ∙ labels-without q

  pub times-same : times p ≡ times q
  times-same = sym (times-without p) ∙ ap times differ.alike ∙ times-without q

  pub demands-same : p.demands ≡ q.demands
  demands-same = ap (λ (r : Plant). r.demands) differ.alike

  pub card_time-same : p.card_time ≡ q.card_time
  card_time-same = ap (λ (r : Plant). r.card_time) differ.alike

  pub release-same : (i : ℕ) → release p i ≡ release q i
  release-same i = sym (release-without p i) ∙ ap (λ r. release r i) differ.alike ∙ release-without q i

  pub deliver-same : deliver p ≡ deliver q
  deliver-same = sym (deliver-without p) ∙ ap deliver differ.alike ∙ deliver-without q

  pub stages-same : length p.stages ≡ length q.stages
  stages-same =
      sym (length-map p.stages stage_without_cards) ∙ ap (λ (r : Plant). length r.stages) differ.alike ∙ length-map q.stages stage_without_cards

  pub loops-same : length p.loops ≡ length q.loops
  loops-same =
      sym (length-map p.loops loop_without_cards) ∙ ap (λ (r : Plant). length r.loops) differ.alike ∙ length-map q.loops loop_without_cards

  pub stage-same : (i : ℕ) → stage_without_cards (stage_at p i) ≡ stage_without_cards (stage_at q i)
  stage-same i =
      sym (get_or-map stage_without_cards p.stages i no_stage) ∙ ap (λ (r : Plant). get_or r.stages i no_stage) differ.alike ∙ get_or-map stage_without_cards q.stages i no_stage

  pub loop-same : (k : ℕ) → loop_without_cards (loop_at p k) ≡ loop_without_cards (loop_at q k)
  loop-same k =
      sym (get_or-map loop_without_cards p.loops k no_loop) ∙ ap (λ (r : Plant). get_or r.loops k no_loop) differ.alike ∙ get_or-map loop_without_cards q.loops k no_loop

  pub machines-same : (i : ℕ) → (stage_at p i).machines ≡ (stage_at q i).machines
  machines-same i = ap (λ (s : Stage). s.machines) (stage-same i)

  pub next-same : (i : ℕ) → next p i ≡ next q i
  next-same i = ap (λ (s : Stage). s.feeds) (stage-same i)

  pub receiver-same : (i : ℕ) → receiver p i ≡ receiver q i
  receiver-same i =
      ap (λ (o : Option ℕ). option_map_or (release p) o (deliver p)) (next-same i) ∙ (λ j. option_map_or (λ (k : ℕ). release-same k j) (next q i) (deliver-same j))

  pub firsts-same : first_stages p ≡ first_stages q
  firsts-same =
      let fed : (i : ℕ) → is_first p i ≡ is_first q i =
      λ i. ap not (sym (fed-without i p.stages) ∙ ap (λ (r : Plant). list_any (feeds i) r.stages) differ.alike ∙ fed-without i q.stages) in
      ap (λ (n : ℕ). filter (is_first p) (range_with_len 0 n)) stages-same ∙ (λ j. filter (λ (i : ℕ). fed i j) (stage_numbers q))

  path_within-same : (n a : ℕ) → path_within n p a ≡ path_within n q a
  path_within-same zero a = refl
  path_within-same (suc n) a =
      ap (λ (o : Option ℕ). a ∷ option_map_or (path_within n p) o []) (next-same a) ∙ (λ j. a ∷ option_map_or (λ (b : ℕ). path_within-same n b j) (next q a) [])

  pub path-same : (a : ℕ) → path p a ≡ path q a
  path-same a = ap (λ (n : ℕ). path_within n p a) stages-same ∙ path_within-same (length q.stages) a

  pub one_shape : HaveOneShape p q
  one_shape = record {
    stages = stages-same;
    machines = λ i. ap (λ (ms : List Machine). length ms) (machines-same i);
    loops = loops-same;
    firsts = firsts-same;
    policy = ap (λ (r : Plant). r.policy) differ.alike;
  }
