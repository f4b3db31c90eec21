-- A plant with a count of cards for each stage: what the counts leave as it was, that it is sound, and that greater
-- counts give it more cards.
use Rattle.std.proofs.Common.{◌≡◌, ◌≢◌, ℕ, ◌+◌, ◌*◌, ◌<◌, ◌≤◌, ◌⊎◌, true, false, List, length, replicate, ⊎_elim, get_or, map, inl, inr, refl, sym, ap, ◌∙◌, subst, eqb, arith}
use Rattle.std.specs.List.{sum_by, list_any}
use Rattle.std.proofs.lemmas.Bool.{cases_lt, eqb-true}
use Rattle.std.proofs.lemmas.List.{length-map, get_or-map, get_or-replicate, get_or_past}
use Rattle.std.proofs.lemmas.List.FromFn.{fill_by_all, get_or-map-range_with_len, length-map-range_with_len}
use Rattle.std.proofs.lemmas.Simd.{map-map}
use Rattle.line_base.specs.Limits.{most_cards, most_stations, most_dates}
use Rattle.plant_model.specs.declared.plant.Policy.{Policy}
use Rattle.plant_model.specs.declared.plant.Policy.TheVariants.{Kanban, Conwip, BaseStock, Extended}
use Rattle.plant_model.specs.Stages.{Machine, Stage}
use Rattle.plant_model.specs.declared.plant.CardLoop.{CardLoop}
use Rattle.plant_model.specs.declared.plant.Plant.{Plant}
use Rattle.plant_model.specs.Line.{no_stage, no_machine, stage_at, stage_numbers, loop_at, station_count, stock_under, starting, path, up_to, stock_between}
use Rattle.plant_model.specs.Refusals.{is_reserved}
use Rattle.plant_model.specs.Sound.{IsSound, HasSoundNames, HasSoundSizes, IsSoundStage, IsSoundMachine, AreSoundTimes, IsSoundLoop, IsSoundPlant}
use Rattle.plant_model.proofs.PlainSound.{IsSoundPlant-sound, IsSound-plain}
use Rattle.line_graph.specs.MoreCards.{stage_without_cards, without_cards, DifferInCards, HasMoreCards}
use Rattle.line_graph.proofs.CardlessPlants.{deliver-same, path-same, stage-same, machines-same, next-same}
use Rattle.card_sizing.specs.Sized.{has_single_count, has_count_under, cards_under, policy_with, stage_with, sized_plant}
use Rattle.card_sizing.specs.Counted.{has_counts_under, has_stage_counts, least_under, stage_counted, with_counts, AreCounts}

-- ---- which plants have counts

single-under : (policy : Policy) (p : Plant) → has_counts_under policy p ≡ true → has_count_under policy p ≡ true
single-under Kanban p counts = counts
single-under (Conwip _) p counts = refl
single-under BaseStock p counts = counts
single-under Extended p counts = refl

pub single_count : (p : Plant) → has_stage_counts p ≡ true → has_single_count p ≡ true
single_count p counts = single-under p.policy p counts

no_conwip-under : (policy : Policy) (p : Plant) (cards : ℕ) → has_counts_under policy p ≡ true → policy ≡ Conwip cards → ⊥
no_conwip-under Kanban p cards counts is = cc
no_conwip-under (Conwip _) p cards counts is = cc
no_conwip-under BaseStock p cards counts is = cc
no_conwip-under Extended p cards counts is = cc

loops-under : (policy : Policy) (p : Plant) → has_counts_under policy p ≡ true → (length p.loops ≡ 0) ⊎ (policy ≡ Extended)
loops-under Kanban p counts = inl (eqb-true (length p.loops) 0 counts)
loops-under (Conwip _) p counts = cc
loops-under BaseStock p counts = cc
loops-under Extended p counts = inr refl

-- ---- what the counts leave

module _ (p : Plant) (counts : List ℕ) where
  pub length-counted : length (with_counts p counts).stages ≡ length p.stages
  unfolding with_counts
  length-counted = length-map-range_with_len (stage_counted p counts) 0 (length p.stages)

  pub stage_at-counted : (i : ℕ) → i < length p.stages → stage_at (with_counts p counts) i ≡ stage_counted p counts i
  unfolding with_counts
  stage_at-counted i below =
      get_or-map-range_with_len (stage_counted p counts) 0 (length p.stages) i i no_stage below (omega arith)

  pub policy-counted : (with_counts p counts).policy ≡ p.policy
  unfolding with_counts
  policy-counted = refl

  pub demands-counted : (with_counts p counts).demands ≡ p.demands
  unfolding with_counts
  demands-counted = refl

  pub differ-counted : DifferInCards p (with_counts p counts)
  unfolding with_counts
  differ-counted =
      let bare = λ (i : ℕ). stage_without_cards (stage_at p i) in
      let n = length p.stages in
      let mine = fill_by_all bare (map stage_without_cards p.stages) n no_stage (length-map p.stages stage_without_cards) (λ k low. get_or-map stage_without_cards p.stages k no_stage no_stage low) in
      let same = mine ∙ sym (map-map stage_without_cards (stage_counted p counts) (stage_numbers p)) in
      record { alike = λ j. record (without_cards p) { stages = same j } }

  loops-counted : (with_counts p counts).loops ≡ p.loops
  unfolding with_counts
  loops-counted = refl

  -- stock, also where no stage is
  stock-counted : (i : ℕ) → (stage_at (with_counts p counts) i).stock ≡ (stage_at p i).stock
  stock-counted i =
      ⊎_elim
      (λ below. ap (λ (s : Stage). s.stock) (stage_at-counted i below))
      (λ past.
      let mine = get_or_past (with_counts p counts).stages i no_stage (omega (arith, length-counted)) in
      let its = get_or_past p.stages i no_stage past in
      ap (λ (s : Stage). s.stock) (mine ∙ sym its))
      (cases_lt i (length p.stages))

  stock_under-same : (policy : Policy) (s t : Stage) → policy ≡ Extended → s.stock ≡ t.stock → stock_under policy s ≡ stock_under policy t
  stock_under-same Kanban s t is same = cc
  stock_under-same (Conwip _) s t is same = same
  stock_under-same BaseStock s t is same = same
  stock_under-same Extended s t is same = same

  start-counted : p.policy ≡ Extended → (i : ℕ) → starting (with_counts p counts) i ≡ starting p i
  start-counted is i =
      ap (λ (policy : Policy). stock_under policy (stage_at (with_counts p counts) i)) policy-counted
      ∙ stock_under-same p.policy (stage_at (with_counts p counts) i) (stage_at p i) is (stock-counted i)

-- ---- soundness

module _ (p : Plant) (counts : List ℕ) (sound : IsSound p) (has : has_stage_counts p ≡ true) (fit : AreCounts p counts) where
  q : Plant
  q = with_counts p counts

  facts : IsSoundPlant p
  facts = IsSoundPlant-sound p sound

  differ : DifferInCards p (with_counts p counts)
  differ = differ-counted p counts

  inside : (i : ℕ) → i < length (with_counts p counts).stages → i < length p.stages
  inside i below = omega (arith, length-counted p counts)

  name-same : (i : ℕ) → (stage_at p i).name ≡ (stage_at (with_counts p counts) i).name
  name-same i = ap (λ (s : Stage). s.name) (stage-same p (with_counts p counts) differ i)

  machines : (i : ℕ) → (stage_at p i).machines ≡ (stage_at (with_counts p counts) i).machines
  machines = machines-same p (with_counts p counts) differ

  names : HasSoundNames (with_counts p counts)
  names = record {
    none_reserved = λ i below.
        subst (λ (name : List ℕ). is_reserved name ≡ false) (name-same i) (facts.names.none_reserved i (inside i below));
    stages_differ = λ i j lt below same.
        facts.names.stages_differ i j lt (inside j below) (name-same i ∙ same ∙ sym (name-same j));
    machines_differ = λ i j k below lt low.
        subst (λ (ms : List Machine). (get_or ms j no_machine).name ≢ (get_or ms k no_machine).name) (machines i)
        (facts.names.machines_differ i j k (inside i below) lt (omega (arith, ap (λ (ms : List Machine). length ms) (machines i))));
  }

  stations : station_count p ≡ station_count (with_counts p counts)
  stations = ap (λ (n : ℕ). n + 1) (deliver-same p (with_counts p counts) differ)

  sizes : HasSoundSizes (with_counts p counts)
  unfolding with_counts
  sizes =
      let of = facts.sizes in
      let n = length-counted p counts in
      record {
        some_stage = omega (arith, n, of.some_stage);
        few_stages = omega (arith, n, of.few_stages);
        few_stations = subst (λ (n : ℕ). n ≤ most_stations) stations of.few_stations;
        some_demand = facts.sizes.some_demand;
        few_demands = facts.sizes.few_demands;
        small_table = subst (λ (n : ℕ). n * length p.demands ≤ most_dates) stations of.small_table;
        few_observed = facts.sizes.few_observed;
        few_loops = facts.sizes.few_loops;
        short_card_time = facts.sizes.short_card_time;
        few_line_cards = facts.sizes.few_line_cards;
        early_demands = facts.sizes.early_demands;
        ordered_demands = facts.sizes.ordered_demands;
        early_observed = facts.sizes.early_observed;
      }

  enough-under : (policy : Policy) → p.policy ≡ policy → (i : ℕ) → i < length p.stages → policy ≡ Extended → (stage_at p i).stock ≤ get_or counts i 0
  enough-under Kanban is i below extended = cc
  enough-under (Conwip _) is i below extended = cc
  enough-under BaseStock is i below extended = cc
  enough-under Extended is i below extended =
      subst (λ (policy : Policy). least_under policy (stage_at p i) ≤ get_or counts i 0) is (fit.enough i below)

  stages : (i : ℕ) → i < length (with_counts p counts).stages → IsSoundStage (with_counts p counts) i
  stages i below =
      let low = inside i below in
      let of = facts.stages i low in
      let at = stage_at-counted p counts i low in
      let same = stage-same p (with_counts p counts) differ i in
      let long = length-counted p counts in
      record {
        few_cards = omega (arith, ap (λ (s : Stage). s.cards) at, fit.within i low);
        little_stock = omega (arith, stock-counted p counts i, of.little_stock);
        short_travel = omega (arith, ap (λ (s : Stage). s.travel) same, of.short_travel);
        short_card_time = omega (arith, ap (λ (s : Stage). s.card_time) same, of.short_card_time);
        some_machine = omega (arith, ap (λ (ms : List Machine). length ms) (machines i), of.some_machine);
        feeds_later = λ j is.
            let later = of.feeds_later j (next-same p (with_counts p counts) differ i ∙ is) in
            (later.0, omega (arith, later.1, long));
        last_is_final = λ none.
            let last = of.last_is_final (next-same p (with_counts p counts) differ i ∙ none) in omega (arith, last, long);
        stock_has_cards = λ is.
            let stock = enough-under p.policy refl i low (sym (policy-counted p counts) ∙ is) in
            omega (arith, stock, stock-counted p counts i, ap (λ (s : Stage). s.cards) at);
      }

  of_machine : (i j : ℕ) → i < length (with_counts p counts).stages → j < length (stage_at (with_counts p counts) i).machines → IsSoundMachine (with_counts p counts) i j
  unfolding with_counts
  of_machine i j below low =
      let of = facts.machines i j (inside i below) (omega (arith, ap (λ (ms : List Machine). length ms) (machines i))) in
      record {
        few_servers = subst (λ (ms : List Machine). (get_or ms j no_machine).servers ≤ most_cards) (machines i) of.few_servers;
        short_times = subst (λ (ms : List Machine). AreSoundTimes (length p.demands) (get_or ms j no_machine).times) (machines i) of.short_times;
      }

  between : p.policy ≡ Extended → (a b : ℕ) → stock_between p a b ≡ stock_between (with_counts p counts) a b
  between is a b =
      ap (λ (is : List ℕ). sum_by (starting p) (up_to b is)) (path-same p (with_counts p counts) differ a)
      ∙ (λ j. sum_by (λ (i : ℕ). sym (start-counted p counts is i) j) (up_to b (path (with_counts p counts) a)))

  of_loop : (k : ℕ) → k < length p.loops → IsSoundLoop (with_counts p counts) (loop_at p k)
  of_loop k below =
      let of = facts.loops k below in
      let l = loop_at p k in
      let long = length-counted p counts in
      ⊎_elim
      (λ none. absurd (omega (arith, none)))
      (λ is. record {
        first_exists = omega (arith, of.first_exists, long);
        goes_downstream = subst (λ (is : List ℕ). list_any (λ i. eqb i l.last) is ≡ true) (path-same p (with_counts p counts) differ l.first) of.goes_downstream;
        stock_has_cards = omega (arith, of.stock_has_cards, between is l.first l.last);
        few_cards = of.few_cards;
        short_card_time = of.short_card_time;
      })
      (loops-under p.policy p has)

  of_loops : (k : ℕ) → k < length (with_counts p counts).loops → IsSoundLoop (with_counts p counts) (loop_at (with_counts p counts) k)
  unfolding with_counts
  of_loops k below = of_loop k below

  pub sound_counted : IsSound (with_counts p counts)
  sound_counted = IsSound-plain (with_counts p counts) (record {
    names = names;
    sizes = sizes;
    stages = stages;
    machines = of_machine;
    loops = of_loops;
    line_has_cards = λ i cards is below first. absurd (no_conwip-under p.policy p cards has (sym (policy-counted p counts) ∙ is));
  })

-- ---- more cards

no_loops-under : (policy : Policy) (p : Plant) → has_counts_under policy p ≡ true → policy ≡ Kanban → length p.loops ≡ 0
no_loops-under Kanban p counts is = eqb-true (length p.loops) 0 counts
no_loops-under (Conwip _) p counts is = cc
no_loops-under BaseStock p counts is = cc
no_loops-under Extended p counts is = cc

-- greater counts give more cards
pub more-counted : (p : Plant) (few many : List ℕ) → has_stage_counts p ≡ true → ((i : ℕ) → i < length p.stages → get_or few i 0 ≤ get_or many i 0) → HasMoreCards (with_counts p few) (with_counts p many)
more-counted p few many has more =
    let inside = λ (i : ℕ). λ (below : i < length (with_counts p few).stages). let low : i < length p.stages = omega (arith, length-counted p few) in low in
    record {
      differ = record { alike = sym (differ-counted p few).alike ∙ (differ-counted p many).alike };
      stages = λ i below.
          let low = inside i below in
          rw (stage_at-counted p few i low, stage_at-counted p many i low) (more i low);
      stock = λ i below. stock-counted p few i ∙ sym (stock-counted p many i);
      line = rw (policy-counted p few, policy-counted p many) (omega arith);
      loops = λ k below. rw (loops-counted p few, loops-counted p many) (omega arith);
      kanban_loops = λ is some i below.
          let none = no_loops-under p.policy p has (sym (policy-counted p few) ∙ is) in
          absurd (omega (arith, ap (λ (ls : List CardLoop). length ls) (loops-counted p few)));
    }

-- ---- the same count at each stage

policy-kept : (policy : Policy) (p : Plant) (c : ℕ) → has_counts_under policy p ≡ true → policy_with c policy ≡ policy
policy-kept Kanban p c counts = refl
policy-kept (Conwip _) p c counts = cc
policy-kept BaseStock p c counts = refl
policy-kept Extended p c counts = refl

cards-given : (policy : Policy) (p : Plant) (c own : ℕ) → has_counts_under policy p ≡ true → cards_under policy c own ≡ c
cards-given Kanban p c own counts = refl
cards-given (Conwip _) p c own counts = cc
cards-given BaseStock p c own counts = cc
cards-given Extended p c own counts = refl

pub counted-sized : (p : Plant) (c : ℕ) → has_stage_counts p ≡ true → sized_plant p c ≡ with_counts p (replicate (length p.stages) c)
unfolding sized_plant with_counts
counted-sized p c has =
    let n = length p.stages in
    let counts = replicate n c in
    let same = fill_by_all (stage_counted p counts) (map (stage_with p.policy c) p.stages) n no_stage (length-map p.stages (stage_with p.policy c)) (λ k low.
    let given = cards-given p.policy p c (stage_at p k).cards has ∙ sym (get_or-replicate n k c 0 low) in
    get_or-map (stage_with p.policy c) p.stages k no_stage no_stage low ∙ (λ j. record (stage_at p k) { cards = given j })) in
    λ j. record p { policy = policy-kept p.policy p c has j; stages = same j }
