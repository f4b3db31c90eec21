-- The steps of the search for the least count, and its ends.
use Rattle.std.proofs.Common.{◌≡◌, ℕ, zero, suc, ◌+◌, ◌-◌, ◌^◌, ◌<◌, ◌≤◌, true, length, refl, sym, ap, subst, arith, ⊎_elim}
use Rattle.std.proofs.Math.Nat.{pow-succ'}
use Rattle.std.proofs.lemmas.Bool.{cases_lt}
use Rattle.std.proofs.lemmas.List.Elements.{All-filter, filter_passes}
use Rattle.std.proofs.lemmas.Nat.{pow_pos}
use Rattle.line_base.specs.declared.limits.TheConstants.{MAX_CARDS}
use Rattle.plant_model.specs.declared.plant.Policy.{Policy}
use Rattle.plant_model.specs.declared.plant.Policy.TheVariants.{Kanban, Conwip, BaseStock, Extended}
use Rattle.plant_model.specs.declared.plant.Plant.{Plant}
use Rattle.plant_model.specs.Line.{stage_at, stage_numbers, is_first, first_stages, path_stock, line_cards}
use Rattle.plant_model.specs.Graph.{graph}
use Rattle.plant_model.specs.Sound.{IsSound}
use Rattle.plant_model.proofs.SoundPlants.{IsSoundStage-sound, HasSoundSizes-sound, path_stock-has_cards}
use Rattle.event_graph.proofs.Greatest.{greatest-le}
use Rattle.event_graph.specs.Live.{IsLive}
use Rattle.line_base.proofs.RangeLists.{All-range}
use Rattle.card_sizing.specs.declared.sizing.Below.{Below}
use Rattle.card_sizing.specs.declared.sizing.Below.TheVariants.{Lowest, Job, Dead}
use Rattle.card_sizing.specs.Sized.{has_single_count, sized_plant, lowest_under, lowest}
use Rattle.card_sizing.specs.Serving.{Serves, IsLateWith}
use Rattle.line_graph.specs.DeadLabels.{AreDead}
use Rattle.card_sizing.specs.Sizing.{NoneServesBelow, IsBelow, IsSearch}
use Rattle.card_sizing.specs.Trying.{FailsBy, HasTriesLeft, HalvesRange, IsHalving}
use Rattle.card_sizing.proofs.SizedSound.{sound_sized}
use Rattle.card_sizing.proofs.EnoughCards.{serves_more, dead_not_live, late_not_in_time}

-- the lowest count is within the limit
pub lowest_within : (p : Plant) → IsSound p → lowest p ≤ MAX_CARDS
unfolding lowest
lowest_within p sound = by_policy p.policy refl
  where
    by_policy : (policy : Policy) → p.policy ≡ policy → lowest_under policy p ≤ MAX_CARDS
    by_policy Kanban is = omega arith
    by_policy (Conwip cards) is =
        let n = length p.stages in
        let firsts = first_stages p in
        let inside = All-filter (is_first p) (λ i. i < n) (stage_numbers p) (All-range (λ i. i < n) n (λ i below. below)) in
        let passes = filter_passes (is_first p) (stage_numbers p) in
        let few : cards ≤ MAX_CARDS = subst (λ (policy : Policy). line_cards policy ≤ MAX_CARDS) is (HasSoundSizes-sound p sound).few_line_cards in
        let most = greatest-le (path_stock p) firsts cards (λ k d below. path_stock-has_cards p _ cards sound is (inside k d below) (passes k d below)) in
        omega (arith, most)
    by_policy BaseStock is = omega arith
    by_policy Extended is =
        greatest-le (λ i. (stage_at p i).stock) (stage_numbers p) MAX_CARDS (All-range (λ i. (stage_at p i).stock ≤ MAX_CARDS) (length p.stages) (λ i below. (IsSoundStage-sound p i sound below).little_stock))

module _ (p : Plant) (sound : IsSound p) (single : has_single_count p ≡ true) (may : ℕ) where
  -- what doesn't serve has none below that serves
  none_below : (c : ℕ) → c ≤ MAX_CARDS → (Serves p may c → ⊥) → NoneServesBelow p may (c + 1)
  none_below c few not d below serves = not (serves_more p sound single may d c serves (omega arith) few)

  -- a count that fails doesn't serve
  fails_not_serves : (c : ℕ) (why : Below) → FailsBy (sized_plant p c) may why → Serves p may c → ⊥
  fails_not_serves c Lowest fails serves = fails
  fails_not_serves c (Job job wait) fails serves =
      late_not_in_time (sized_plant p c) may job wait (sound_sized p c sound single serves.enough serves.within) fails serves.in_time
  fails_not_serves c (Dead labels) fails serves = dead_not_live (graph (sized_plant p c)) labels fails serves.in_time.live

  -- and says why one more can't be one less
  is_below : (c : ℕ) (why : Below) → lowest p ≤ c → FailsBy (sized_plant p c) may why → IsBelow p may (c + 1) why
  is_below c Lowest enough fails = absurd fails
  is_below c (Job job wait) enough late =
      let same : c ≡ c + 1 - 1 = omega arith in
      (omega arith, subst (λ (d : ℕ). IsLateWith p may d job wait) same late)
  is_below c (Dead labels) enough dead =
      let same : c ≡ c + 1 - 1 = omega arith in
      (omega arith, subst (λ (d : ℕ). AreDead (graph (sized_plant p d)) labels) same dead)

  -- one step further, where `middle` doesn't serve
  pub search_past : (low high middle : ℕ) (below why : Below) → IsSearch p may low high below → low ≤ middle → middle < high → FailsBy (sized_plant p middle) may why → IsSearch p may (middle + 1) high why
  search_past low high middle below why search after before fails = record {
    ordered = omega arith;
    enough = omega (arith, search.enough);
    none = none_below middle (omega (arith, search.serves.within)) (fails_not_serves middle why fails);
    reason = is_below middle why (omega (arith, search.enough)) fails;
    serves = search.serves;
  }

-- where the line is live, it fails by a job alone
pub fails_by_job : (p : Plant) (may : ℕ) (why : Below) → FailsBy p may why → IsLive (graph p) → (job : ℕ) × (wait : ℕ) × (why ≡ Job job wait)
fails_by_job p may Lowest fails live = absurd fails
fails_by_job p may (Job job wait) fails live = (job, wait, refl)
fails_by_job p may (Dead labels) fails live = absurd (dead_not_live (graph p) labels fails live)

-- ---- tries

-- one try more, after which at most half of the range is left
try_taken : (most tries range rest : ℕ) → HasTriesLeft most tries range → 1 ≤ range → rest + rest ≤ range → HasTriesLeft most (tries + 1) rest
try_taken most tries range rest has some half = by_left has.left has.all has.halved
  where
    by_left : (left : ℕ) → tries + left ≡ most → range < 2 ^ left → HasTriesLeft most (tries + 1) rest
    by_left zero all small = let one : 2 ^ 0 ≡ 1 = refl in absurd (omega arith)
    by_left (suc left) all small =
        let twice = pow-succ' 2 left in
        record { left = left; all = omega arith; halved = omega (arith, twice) }

-- the same, as the tries are counted
pub try_counted : (most tries counted range rest : ℕ) → counted ≡ tries + 1 → HasTriesLeft most tries range → 1 ≤ range → rest + rest ≤ range → HasTriesLeft most counted rest
try_counted most tries counted range rest is has some half =
    subst (λ (n : ℕ). HasTriesLeft most n rest) (sym is) (try_taken most tries range rest has some half)

-- ---- no fewer tries than halving takes

-- nothing is tried yet
pub halving_begins : (begun start range : ℕ) → range ≡ start → IsHalving begun begun start range
halving_begins begun start range is = record {
  done = 0;
  counted = omega arith;
  halved = λ k wide.
      let same : 2 ^ k ≡ 2 ^ (0 + k) = ap (λ (e : ℕ). 2 ^ e) (omega arith) in
      omega (arith, same, wide, is);
}

-- one try more, after which at least half of the range is left, but for the count that was tried
pub half_counted : (begun tries counted start range rest : ℕ) → counted ≡ tries + 1 → IsHalving begun tries start range → range ≤ rest + rest + 2 → IsHalving begun counted start rest
half_counted begun tries counted start range rest is has half = record {
  done = has.done + 1;
  counted = omega (arith, is, has.counted);
  halved = λ k wide.
      let same : 2 ^ (has.done + suc k) ≡ 2 ^ (has.done + 1 + k) = ap (λ (e : ℕ). 2 ^ e) (omega arith) in
      let before = has.halved (suc k) (omega (arith, same, wide)) in
      let twice = pow-succ' 2 k in
      omega (arith, before, twice, half);
}

-- where one count is left, they are as many as halving takes
pub halving_ends : (begun tries start range : ℕ) → IsHalving begun tries start range → range ≡ 0 → HalvesRange start begun tries
halving_ends begun tries start range has none k wide =
    ⊎_elim
    (λ more.
    let rest = k - has.done - 1 in
    let same : 2 ^ k ≡ 2 ^ (has.done + suc rest) = ap (λ (e : ℕ). 2 ^ e) (omega (arith, more)) in
    let left = has.halved (suc rest) (omega (arith, same, wide)) in
    let twice = pow-succ' 2 rest in
    let some = pow_pos rest in
    absurd (omega (arith, left, twice, some, none)))
    (λ enough. omega (arith, has.counted, enough))
    (cases_lt has.done k)
