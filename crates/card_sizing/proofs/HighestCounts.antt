-- The count that is tried first: it ends as the most cards would.
use Rattle.std.proofs.Common.{◌≡◌, ℕ, ◌+◌, ◌<◌, ◌≤◌, true, length, sym, ap, subst, arith, ⊎_elim, ◌⊎◌, inl, inr, refl}
use Rattle.std.proofs.lemmas.Bool.{cases_lt}
use Rattle.line_base.specs.declared.limits.TheConstants.{MAX_CARDS}
use Rattle.plant_model.specs.declared.plant.Policy.{Policy}
use Rattle.plant_model.specs.declared.plant.Policy.TheVariants.{Kanban, Conwip, BaseStock, Extended}
use Rattle.plant_model.specs.declared.plant.Plant.{Plant}
use Rattle.plant_model.specs.Line.{stage_at}
use Rattle.plant_model.specs.Graph.{graph}
use Rattle.plant_model.specs.Sound.{IsSound}
use Rattle.event_graph.specs.Live.{IsLive}
use Rattle.line_graph.proofs.CardlessPlants.{deliver-same}
use Rattle.line_graph.proofs.MoreCards.{cards_never_later}
use Rattle.card_sizing.specs.Sized.{has_single_count, sized_plant, most_stock, lowest, lowest_under, highest, highest_under}
use Rattle.card_sizing.specs.Serving.{wait_until, IsFirstLate, IsLate}
use Rattle.card_sizing.proofs.SizedStages.{more-sized, differ-counts}
use Rattle.card_sizing.proofs.SizedSound.{sound_sized, stock-lowest}
use Rattle.card_sizing.proofs.Searches.{lowest_within}
use Rattle.card_sizing.proofs.CoveredCards.{covered_least, covered_live}

pub highest_within : (p : Plant) → highest p ≤ MAX_CARDS
unfolding highest
highest_within p = by_policy p.policy
  where
    by_policy : (policy : Policy) → highest_under policy p ≤ MAX_CARDS
    by_policy Kanban = omega arith
    by_policy (Conwip _) = omega arith
    by_policy BaseStock = omega arith
    by_policy Extended = omega arith

pub lowest_highest : (p : Plant) → IsSound p → lowest p ≤ highest p
unfolding lowest highest
lowest_highest p sound = by_policy p.policy (lowest_within p sound)
  where
    by_policy : (policy : Policy) → lowest_under policy p ≤ MAX_CARDS → lowest_under policy p ≤ highest_under policy p
    by_policy Kanban within = omega arith
    by_policy (Conwip _) within = within
    by_policy BaseStock within = omega arith
    by_policy Extended within = omega arith

-- the highest count is the most cards, or it covers the jobs of each stage under extended kanban
record CoversJobs (p : Plant) : Type 0 where
  extended : p.policy ≡ Extended
  covers : (i : ℕ) → i < length p.stages → (stage_at p i).stock + length p.demands ≤ highest p

module _ (p : Plant) (sound : IsSound p) where
  most_or_covers : (highest p ≡ MAX_CARDS) ⊎ CoversJobs p
  unfolding lowest highest
  most_or_covers = by_policy p.policy refl
    where
      by_policy : (policy : Policy) → p.policy ≡ policy → (highest_under p.policy p ≡ MAX_CARDS) ⊎ CoversJobs p
      by_policy Kanban is = inl (ap (λ (policy : Policy). highest_under policy p) is)
      by_policy (Conwip _) is = inl (ap (λ (policy : Policy). highest_under policy p) is)
      by_policy BaseStock is = inl (ap (λ (policy : Policy). highest_under policy p) is)
      by_policy Extended is =
          let high = ap (λ (policy : Policy). highest_under policy p) is in
          let low = ap (λ (policy : Policy). lowest_under policy p) is in
          ⊎_elim
          (λ few. inr (record {
            extended = is;
            covers = λ i below. let stock = stock-lowest p (most_stock p) sound is (omega (arith, low)) i below in omega (arith, stock, high, few);
          }))
          (λ many. inl (omega (arith, high, many)))
          (cases_lt (most_stock p + length p.demands) MAX_CARDS)

  module _ (single : has_single_count p ≡ true) where
    sound_highest : IsSound (sized_plant p (highest p))
    sound_highest = sound_sized p (highest p) sound single (lowest_highest p sound) (highest_within p)

    sound_most : IsSound (sized_plant p MAX_CARDS)
    sound_most = sound_sized p MAX_CARDS sound single (lowest_within p sound) (omega arith)

    -- the line is live where it is with the most cards
    pub highest_live : IsLive (graph (sized_plant p MAX_CARDS)) → IsLive (graph (sized_plant p (highest p)))
    highest_live live =
        ⊎_elim
        (λ same. subst (λ (c : ℕ). IsLive (graph (sized_plant p c))) (sym same) live)
        (λ covers. covered_live p sound covers.extended (highest p) MAX_CARDS covers.covers (highest_within p) sound_most live)
        most_or_covers

    covered_late : (may job long : ℕ) → IsLate (sized_plant p (highest p)) may job long → CoversJobs p → IsLate (sized_plant p MAX_CARDS) may job long
    unfolding sized_plant
    covered_late may job long late covers = record {
      live = (cards_never_later (sized_plant p (highest p)) (sized_plant p MAX_CARDS) (more-sized p (highest p) MAX_CARDS single (highest_within p)) sound_highest late.live).live;
      waits = λ x least.
          let same = deliver-same (sized_plant p (highest p)) (sized_plant p MAX_CARDS) (differ-counts p (highest p) MAX_CARDS) in
          let here = late.waits x (covered_least p sound covers.extended (highest p) MAX_CARDS covers.covers (highest_within p) x least) in
          subst (λ (t : ℕ). IsFirstLate (wait_until x t) (length p.demands) may job long) same here;
    }

    -- a job that is late is late with the most cards, and as late
    pub highest_late : (may job long : ℕ) → IsLate (sized_plant p (highest p)) may job long → IsLate (sized_plant p MAX_CARDS) may job long
    highest_late may job long late =
        ⊎_elim
        (λ same. subst (λ (c : ℕ). IsLate (sized_plant p c) may job long) same late)
        (covered_late may job long late)
        most_or_covers
