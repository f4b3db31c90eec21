-- A plant with one count of cards differs from the plant in cards alone, and has more of them with a greater count.
use Rattle.std.proofs.Common.{◌≡◌, ℕ, ◌<◌, ◌≤◌, true, List, [], ◌∷◌, length, map, refl, sym, ap, ◌∙◌, arith}
use Rattle.std.proofs.lemmas.Bool.{eqb-true}
use Rattle.std.proofs.lemmas.List.{length-map, get_or-map}
use Rattle.line_base.specs.declared.limits.TheConstants.{MAX_CARDS}
use Rattle.plant_model.specs.declared.plant.Policy.{Policy}
use Rattle.plant_model.specs.declared.plant.Policy.TheVariants.{Kanban, Conwip, BaseStock, Extended}
use Rattle.plant_model.specs.Stages.{Stage}
use Rattle.plant_model.specs.declared.plant.Plant.{Plant}
use Rattle.plant_model.specs.Line.{no_stage, stage_at, line_cards}
use Rattle.plant_model.specs.Sound.{IsSound}
use Rattle.plant_model.proofs.SoundPlants.{IsSoundStage-sound, HasSoundSizes-sound}
use Rattle.line_graph.specs.MoreCards.{policy_without_cards, stage_without_cards, loop_without_cards, without_cards, DifferInCards, HasMoreCards}
use Rattle.card_sizing.specs.Sized.{has_count_under, has_single_count, policy_with, cards_under, stage_with, sized_plant}

-- ---- what the count touches

policy-without : (c : ℕ) (policy : Policy) → policy_without_cards (policy_with c policy) ≡ policy_without_cards policy
policy-without c Kanban = refl
policy-without c (Conwip _) = refl
policy-without c BaseStock = refl
policy-without c Extended = refl

stages-without : (policy : Policy) (c : ℕ) (stages : List Stage) → map stage_without_cards (map (stage_with policy c) stages) ≡ map stage_without_cards stages
stages-without policy c [] = refl
stages-without policy c (s ∷ stages) = ap (λ rest. stage_without_cards s ∷ rest) (stages-without policy c stages)

pub sized-without : (p : Plant) (c : ℕ) → without_cards (sized_plant p c) ≡ without_cards p
unfolding sized_plant
sized-without p c =
    λ j. record p {
      policy = policy-without c p.policy j;
      stages = stages-without p.policy c p.stages j;
      loops = map loop_without_cards p.loops;
    }

pub differ-sized : (p : Plant) (c : ℕ) → DifferInCards p (sized_plant p c)
differ-sized p c = record { alike = sym (sized-without p c) }

pub differ-counts : (p : Plant) (c d : ℕ) → DifferInCards (sized_plant p c) (sized_plant p d)
differ-counts p c d = record { alike = sized-without p c ∙ sym (sized-without p d) }

pub length-sized : (p : Plant) (c : ℕ) → length (sized_plant p c).stages ≡ length p.stages
unfolding sized_plant
length-sized p c = length-map p.stages (stage_with p.policy c)

pub stage_at-sized : (p : Plant) (c i : ℕ) → i < length p.stages → stage_at (sized_plant p c) i ≡ stage_with p.policy c (stage_at p i)
unfolding sized_plant
stage_at-sized p c i below = get_or-map (stage_with p.policy c) p.stages i no_stage no_stage below

pub policy-sized : (p : Plant) (c : ℕ) → (sized_plant p c).policy ≡ policy_with c p.policy
unfolding sized_plant
policy-sized p c = refl

pub loops-sized : (p : Plant) (c : ℕ) → (sized_plant p c).loops ≡ p.loops
unfolding sized_plant
loops-sized p c = refl

pub demands-sized : (p : Plant) (c : ℕ) → (sized_plant p c).demands ≡ p.demands
unfolding sized_plant
demands-sized p c = refl

-- ---- more cards

cards-more : (policy : Policy) (c d own : ℕ) → c ≤ d → cards_under policy c own ≤ cards_under policy d own
cards-more Kanban c d own h = h
cards-more (Conwip _) c d own h = omega arith
cards-more BaseStock c d own h = omega arith
cards-more Extended c d own h = h

cards-own : (policy : Policy) (d own : ℕ) → own ≤ d → own ≤ cards_under policy d own
cards-own Kanban d own h = h
cards-own (Conwip _) d own h = omega arith
cards-own BaseStock d own h = omega arith
cards-own Extended d own h = h

line-more : (policy : Policy) (c d : ℕ) → c ≤ d → line_cards (policy_with c policy) ≤ line_cards (policy_with d policy)
line-more Kanban c d h = omega arith
line-more (Conwip _) c d h = h
line-more BaseStock c d h = omega arith
line-more Extended c d h = omega arith

line-own : (policy : Policy) (d : ℕ) → line_cards policy ≤ d → line_cards policy ≤ line_cards (policy_with d policy)
line-own Kanban d h = omega arith
line-own (Conwip _) d h = h
line-own BaseStock d h = omega arith
line-own Extended d h = omega arith

-- under kanban a plant with a single count has no loop
no_loops-under : (policy : Policy) (p : Plant) → has_count_under policy p ≡ true → policy ≡ Kanban → length p.loops ≡ 0
no_loops-under Kanban p single is = eqb-true (length p.loops) 0 single
no_loops-under (Conwip _) p single is = cc
no_loops-under BaseStock p single is = cc
no_loops-under Extended p single is = cc

pub no_loops : (p : Plant) → has_single_count p ≡ true → p.policy ≡ Kanban → length p.loops ≡ 0
no_loops p single is = no_loops-under p.policy p single is

policy_with-kanban : (c : ℕ) (policy : Policy) → policy_with c policy ≡ Kanban → policy ≡ Kanban
policy_with-kanban c Kanban is = refl
policy_with-kanban c (Conwip _) is = cc
policy_with-kanban c BaseStock is = cc
policy_with-kanban c Extended is = cc

-- a greater count gives more cards
pub more-sized : (p : Plant) (c d : ℕ) → has_single_count p ≡ true → c ≤ d → HasMoreCards (sized_plant p c) (sized_plant p d)
more-sized p c d single h =
    let few = λ (i : ℕ). λ (below : i < length (sized_plant p c).stages). stage_at-sized p c i (omega (arith, length-sized p c)) in
    let many = λ (i : ℕ). λ (below : i < length (sized_plant p c).stages). stage_at-sized p d i (omega (arith, length-sized p c)) in
    record {
      differ = differ-counts p c d;
      stages = λ i below. rw (few i below, many i below) (cards-more p.policy c d (stage_at p i).cards h);
      stock = λ i below. rw (few i below, many i below) refl;
      line = rw (policy-sized p c, policy-sized p d) (line-more p.policy c d h);
      loops = λ k below. rw (loops-sized p c, loops-sized p d) (omega arith);
      kanban_loops = λ is some i below.
          let none = no_loops p single (policy_with-kanban c p.policy (sym (policy-sized p c) ∙ is)) in
          absurd (omega (arith, ap (λ ls. length ls) (loops-sized p c)));
    }

-- the most cards are more than those of the plant
pub most-sized : (p : Plant) → IsSound p → has_single_count p ≡ true → HasMoreCards p (sized_plant p MAX_CARDS)
most-sized p sound single =
    let many = λ (i : ℕ). λ (below : i < length p.stages). stage_at-sized p MAX_CARDS i below in
    record {
      differ = differ-sized p MAX_CARDS;
      stages = λ i below. rw (many i below) (cards-own p.policy MAX_CARDS (stage_at p i).cards (IsSoundStage-sound p i sound below).few_cards);
      stock = λ i below. rw (many i below) refl;
      line = rw (policy-sized p MAX_CARDS) (line-own p.policy MAX_CARDS (HasSoundSizes-sound p sound).few_line_cards);
      loops = λ k below. rw (loops-sized p MAX_CARDS) (omega arith);
      kanban_loops = λ is some i below. absurd (omega (arith, no_loops p single is));
    }
