-- What it means that nothing is refused: the facts about a plant that stand behind each class.
use Rattle.std.proofs.Common.{◌≡◌, ℕ, ◌+◌, ◌<◌, List, [], ◌∷◌, ◌++◌, length, Option, None, Some, refl, arith}
use Rattle.std.specs.Prelude.{IfSome, IsNone, ◌↔◌}
use Rattle.std.proofs.lemmas.Bool.Decides.{nat_tests}
use Rattle.plant_model.specs.Stages.{Stage}
use Rattle.plant_model.specs.declared.plant.Plant.{Plant}
use Rattle.plant_model.specs.Line.{stage_at, no_stage, next}
use Rattle.plant_model.specs.Refusals.{bad_names, names_twice, out_of_range, feeds_not_later, all_feeds_not_later, second_final, second_finals, parts_refusals, whole_refusals, refusals}
use Rattle.plant_model.specs.Sound.{IsSound}
use Rattle.plant_model.proofs.NoRefusals.{append-nil_left, five-empty, refuse_if-none, each-none}

-- a stage feeds later stages alone
pub record FeedsLater (p : Plant) : Type 0 where
  pub later : (i j : ℕ) → i < length p.stages → next p i ≡ Some j → i < j
  pub exists : (i j : ℕ) → i < length p.stages → next p i ≡ Some j → j < length p.stages

fed-later : (count i j : ℕ) (s : Stage) → feeds_not_later count i s ≡ [] → s.feeds ≡ Some j → (i < j) × (j < count)
fed-later count i j s h fed = grind (arith, nat_tests, refuse_if-none)

-- where nothing is refused by class 8, each stage feeds later ones
pub FeedsLater-from : (p : Plant) → all_feeds_not_later p ≡ [] → FeedsLater p
FeedsLater-from p h =
    record {
      later = λ i j below fed. (fed-later (length p.stages) i j (stage_at p i) (each-none _ p.stages i no_stage below h) fed).0;
      exists = λ i j below fed. (fed-later (length p.stages) i j (stage_at p i) (each-none _ p.stages i no_stage below h) fed).1;
    }

last : (count i : ℕ) (s : Stage) → second_final count i s ≡ [] → s.feeds ≡ None → i < count → i + 1 ≡ count
last count i s h none below = grind (arith, nat_tests, refuse_if-none)

-- where nothing is refused by class 9, only the last stage feeds none
pub last-from : (p : Plant) (i : ℕ) → second_finals p ≡ [] → i < length p.stages → next p i ≡ None → i + 1 ≡ length p.stages
last-from p i h below none = last (length p.stages) i (stage_at p i) (each-none _ p.stages i no_stage below h) none below

-- what it means that classes 5 to 9 refuse nothing, class by class
pub record Parts (p : Plant) : Type 0 where
  pub named : bad_names p ≡ []
  pub once : names_twice p ≡ []
  pub in_range : out_of_range p ≡ []
  pub later : all_feeds_not_later p ≡ []
  pub one_final : second_finals p ≡ []

pub Parts-from : (p : Plant) → parts_refusals p ≡ [] → Parts p
unfolding parts_refusals
Parts-from p h =
    let q = five-empty (bad_names p) (names_twice p) (out_of_range p) (all_feeds_not_later p) (second_finals p) h in
    record { named = q.0; once = q.1; in_range = q.2; later = q.3; one_final = q.4 }

-- what holds of each value that there may be
each_fed : (o : Option ℕ) (P : ℕ → Type 0) → ((j : ℕ) → o ≡ Some j → P j) → IfSome o P
each_fed None P h = tt
each_fed (Some j) P h = h j refl

none_is : (o : Option ℕ) → IsNone o → o ≡ None
none_is None h = refl
none_is (Some j) h = cc

is_none : (o : Option ℕ) → ((j : ℕ) → o ≡ Some j → ⊥) → IsNone o
is_none None h = refl
is_none (Some j) h = absurd (h j refl)

-- classes 5 to 9 refuse nothing of a sound plant
pub IsSound-Parts : {p : Plant} → IsSound p → Parts p
unfolding refusals
IsSound-Parts {p} h = Parts-from p (append-nil_left (parts_refusals p) (whole_refusals p) h.nothing)

-- where neither do, the plant is sound
pub IsSound-from : (p : Plant) → parts_refusals p ≡ [] → whole_refusals p ≡ [] → IsSound p
unfolding refusals
IsSound-from p parts whole = record { nothing = rw (parts, whole) refl }

-- in a sound plant each stage feeds later ones
pub IsSound-FeedsLater : {p : Plant} → IsSound p → FeedsLater p
IsSound-FeedsLater {p} h = FeedsLater-from p (IsSound-Parts h).later

-- what a stage feeds stands later
pub next-later : (p : Plant) → FeedsLater p → (i : ℕ) → i < length p.stages → IfSome (next p i) (λ j. i < j)
next-later p tree i below = each_fed (next p i) (λ j. i < j) (λ j fed. tree.later i j below fed)

pub next-exists : (p : Plant) → FeedsLater p → (i : ℕ) → i < length p.stages → IfSome (next p i) (λ j. j < length p.stages)
next-exists p tree i below = each_fed (next p i) (λ j. j < length p.stages) (λ j fed. tree.exists i j below fed)

-- the final stage alone feeds none
pub next-none : (p : Plant) → Parts p → (i : ℕ) → i < length p.stages → IsNone (next p i) ↔ (i + 1 ≡ length p.stages)
next-none p parts i below =
    let tree = FeedsLater-from p parts.later in (
      λ none. last-from p i parts.one_final below (none_is (next p i) none),
      λ end.
          is_none (next p i)
          (λ j fed.
          let higher : i < j = tree.later i j below fed in
          let there : j < length p.stages = tree.exists i j below fed in
          absurd (omega arith)),
    )
