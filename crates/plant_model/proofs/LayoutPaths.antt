-- The path of a stage of a sound plant has stages of the plant alone, and little stock.
use Rattle.std.proofs.Common.{sym, ◌≡◌, ℕ, zero, suc, ◌*◌, ◌<◌, ◌≤◌, Bool, true, false, cond, eqb, List, [], ◌∷◌, length, Option, None, Some, refl, ap, ◌∙◌, arith}
use Rattle.std.specs.List.{sum_by, All}
use Rattle.std.specs.Option.{option_map_or}
use Rattle.std.proofs.lemmas.List.Sums.{sum_by-le}
use Rattle.std.proofs.lemmas.List.Elements.{All-nil, All-cons, All-head, All-tail, All-weaker}
use Rattle.line_base.specs.declared.limits.TheConstants.{MAX_CARDS}
use Rattle.plant_model.specs.declared.plant.Policy.{Policy}
use Rattle.plant_model.specs.declared.plant.Policy.TheVariants.{Kanban, Conwip, BaseStock, Extended}
use Rattle.plant_model.specs.declared.plant.Plant.{Plant}
use Rattle.plant_model.specs.Line.{stage_at, next, stock_under, starting, path_within, path, up_to, is_downstream, path_stock, stock_between}
use Rattle.plant_model.specs.Sound.{IsSound}
use Rattle.plant_model.proofs.Soundness.{IsSound-FeedsLater}
use Rattle.plant_model.proofs.PathTables.{is_downstream-exists as down-exists}
use Rattle.plant_model.proofs.SoundPlants.{HasSoundSizes-sound, IsSoundStage-sound}

-- each stage of a path exists, and stands no earlier than the first
abbrev pub StandsFrom : Plant → ℕ → ℕ → Type 0
StandsFrom p i j = (i ≤ j) × (j < length p.stages)

path_within-rest : (p : Plant) (n i : ℕ) (o : Option ℕ) → ((j : ℕ) → o ≡ Some j → (i < j) × (j < length p.stages)) → ((k : ℕ) → k < length p.stages → All (StandsFrom p k) (path_within n p k)) → All (StandsFrom p i) (option_map_or (path_within n p) o [])
path_within-rest p n i None later all = All-nil (StandsFrom p i)
path_within-rest p n i (Some k) later all =
    let h = later k refl in
    All-weaker (StandsFrom p k) (StandsFrom p i) (λ j in'. (omega (arith, in'.0, h.0), in'.1)) _ (all k h.1)

path_within-stages : (p : Plant) (n i : ℕ) → IsSound p → i < length p.stages → All (StandsFrom p i) (path_within n p i)
path_within-stages p zero i sound below = All-nil (StandsFrom p i)
path_within-stages p (suc n) i sound below =
    let later = (IsSoundStage-sound p i sound below).feeds_later in
    let rest = path_within-rest p n i (next p i) later (λ k in'. path_within-stages p n k sound in') in
    All-cons (StandsFrom p i) i _ (omega arith, below) rest

pub path-stages : (p : Plant) (i : ℕ) → IsSound p → i < length p.stages → All (λ j. j < length p.stages) (path p i)
path-stages p i sound below =
    All-weaker (StandsFrom p i) (λ j. j < length p.stages) (λ j in'. in'.1) _ (path_within-stages p (length p.stages) i sound below)

length-option : (n : ℕ) (f : ℕ → List ℕ) (o : Option ℕ) → ((j : ℕ) → length (f j) ≤ n) → length (option_map_or f o []) ≤ n
length-option n f None h = omega arith
length-option n f (Some j) h = h j

pub length-path_within : (p : Plant) (n i : ℕ) → length (path_within n p i) ≤ n
length-path_within p zero i = omega arith
length-path_within p (suc n) i =
    let rest = length-option n (path_within n p) (next p i) (length-path_within p n) in
    omega arith

-- a prefix of a list has what the list has
pub All-up_to : (P : ℕ → Type 0) (b : ℕ) (is : List ℕ) → All P is → All P (up_to b is)
All-up_to P b [] h = h
All-up_to P b (i ∷ is) h =
    let head = All-head P i is h in
    let tail = All-tail P i is h in
    elim (eqb i b) as (λ t. All P (cond t (i ∷ []) (i ∷ up_to b is))) [
      | true ↦ All-cons P i [] head (All-nil P)
      | false ↦ All-cons P i (up_to b is) head (All-up_to P b is tail)
    ]

pub length-up_to : (b : ℕ) (is : List ℕ) → length (up_to b is) ≤ length is
length-up_to b [] = omega arith
length-up_to b (i ∷ is) =
    elim (eqb i b) as (λ t. length (cond t (i ∷ []) (i ∷ up_to b is)) ≤ suc (length is)) [
      | true ↦ omega arith
      | false ↦ omega (arith, length-up_to b is)
    ]

-- a stage's starting stock is within the limit
pub starting-le : (p : Plant) (i : ℕ) → IsSound p → i < length p.stages → starting p i ≤ MAX_CARDS
starting-le p i sound below = by_policy p.policy
  where
    by_policy : (policy : Policy) → stock_under policy (stage_at p i) ≤ MAX_CARDS
    by_policy Kanban = (IsSoundStage-sound p i sound below).few_cards
    by_policy (Conwip _) = (IsSoundStage-sound p i sound below).little_stock
    by_policy BaseStock = (IsSoundStage-sound p i sound below).little_stock
    by_policy Extended = (IsSoundStage-sound p i sound below).little_stock

-- the stock of a path, and of a part of one, is small
path-small : (p : Plant) (is : List ℕ) → IsSound p → All (λ j. j < length p.stages) is → length is ≤ length p.stages → sum_by (starting p) is ≤ 64 * MAX_CARDS
path-small p is sound inside short =
    let small = All-weaker (λ j. j < length p.stages) (λ j. starting p j ≤ MAX_CARDS) (λ j in'. starting-le p j sound in') is inside in
    let le = sum_by-le (starting p) MAX_CARDS is small in
    let few = (HasSoundSizes-sound p sound).few_stages in
    omega arith

pub path_stock-small : (p : Plant) (a : ℕ) → IsSound p → a < length p.stages → path_stock p a ≤ 64 * MAX_CARDS
path_stock-small p a sound below =
    path-small p (path p a) sound (path-stages p a sound below) (length-path_within p (length p.stages) a)

pub stock_between-small : (p : Plant) (a b : ℕ) → IsSound p → a < length p.stages → stock_between p a b ≤ 64 * MAX_CARDS
stock_between-small p a b sound below =
    let front = up_to b (path p a) in
    let inside = All-up_to (λ j. j < length p.stages) b (path p a) (path-stages p a sound below) in
    let short = length-up_to b (path p a) in
    let short_2 = length-path_within p (length p.stages) a in
    path-small p front sound inside (omega arith)

-- a stage that is downstream of another exists
pub is_downstream-exists : (p : Plant) (a b : ℕ) → IsSound p → a < length p.stages → is_downstream p a b ≡ true → b < length p.stages
is_downstream-exists p a b sound below h = down-exists p (IsSound-FeedsLater sound) a b below h

-- what a walk to a stage downstream has met is the stock up to there
pub some-stock : (p : Plant) (a b stock : ℕ) (o : Option ℕ) → o ≡ Some stock → o ≡ cond (is_downstream p a b) (Some (stock_between p a b)) None → is_downstream p a b ≡ true → stock ≡ stock_between p a b
some-stock p a b stock o is walked down =
    let found = walked ∙ ap (λ (t : Bool). cond t (Some (stock_between p a b)) None) down in
    let same : Some stock ≡ Some (stock_between p a b) = sym is ∙ found in
    cc
