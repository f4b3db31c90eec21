-- A path, one stage at a time.
use Rattle.std.proofs.Common.{◌≡◌, ℕ, zero, suc, ◌+◌, ◌-◌, ◌*◌, ◌^◌, ◌<◌, ◌≤◌, false, List, [], ◌∷◌, length, Option, None, Some, refl, sym, ap, ◌∙◌, arith}
use Rattle.std.specs.Prelude.{sum_by, ◌==◌, ◌||◌}
use Rattle.std.specs.Option.{option_map_or}
use Rattle.std.specs.List.{list_any}
use Rattle.std.proofs.lemmas.List.Sums.{sum_by-cons}
use Rattle.plant_model.specs.declared.plant.Plant.{Plant}
use Rattle.plant_model.specs.Line.{next, starting, path_within, path, up_to, is_downstream, path_stock, stock_between}
use Rattle.plant_model.specs.Refusals.{all_feeds_not_later}
use Rattle.plant_model.proofs.Soundness.{FeedsLater, FeedsLater-from}

-- two lists after a stage are the same where they are the same at the stage that it feeds
same-after : (f g : ℕ → List ℕ) (o : Option ℕ) → ((j : ℕ) → o ≡ Some j → f j ≡ g j) → option_map_or f o [] ≡ option_map_or g o []
same-after f g None same = refl
same-after f g (Some j) same = same j refl

-- a path gets no longer where it may go on past its end
path_within-suc : (p : Plant) → FeedsLater p → (m i : ℕ) → i < length p.stages → length p.stages ≤ m + i → path_within (suc m) p i ≡ path_within m p i
path_within-suc p tree zero i below enough = absurd (omega arith)
path_within-suc p tree (suc m) i below enough =
    ap (λ rest. i ∷ rest)
    (same-after (path_within (suc m) p) (path_within m p) (next p i)
    (λ j fed. let higher : i < j = tree.later i j below fed in path_within-suc p tree m j (tree.exists i j below fed) (omega arith)))

path-step-within : (p : Plant) → FeedsLater p → (n i : ℕ) → n ≡ length p.stages → i < n → path_within n p i ≡ i ∷ option_map_or (path_within n p) (next p i) []
path-step-within p tree zero i is below = absurd (omega arith)
path-step-within p tree (suc m) i is below =
    ap (λ rest. i ∷ rest)
    (same-after (path_within m p) (path_within (suc m) p) (next p i)
    (λ j fed.
    let higher : i < j = tree.later i j (omega arith) fed in
    sym (path_within-suc p tree m j (tree.exists i j (omega arith) fed) (omega arith))))

-- the path of a stage: the stage, then the path of what it feeds
pub path-step : (p : Plant) → FeedsLater p → (i : ℕ) → i < length p.stages → path p i ≡ i ∷ option_map_or (path p) (next p i) []
path-step p tree i below = path-step-within p tree (length p.stages) i refl below

-- the stock of a list of stages that may not be there
stock_of_rest : (p : Plant) (o : Option ℕ) → sum_by (starting p) (option_map_or (path p) o []) ≡ option_map_or (path_stock p) o 0
stock_of_rest p None = refl
stock_of_rest p (Some j) = refl

-- the stock on a path: that of the stage, then that on the path of what it feeds
pub path_stock-step : (p : Plant) → FeedsLater p → (i : ℕ) → i < length p.stages → path_stock p i ≡ starting p i + option_map_or (path_stock p) (next p i) 0
path_stock-step p tree i below =
    ap (sum_by (starting p)) (path-step p tree i below)
    ∙ sum_by-cons (starting p) i (option_map_or (path p) (next p i) [])
    ∙ ap (λ rest. starting p i + rest) (stock_of_rest p (next p i))

-- whether a stage is down a path, where there may be none
downstream_of_rest : (p : Plant) (b : ℕ) (o : Option ℕ) → list_any (λ i. i == b) (option_map_or (path p) o []) ≡ option_map_or (λ j. is_downstream p j b) o false
downstream_of_rest p b None = refl
downstream_of_rest p b (Some j) = refl

-- a stage is down a path where it is its first, or down the path of what that feeds
pub is_downstream-step : (p : Plant) → FeedsLater p → (i b : ℕ) → i < length p.stages → is_downstream p i b ≡ ((i == b) || option_map_or (λ j. is_downstream p j b) (next p i) false)
is_downstream-step p tree i b below =
    ap (list_any (λ k. k == b)) (path-step p tree i below) ∙ ap (λ rest. (i == b) || rest) (downstream_of_rest p b (next p i))

-- the stock up to a stage, on a path that may not be there
between_of_rest : (p : Plant) (b : ℕ) (o : Option ℕ) → sum_by (starting p) (up_to b (option_map_or (path p) o [])) ≡ option_map_or (λ j. stock_between p j b) o 0
between_of_rest p b None = refl
between_of_rest p b (Some j) = refl

-- the stock from a stage to another: its own, then that from what it feeds
pub stock_between-step : (p : Plant) → FeedsLater p → (i b : ℕ) → i < length p.stages → (i == b) ≡ false → stock_between p i b ≡ starting p i + option_map_or (λ j. stock_between p j b) (next p i) 0
stock_between-step p tree i b below other =
    ap (λ is. sum_by (starting p) (up_to b is)) (path-step p tree i below)
    ∙ rw other
    (sum_by-cons (starting p) i (up_to b (option_map_or (path p) (next p i) []))
    ∙ ap (λ rest. starting p i + rest) (between_of_rest p b (next p i)))

falls : (n i : ℕ) (o : Option ℕ) → i < n → ((j : ℕ) → o ≡ Some j → i < j) → option_map_or (λ j. n - j) o 0 < n - i
falls n i None below later = omega arith
falls n i (Some j) below later = let higher : i < j = later j refl in omega arith

-- A walk down the path of stage `from`: this much stock was met, and the next stage to meet is `next`. Each stage has a
-- higher number than the one before, so the stock stays below 2 ^ 64.
pub record WalksPath (p : Plant) (from stock : ℕ) (next : Option ℕ) : Type 0 where
  pub total : stock + option_map_or (path_stock p) next 0 ≡ path_stock p from
  pub there : (j : ℕ) → next ≡ Some j → j < length p.stages
  pub small : (j : ℕ) → next ≡ Some j → stock ≤ j * (2 ^ 32 - 1)

-- it begins behind the stage
pub WalksPath-begins : (p : Plant) → all_feeds_not_later p ≡ [] → (from : ℕ) → from < length p.stages → (s : ℕ) (o : Option ℕ) → s ≡ starting p from → s < 2 ^ 32 → o ≡ next p from → WalksPath p from s o
WalksPath-begins p h from below s o is small fed_is =
    let tree = FeedsLater-from p h in
    record {
      total = rw (is, fed_is) (sym (path_stock-step p tree from below));
      there = λ j fed. tree.exists from j below (sym fed_is ∙ fed);
      small = λ j fed. let higher : from < j = tree.later from j below (sym fed_is ∙ fed) in omega arith;
    }

-- it goes on behind the next stage
pub WalksPath-goes : (p : Plant) → all_feeds_not_later p ≡ [] → (from stock : ℕ) (old : Option ℕ) (i s : ℕ) (o : Option ℕ) → WalksPath p from stock old → old ≡ Some i → s ≡ starting p i → s < 2 ^ 32 → o ≡ next p i → WalksPath p from (stock + s) o
WalksPath-goes p h from stock old i s o walk here is small fed_is =
    let tree = FeedsLater-from p h in
    let below : i < length p.stages = walk.there i here in
    let so_far : stock ≤ i * (2 ^ 32 - 1) = walk.small i here in
    let total = rw here at walk.total in
    record {
      total = rw (is, fed_is) (omega (arith, total, path_stock-step p tree i below));
      there = λ j fed. tree.exists i j below (sym fed_is ∙ fed);
      small = λ j fed. let higher : i < j = tree.later i j below (sym fed_is ∙ fed) in omega arith;
    }

-- how many stages may still be met: fewer with each step
abbrev pub stages_left : Plant → Option ℕ → ℕ
stages_left p next = option_map_or (λ i. length p.stages - i) next 0

pub stages_left-falls : (p : Plant) → all_feeds_not_later p ≡ [] → (old : Option ℕ) (i : ℕ) (o : Option ℕ) → old ≡ Some i → i < length p.stages → o ≡ next p i → stages_left p o < stages_left p old
stages_left-falls p h old i o here below fed_is =
    let tree = FeedsLater-from p h in
    rw here (falls (length p.stages) i o below (λ j fed. tree.later i j below (sym fed_is ∙ fed)))

-- A walk down the path of stage `from` to stage `to`, which has not been met yet.
pub record WalksTo (p : Plant) (from to stock : ℕ) (next : Option ℕ) : Type 0 where
  pub total : stock + option_map_or (λ j. stock_between p j to) next 0 ≡ stock_between p from to
  pub found : option_map_or (λ j. is_downstream p j to) next false ≡ is_downstream p from to
  pub there : (j : ℕ) → next ≡ Some j → j < length p.stages
  pub small : (j : ℕ) → next ≡ Some j → stock ≤ j * (2 ^ 32 - 1)

-- it goes on behind the next stage, if that isn't `to`
pub WalksTo-goes : (p : Plant) → all_feeds_not_later p ≡ [] → (from to stock : ℕ) (old : Option ℕ) (i s : ℕ) (o : Option ℕ) → WalksTo p from to stock old → old ≡ Some i → s ≡ starting p i → s < 2 ^ 32 → (i == to) ≡ false → o ≡ next p i → WalksTo p from to (stock + s) o
WalksTo-goes p h from to stock old i s o walk here is small other fed_is =
    let tree = FeedsLater-from p h in
    let below : i < length p.stages = walk.there i here in
    let so_far : stock ≤ i * (2 ^ 32 - 1) = walk.small i here in
    let total = rw here at walk.total in
    let found = rw here at walk.found in
    record {
      total = rw (is, fed_is) (omega (arith, total, stock_between-step p tree i to below other));
      found = rw fed_is (sym (is_downstream-step p tree i to below ∙ rw other refl) ∙ found);
      there = λ j fed. tree.exists i j below (sym fed_is ∙ fed);
      small = λ j fed. let higher : i < j = tree.later i j below (sym fed_is ∙ fed) in omega arith;
    }
