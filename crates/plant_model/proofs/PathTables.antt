-- What is down a path, and the stock between: through a stage on the way.
use Rattle.std.proofs.Common.{◌≡◌, ◌≢◌, ℕ, zero, suc, ◌+◌, ◌-◌, ◌^◌, ◌<◌, ◌≤◌, Bool, true, false, ◌⊎◌, inl, inr, List, [], length, Option, None, Some, get_or, set, take, replicate, refl, sym, ap, ◌∙◌, subst, arith, ne_eqb, eq-eqb}
use Rattle.std.specs.Prelude.{sum_by, ◌==◌, ◌||◌}
use Rattle.std.specs.Option.{option_map_or}
use Rattle.std.specs.List.{list_any}
use Rattle.std.proofs.lemmas.Bool.{cases_lt, cases_eq}
use Rattle.std.proofs.lemmas.List.{length-replicate, get_or-replicate, length-set, get_or-set_other, get_or_default, take_all}
use Rattle.std.proofs.lemmas.List.Folds.{list_any_more}
use Rattle.std.proofs.lemmas.Grind.{get_or-set_at}
use Rattle.std.proofs.lemmas.List.Sums.{sum_by-cons}
use Rattle.plant_model.specs.declared.path_table.PathRow.{PathRow}
use Rattle.plant_model.specs.declared.plant.Plant.{Plant}
use Rattle.plant_model.specs.Stages.{Stage}
use Rattle.plant_model.specs.Line.{no_stage, next, starting, feeds, up_to, is_downstream, path_stock, stock_between}
use Rattle.plant_model.specs.Paths.{no_row, row_at, IsPathRow, ArePathRows, AreFedMarks, IsPathTable}
use Rattle.plant_model.specs.Refusals.{all_feeds_not_later}
use Rattle.plant_model.proofs.Soundness.{FeedsLater, FeedsLater-from}
use Rattle.plant_model.proofs.Paths.{path-step, path_stock-step, is_downstream-step, stock_between-step}

-- no value that there may be passes
none-passes : (f : ℕ → Bool) (o : Option ℕ) → ((j : ℕ) → o ≡ Some j → f j ≡ false) → option_map_or f o false ≡ false
none-passes f None fails = refl
none-passes f (Some j) fails = fails j refl

-- the value that there is, and passes
some-passes : (f : ℕ → Bool) (o : Option ℕ) → option_map_or f o false ≡ true → (j : ℕ) × (o ≡ Some j) × (f j ≡ true)
some-passes f None passes = cc
some-passes f (Some j) passes = (j, refl, passes)

-- another stage is down a path where it is down that of the next stage
is_downstream-rest : (p : Plant) → FeedsLater p → (i b : ℕ) → i < length p.stages → i ≢ b → is_downstream p i b ≡ option_map_or (λ j. is_downstream p j b) (next p i) false
is_downstream-rest p tree i b below other =
    is_downstream-step p tree i b below ∙ ap (λ t. t || option_map_or (λ j. is_downstream p j b) (next p i) false) (ne_eqb i b other)

-- a stage is on its own path
pub is_downstream-self : (p : Plant) → FeedsLater p → (i : ℕ) → i < length p.stages → is_downstream p i i ≡ true
is_downstream-self p tree i below =
    is_downstream-step p tree i i below ∙ ap (λ t. t || option_map_or (λ j. is_downstream p j i) (next p i) false) (eq-eqb i i refl)

-- no earlier stage is down a path; `m` counts the stages that are left
before-within : (p : Plant) → FeedsLater p → (m i b : ℕ) → i < length p.stages → length p.stages ≤ m + i → b < i → is_downstream p i b ≡ false
before-within p tree zero i b below enough earlier = absurd (omega arith)
before-within p tree (suc m) i b below enough earlier =
    is_downstream-rest p tree i b below (omega arith)
    ∙ none-passes (λ j. is_downstream p j b) (next p i)
    (λ j fed.
    let higher : i < j = tree.later i j below fed in
    before-within p tree m j b (tree.exists i j below fed) (omega arith) (omega arith))

-- what is down a path stands no earlier
pub is_downstream-later : (p : Plant) → FeedsLater p → (i b : ℕ) → i < length p.stages → is_downstream p i b ≡ true → i ≤ b
is_downstream-later p tree i b below found =
    elim (cases_lt b i) [
      | inl earlier ↦ let none = before-within p tree (length p.stages) i b below (omega arith) earlier in cc
      | inr later ↦ later
    ]

-- a path goes on from a stage other than its first by what that feeds
on-from : (p : Plant) → FeedsLater p → (i b : ℕ) → i < length p.stages → i ≢ b → is_downstream p i b ≡ true → (j : ℕ) × (next p i ≡ Some j) × (is_downstream p j b ≡ true)
on-from p tree i b below other found =
    some-passes (λ j. is_downstream p j b) (next p i) (sym (is_downstream-rest p tree i b below other) ∙ found)

-- the same by the count `m` of the stages that are left
down-within : (p : Plant) → FeedsLater p → (P : ℕ → Type 0) (b : ℕ) → (b < length p.stages → P b) → ((i k : ℕ) → i < length p.stages → i ≢ b → is_downstream p i b ≡ true → next p i ≡ Some k → P k → P i) → (m i : ℕ) → i < length p.stages → length p.stages ≤ m + i → is_downstream p i b ≡ true → P i
down-within p tree P b last step zero i below enough found = absurd (omega arith)
down-within p tree P b last step (suc m) i below enough found =
    elim (cases_eq i b) [
      | inl same ↦ subst P (sym same) (last (subst (λ j. j < length p.stages) same below))
      | inr other ↦
          let on = on-from p tree i b below other found in
          let higher : i < on.0 = tree.later i on.0 below on.1 in
          let rest = down-within p tree P b last step m on.0 (tree.exists i on.0 below on.1) (omega arith) on.2 in
          step i on.0 below other found on.1 rest
    ]

-- what holds of stage b, and of a stage if of the one that it feeds, holds of each stage that b is down the path of
down-path : (p : Plant) → FeedsLater p → (P : ℕ → Type 0) (b : ℕ) → (b < length p.stages → P b) → ((i k : ℕ) → i < length p.stages → i ≢ b → is_downstream p i b ≡ true → next p i ≡ Some k → P k → P i) → (i : ℕ) → i < length p.stages → is_downstream p i b ≡ true → P i
down-path p tree P b last step i below found = down-within p tree P b last step (length p.stages) i below (omega arith) found

-- a later stage is down a path where it is down that of a stage on the way
pub is_downstream-through : (p : Plant) → FeedsLater p → (i j b : ℕ) → i < length p.stages → is_downstream p i j ≡ true → j ≤ b → is_downstream p i b ≡ is_downstream p j b
is_downstream-through p tree i j b below found later =
    down-path p tree (λ i. is_downstream p i b ≡ is_downstream p j b) j (λ _. refl)
    (λ i k below other found fed rest.
    let up : i ≤ j = is_downstream-later p tree i j below found in
    let apart : i ≢ b = omega arith in
    is_downstream-rest p tree i b below apart ∙ ap (λ o. option_map_or (λ l. is_downstream p l b) o false) fed ∙ rest)
    i below found

-- the stock from a stage to itself is its own
stock_between-self : (p : Plant) → FeedsLater p → (i : ℕ) → i < length p.stages → stock_between p i i ≡ starting p i
stock_between-self p tree i below =
    let alone = rw (eq-eqb i i refl) at (ap (λ is. sum_by (starting p) (up_to i is)) (path-step p tree i below)) in
    omega (arith, alone, sum_by-cons (starting p) i [])

-- the stock down to a stage, and that on its path, which has its own stock once more
pub stock_between-rest : (p : Plant) → FeedsLater p → (i b : ℕ) → i < length p.stages → is_downstream p i b ≡ true → stock_between p i b + path_stock p b ≡ path_stock p i + starting p b
stock_between-rest p tree i b below found =
    down-path p tree (λ i. stock_between p i b + path_stock p b ≡ path_stock p i + starting p b) b
    (λ below. omega (arith, stock_between-self p tree b below))
    (λ i k below other found fed rest.
    let own = rw fed at (path_stock-step p tree i below) in
    let between = rw fed at (stock_between-step p tree i b below (ne_eqb i b other)) in
    omega (arith, rest, own, between))
    i below found

-- the row of the stage that stage i feeds
pub record NextRow (p : Plant) (rows : List PathRow) (i k : ℕ) : Type 0 where
  pub fed : next p i ≡ Some k
  pub later : i < k
  pub below : k < length p.stages
  pub inside : k < length rows
  pub right : IsPathRow p k (row_at rows k)

pub NextRow-from : (p : Plant) (rows : List PathRow) (i k : ℕ) → all_feeds_not_later p ≡ [] → i < length p.stages → ArePathRows p (i + 1) rows → Some k ≡ next p i → NextRow p rows i k
NextRow-from p rows i k h below rows_right is =
    let tree = FeedsLater-from p h in
    let fed : next p i ≡ Some k = sym is in
    let later : i < k = tree.later i k below fed in
    let there : k < length p.stages = tree.exists i k below fed in
    record {
      fed = fed;
      later = later;
      below = there;
      inside = omega (arith, rows_right.long);
      right = rows_right.right k (omega arith) there;
    }

-- a row's jump leads to a row
pub jump-row : (p : Plant) (rows : List PathRow) (i k : ℕ) → FeedsLater p → ArePathRows p (i + 1) rows → NextRow p rows i k → IsPathRow p (row_at rows k).jump (row_at rows (row_at rows k).jump)
jump-row p rows i k tree rows_right row =
    let j = (row_at rows k).jump in
    let later : k ≤ j = is_downstream-later p tree k j row.below row.right.on_path in
    let first : i < k = row.later in
    rows_right.right j (omega arith) row.right.exists

-- the row of the final stage
pub IsPathRow-final : (p : Plant) → all_feeds_not_later p ≡ [] → (i own : ℕ) → i < length p.stages → None ≡ next p i → own ≡ starting p i → own < 2 ^ 32 → IsPathRow p i (record { stock = own; stages = 0; jump = i })
IsPathRow-final p h i own below is own_is small =
    let tree = FeedsLater-from p h in
    let stock = rw (← is) at (path_stock-step p tree i below) in
    record {
      stock = omega (arith, stock, own_is);
      on_path = is_downstream-self p tree i below;
      exists = below;
      further = λ j fed. let none = is ∙ fed in cc;
      few = omega arith;
      small = λ low. omega arith;
    }

-- what jumps from a stage to one of two stages further down
abbrev pub JumpsFrom : List PathRow → ℕ → ℕ → Type 0
JumpsFrom rows k jump = (jump ≡ k) ⊎ (jump ≡ (row_at rows (row_at rows k).jump).jump)

-- the row of a stage that feeds stage k
pub IsPathRow-next : (p : Plant) → all_feeds_not_later p ≡ [] → (rows : List PathRow) (i k own jump : ℕ) → i < length p.stages → ArePathRows p (i + 1) rows → NextRow p rows i k → own ≡ starting p i → own < 2 ^ 32 → k < 2 ^ 32 → JumpsFrom rows k jump → IsPathRow p i (record { stock = own + (row_at rows k).stock; stages = (row_at rows k).stages + 1; jump = jump })
IsPathRow-next p h rows i k own jump below rows_right row own_is small small_k jumps =
    let tree = FeedsLater-from p h in
    let second = jump-row p rows i k tree rows_right row in
    let j = (row_at rows k).jump in
    let stock = rw row.fed at (path_stock-step p tree i below) in
    let on_path : is_downstream p k jump ≡ true = elim jumps [
      | inl is ↦ rw is (is_downstream-self p tree k row.below)
      | inr is ↦
          rw is (
          is_downstream-through p tree k j (row_at rows j).jump row.below row.right.on_path
          (is_downstream-later p tree j (row_at rows j).jump row.right.exists second.on_path)
          ∙ second.on_path
          )
    ] in
    let exists : jump < length p.stages = elim jumps [ inl is ↦ rw is row.below | inr is ↦ rw is second.exists ] in
    let later : k ≤ jump = is_downstream-later p tree k jump row.below on_path in
    let first : i < k = row.later in
    let ahead = row.right.small small_k in
    record {
      stock = omega (arith, stock, own_is, row.right.stock);
      on_path = is_downstream-rest p tree i jump below (omega arith) ∙ ap (λ o. option_map_or (λ l. is_downstream p l jump) o false) row.fed ∙ on_path;
      exists = exists;
      further = λ _ _. omega arith;
      few = omega (arith, row.right.few);
      small = λ low. omega (arith, ahead);
    }

-- a stage between that a walk goes to, in place of where it stands
pub is_downstream-jump : (p : Plant) → all_feeds_not_later p ≡ [] → (i j b : ℕ) → i < length p.stages → is_downstream p i j ≡ true → j ≤ b → is_downstream p i b ≡ is_downstream p j b
is_downstream-jump p h i j b below found later = is_downstream-through p (FeedsLater-from p h) i j b below found later

-- from a stage to a later one by what it feeds
pub is_downstream-next : (p : Plant) → all_feeds_not_later p ≡ [] → (i b : ℕ) (o : Option ℕ) → i < length p.stages → i < b → o ≡ next p i → is_downstream p i b ≡ option_map_or (λ j. is_downstream p j b) o false
is_downstream-next p h i b o below later is =
    is_downstream-rest p (FeedsLater-from p h) i b below (omega arith) ∙ ap (λ o. option_map_or (λ l. is_downstream p l b) o false) (sym is)

-- no earlier stage is down a path, and a stage is down its own
pub is_downstream-end : (p : Plant) → all_feeds_not_later p ≡ [] → (i b : ℕ) → i < length p.stages → b ≤ i → is_downstream p i b ≡ (i == b)
is_downstream-end p h i b below end =
    let tree = FeedsLater-from p h in
    elim (cases_eq i b) [
      | inl same ↦ rw (← same) (is_downstream-self p tree i below ∙ sym (eq-eqb i i refl))
      | inr other ↦ before-within p tree (length p.stages) i b below (omega arith) (omega arith) ∙ sym (ne_eqb i b other)
    ]

-- how many marks there are, and which stages the first i stages feed
pub record FedSoFar (p : Plant) (i : ℕ) (marks : List Bool) : Type 0 where
  pub long : length marks ≡ length p.stages
  pub right : (k : ℕ) → k < length p.stages → get_or marks k false ≡ list_any (feeds k) (take i p.stages)

or-false : (b : Bool) → (b || false) ≡ b
or-false true = refl
or-false false = refl

or-true : (b : Bool) → (b || true) ≡ true
or-true true = refl
or-true false = refl

eqb-is : (j k : ℕ) → j ≡ k → (j == k) ≡ true
eqb-is j k is = eq-eqb j k is

-- before the first stage nothing is marked
pub FedSoFar-none : (p : Plant) (marks : List Bool) (n : ℕ) → n ≡ length p.stages → marks ≡ replicate n false → FedSoFar p 0 marks
FedSoFar-none p marks n is marks_are =
    record {
      long = rw marks_are (length-replicate n false ∙ is);
      right = λ k below. rw marks_are (get_or-replicate n k false false (omega arith));
    }

-- a stage that feeds none changes no mark
pub FedSoFar-kept : (p : Plant) (i : ℕ) (marks : List Bool) (s : Stage) → FedSoFar p i marks → i < length p.stages → s ≡ get_or p.stages i s → s.feeds ≡ None → FedSoFar p (i + 1) marks
FedSoFar-kept p i marks s so_far below here none =
    record {
      long = so_far.long;
      right = λ k in'.
          so_far.right k in'
          ∙ sym (
          list_any_more (feeds k) p.stages i s below
          ∙ ap (λ t. list_any (feeds k) (take i p.stages) || feeds k t) (sym here)
          ∙ ap (λ o. list_any (feeds k) (take i p.stages) || option_map_or (λ j. j == k) o false) none
          ∙ or-false _
          );
    }

-- one that feeds a stage marks that
pub FedSoFar-marked : (p : Plant) (i j : ℕ) (marks : List Bool) (s : Stage) → FedSoFar p i marks → i < length p.stages → s ≡ get_or p.stages i s → s.feeds ≡ Some j → j < length p.stages → FedSoFar p (i + 1) (set marks j true)
FedSoFar-marked p i j marks s so_far below here fed there =
    record {
      long = length-set marks j true ∙ so_far.long;
      right = λ k in'.
          let more =
          list_any_more (feeds k) p.stages i s below
          ∙ ap (λ t. list_any (feeds k) (take i p.stages) || feeds k t) (sym here)
          ∙ ap (λ o. list_any (feeds k) (take i p.stages) || option_map_or (λ j. j == k) o false) fed
          in
          elim (cases_eq j k) [
            | inl same ↦
                get_or-set_at marks j k true false (sym same) (omega (arith, so_far.long))
                ∙ sym (more ∙ ap (λ t. list_any (feeds k) (take i p.stages) || t) (eqb-is j k same) ∙ or-true _)
            | inr other ↦
                get_or-set_other marks j k true false (λ e. other (sym e))
                ∙ so_far.right k in'
                ∙ sym (more ∙ ap (λ t. list_any (feeds k) (take i p.stages) || t) (ne_eqb j k other) ∙ or-false _)
          ];
    }

-- after the last stage the marks are those of all stages
pub AreFedMarks-all : (p : Plant) (i : ℕ) (marks : List Bool) → FedSoFar p i marks → length p.stages ≤ i → AreFedMarks p marks
AreFedMarks-all p i marks so_far all =
    record {
      long = so_far.long;
      right = λ k in'. so_far.right k in' ∙ ap (list_any (feeds k)) (take_all i p.stages all);
    }

-- what stage i feeds is there
pub fed-inside : (p : Plant) → all_feeds_not_later p ≡ [] → (i j : ℕ) (s : Stage) → i < length p.stages → s ≡ get_or p.stages i s → s.feeds ≡ Some j → j < length p.stages
fed-inside p h i j s below here fed =
    (FeedsLater-from p h).exists i j below (ap (λ (t : Stage). t.feeds) (sym (here ∙ get_or_default p.stages i s no_stage below)) ∙ fed)

-- what a path leads to is there
pub is_downstream-exists : (p : Plant) → FeedsLater p → (i b : ℕ) → i < length p.stages → is_downstream p i b ≡ true → b < length p.stages
is_downstream-exists p tree i b below found =
    down-path p tree (λ _. b < length p.stages) b (λ there. there) (λ i k below other found fed there. there) i below found

-- the stock down to a stage has the stage's own
own-le : (p : Plant) → FeedsLater p → (i b : ℕ) → i < length p.stages → is_downstream p i b ≡ true → starting p b ≤ stock_between p i b
own-le p tree i b below found =
    down-path p tree (λ i. starting p b ≤ stock_between p i b) b
    (λ below. omega (arith, stock_between-self p tree b below))
    (λ i k below other found fed rest.
    let between = rw fed at (stock_between-step p tree i b below (ne_eqb i b other)) in
    omega (arith, rest, between))
    i below found

-- the stock between two stages by that on their paths: `all` on the first's, `rest` on the second's, `own` of the
-- second
pub record IsBetween (p : Plant) (i b all rest own : ℕ) : Type 0 where
  pub less : rest ≤ all
  pub own_in_rest : own ≤ rest
  pub between : all - rest + own ≡ stock_between p i b

pub IsBetween-from : (p : Plant) → FeedsLater p → (i b all rest own : ℕ) → i < length p.stages → is_downstream p i b ≡ true → all ≡ path_stock p i → rest ≡ path_stock p b → own ≡ starting p b → IsBetween p i b all rest own
IsBetween-from p tree i b all rest own below found all_is rest_is own_is =
    let there = is_downstream-exists p tree i b below found in
    let ahead = stock_between-rest p tree i b below found in
    let least = own-le p tree i b below found in
    let step = path_stock-step p tree b there in
    record {
      less = omega (arith, ahead, least, all_is, rest_is);
      own_in_rest = omega (arith, step, rest_is, own_is);
      between = omega (arith, ahead, least, all_is, rest_is, own_is);
    }

-- a table of one plant is one of the same
pub IsPathTable-same : (p q : Plant) (rows : List PathRow) (fed : List Bool) → q ≡ p → IsPathTable q rows fed → IsPathTable p rows fed
IsPathTable-same p q rows fed same table = subst (λ (r : Plant). IsPathTable r rows fed) same table

-- a row that was read describes its stage's path
pub row-read : (p : Plant) (rows : List PathRow) (fed : List Bool) (i : ℕ) (row : PathRow) → IsPathTable p rows fed → i < length p.stages → row ≡ get_or rows i row → IsPathRow p i row
row-read p rows fed i row table below read =
    let is = read ∙ get_or_default rows i row no_row (omega (arith, table.rows_right.long)) in
    subst (IsPathRow p i) (sym is) (table.rows_right.right i (omega arith) below)
