-- A plant with a count of cards for each stage, under kanban and extended kanban, and what it is that the counts serve.
-- Source: Dallery and Liberopoulos 2000, for what a stage's cards and its stock are.
use Rattle.std.specs.Prelude.{◌≡◌, ℕ, ◌<◌, ◌≤◌, Bool, false, List, map, length, slice_index}
use Rattle.line_base.specs.Limits.{most_cards}
use Rattle.plant_model.specs.declared.plant.Policy.{Policy}
use Rattle.plant_model.specs.declared.plant.Policy.TheVariants.{Kanban, Conwip, BaseStock, Extended}
use Rattle.plant_model.specs.Stages.{Stage}
use Rattle.plant_model.specs.declared.plant.Plant.{Plant}
use Rattle.plant_model.specs.Line.{stage_at, stage_numbers}
use Rattle.card_sizing.specs.Lowered.{with_count}
use Rattle.card_sizing.specs.Sized.{has_count_under}
use Rattle.card_sizing.specs.Serving.{IsInTime}

-- whether each stage has a count of cards: where one count says how many the plant has, but under CONWIP
abbrev pub has_counts_under : Policy → Plant → Bool
has_counts_under (Conwip _) p = false
has_counts_under Kanban p = has_count_under Kanban p
has_counts_under BaseStock p = has_count_under BaseStock p
has_counts_under Extended p = has_count_under Extended p

abbrev pub has_stage_counts : Plant → Bool
has_stage_counts p = has_counts_under p.policy p

-- the least count of a stage: its stock under extended kanban
abbrev pub least_under : Policy → Stage → ℕ
least_under Kanban s = 0
least_under (Conwip _) s = 0
least_under BaseStock s = 0
least_under Extended s = s.stock

-- the least count of stage i
abbrev pub least_at : Plant → ℕ → ℕ
least_at p i = least_under p.policy (stage_at p i)

-- stage i with its count of cards
abbrev pub stage_counted : Plant → List ℕ → ℕ → Stage
stage_counted p counts i = record (stage_at p i) { cards = slice_index counts i }

-- the plant with a count of cards for each stage
unfoldable pub with_counts : Plant → List ℕ → Plant
with_counts p counts = record p { stages = map (stage_counted p counts) (stage_numbers p) }

-- there is a count for each stage, which is enough for its stock and within the limit
pub record AreCounts (p : Plant) (counts : List ℕ) : Type 0 where
  pub number : length counts ≡ length p.stages
  pub enough : (i : ℕ) → i < length p.stages → least_at p i ≤ slice_index counts i
  pub within : (i : ℕ) → i < length p.stages → slice_index counts i ≤ most_cards

-- with these counts the line is in time
pub record ServeEach (p : Plant) (may : ℕ) (counts : List ℕ) : Type 0 where
  pub counts_fit : AreCounts p counts
  pub in_time : IsInTime (with_counts p counts) may

-- the stages from number `from` on have no less count with which the line is in time, the others as they stand
abbrev pub NoneServesLessFrom : Plant → ℕ → List ℕ → ℕ → Type 0
NoneServesLessFrom p may counts from =
    (i d : ℕ) → from ≤ i → i < length p.stages → d < slice_index counts i → ¬ ServeEach p may (with_count counts i d)

-- no stage has a less count with which the line is in time, the others as they stand
abbrev pub NoneServesLess : Plant → ℕ → List ℕ → Type 0
NoneServesLess p may counts =
    (i d : ℕ) → i < length p.stages → d < slice_index counts i → ¬ ServeEach p may (with_count counts i d)

-- how far the search for the least count of stage i has come: no count below `low` is one with which the line is in
-- time, and with `high` it is
pub record IsStageSearch (p : Plant) (may : ℕ) (counts : List ℕ) (i low high : ℕ) : Type 0 where
  pub ordered : low ≤ high
  pub enough : least_at p i ≤ low
  pub none : (d : ℕ) → d < low → ¬ ServeEach p may (with_count counts i d)
  pub serves : ServeEach p may (with_count counts i high)
  pub no_more : high ≤ slice_index counts i
