-- The paths of a plant's stages as a table.
use Rattle.std.specs.Prelude.{◌≡◌, ℕ, ◌+◌, ◌-◌, ◌*◌, ◌^◌, ◌<◌, ◌≤◌, Bool, true, false, List, [], length, Some, slice_index_or}
use Rattle.std.specs.List.{list_any}
use Rattle.plant_model.specs.declared.path_table.PathRow.{PathRow}
use Rattle.plant_model.specs.declared.plant.Plant.{Plant}
use Rattle.plant_model.specs.Line.{next, is_downstream, path_stock, feeds}
use Rattle.plant_model.specs.Refusals.{all_feeds_not_later}

-- what stands where a number names no row
abbrev pub no_row : PathRow
no_row = record { stock = 0; stages = 0; jump = 0 }

-- the row with this number
abbrev pub row_at : List PathRow → ℕ → PathRow
row_at rows i = slice_index_or rows i no_row

-- the row describes the path of stage i
pub record IsPathRow (p : Plant) (i : ℕ) (row : PathRow) : Type 0 where
  pub stock : row.stock ≡ path_stock p i
  pub on_path : is_downstream p i row.jump ≡ true
  pub exists : row.jump < length p.stages
  pub further : (j : ℕ) → next p i ≡ Some j → i < row.jump
  pub few : row.stages + i < length p.stages
  pub small : i < 2 ^ 32 → row.stock ≤ (2 ^ 32 - i) * (2 ^ 32 - 1)

-- each row from number i on describes its stage's path
pub record ArePathRows (p : Plant) (i : ℕ) (rows : List PathRow) : Type 0 where
  pub long : length rows ≡ length p.stages
  pub right : (k : ℕ) → i ≤ k → k < length p.stages → IsPathRow p k (row_at rows k)

-- the marks say which stages are fed
pub record AreFedMarks (p : Plant) (fed : List Bool) : Type 0 where
  pub long : length fed ≡ length p.stages
  pub right : (k : ℕ) → k < length p.stages → slice_index_or fed k false ≡ list_any (feeds k) p.stages

-- a table of the paths of a plant whose stages feed later ones
pub record IsPathTable (p : Plant) (rows : List PathRow) (fed : List Bool) : Type 0 where
  pub later : all_feeds_not_later p ≡ []
  pub rows_right : ArePathRows p 0 rows
  pub fed_right : AreFedMarks p fed
