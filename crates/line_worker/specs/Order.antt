-- An order of a worker's stations in the making, for the function that makes it.
use Rattle.std.specs.Prelude.{ℕ, ◌+◌, ◌<◌, List, length, slice_index}
use Rattle.line_worker.specs.Teams.{index_in}

-- of this many stations from the first on, those of a rank below this one are listed
pub record IsOrderUpto (ranks : List ℕ) (first count : ℕ) (order : List ℕ) (rank : ℕ) : Type 0 where
  pub exists : (p : ℕ) → p < length order → slice_index order p < count
  pub rises : (p q : ℕ) → p < q → q < length order →
      slice_index ranks (first + slice_index order p) < slice_index ranks (first + slice_index order q)
  pub below : (p : ℕ) → p < length order → slice_index ranks (first + slice_index order p) < rank
  pub listed : (i : ℕ) → i < count → slice_index ranks (first + i) < rank → index_in order i < length order
