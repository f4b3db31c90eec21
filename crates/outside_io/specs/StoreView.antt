-- What a store shows to contracts, for callers of `Store`.
use Rattle.std.specs.Prelude.{◌≡◌, ℕ, List}
use Rattle.outside_io.specs.Calls.{Asked, none_asked}
use Rattle.outside_io.specs.Contents.{Contents}

-- What a store shows: what its files hold, which counts only where files are known; how often reads and writes of each
-- name have failed; how many bytes the last read took, 0 before the first; and all that was asked of it.
pub record StoreView : Type 0 where
  pub files : Contents
  pub read_faults : List ℕ → ℕ
  pub write_faults : List ℕ → ℕ
  pub taken : ℕ
  pub asked : Asked

-- nothing was asked yet, so nothing has failed
pub record IsUnused (v : StoreView) : Type 0 where
  pub no_read_fault : (name : List ℕ) → v.read_faults name ≡ 0
  pub no_write_fault : (name : List ℕ) → v.write_faults name ≡ 0
  pub nothing_taken : v.taken ≡ 0
  pub nothing_asked : v.asked ≡ none_asked
