-- The text in which a state is saved, and what a store is asked for it.
use Rattle.std.specs.Prelude.{◌≡◌, ℕ, ◌<◌, ◌⊎◌, List, length, Result, Err}
use Rattle.line_core.specs.Run.{Run}
use Rattle.outside_io.specs.declared.store.StoreError.{StoreError}
use Rattle.outside_io.specs.declared.store.StoreError.TheVariants.{NoMemory}
use Rattle.outside_io.specs.Calls.{Asked, after_write}
use Rattle.checkpoint.specs.declared.format.Format.TheVariants.{Differences}
use Rattle.checkpoint.specs.Text.{text}

-- the text of a state of a graph
abbrev pub text_of : Run → List ℕ
text_of r = text Differences r.graph r.state

-- the text has this many bytes, and they don't fit into the room
pub record IsOver (room have : ℕ) (bytes : List ℕ) : Type 0 where
  pub have_is : have ≡ length bytes
  pub over : room < have

-- a store was asked to write this, and nothing else, or where there was no memory for the text
-- nothing at all
abbrev pub AsksToWrite : Asked → Asked → List ℕ → List ℕ → Result (Unit {0}) StoreError
    → Type 0
AsksToWrite old new name bytes answer =
    (new ≡ after_write old name bytes answer) ⊎ ((answer ≡ Err NoMemory) × (new ≡ old))
