-- What was asked of a store, and what it answered.
use Rattle.std.specs.Prelude.{ℕ, List, [], ◌∷◌, ◌++◌, Vec, Result, Ok, Err}
use Rattle.std.specs.declared.alloc.Global.{Global}
use Rattle.outside_io.specs.declared.store.StoreError.{StoreError}

-- a file was read: its name, and the bytes that were answered, or why none were
pub record Read : Type 0 where
  pub name : List ℕ
  pub answer : Result (List ℕ) StoreError

-- a file was written: its name, the bytes that it was to hold, and what was answered
pub record Write : Type 0 where
  pub name : List ℕ
  pub bytes : List ℕ
  pub answer : Result (Unit {0}) StoreError

-- the bytes that a read answered, or why none were
abbrev pub bytes_of : Result (Vec ℕ Global) StoreError → Result (List ℕ) StoreError
bytes_of (Ok v) = Ok v.items
bytes_of (Err error) = Err error

-- a read by what was given to it and what it answered
abbrev pub read_of : List ℕ → Result (Vec ℕ Global) StoreError → Read
read_of name answer = record { name = name; answer = bytes_of answer }

-- a write by what was given to it and what it answered
abbrev pub write_of : List ℕ → List ℕ → Result (Unit {0}) StoreError → Write
write_of name bytes answer = record { name = name; bytes = bytes; answer = answer }

-- all reads and all writes, the oldest first
pub record Asked : Type 0 where
  pub reads : List Read
  pub writes : List Write

-- nothing was asked yet
abbrev pub none_asked : Asked
none_asked = record { reads = []; writes = [] }

-- one more read
abbrev pub after_read : Asked → List ℕ → Result (Vec ℕ Global) StoreError → Asked
after_read asked name answer = record asked { reads = asked.reads ++ read_of name answer ∷ [] }

-- one more write
abbrev pub after_write : Asked → List ℕ → List ℕ → Result (Unit {0}) StoreError → Asked
after_write asked name bytes answer =
    record asked { writes = asked.writes ++ write_of name bytes answer ∷ [] }
