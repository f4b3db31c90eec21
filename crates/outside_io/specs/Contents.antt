-- What the files of a store hold, for callers of `Store`.
use Rattle.std.specs.Prelude.{◌≡◌, ◌≢◌, ◌⊎◌, ℕ, ◌<◌, List, ◌++◌, length, Bool, IsTrue, Option, Some, None}

-- the bytes of the file of each name, if there is such a file
abbrev pub Contents : Type 0
Contents = List ℕ → Option (List ℕ)

-- where files are known, each is as it was
abbrev pub SameFiles : Bool → Contents → Contents → Type 0
SameFiles tells old new = IsTrue tells → (q : List ℕ) → new q ≡ old q

-- where files are known, each but the named one is as it was
abbrev pub OthersStay : Bool → Contents → Contents → List ℕ → Type 0
OthersStay tells old new name = IsTrue tells → (q : List ℕ) → q ≢ name → new q ≡ old q

-- a file that a write of these bytes broke off: as it was, or a prefix of them, which may be all
abbrev pub IsTorn : Option (List ℕ) → Option (List ℕ) → List ℕ → Type 0
IsTorn old new bytes =
    (new ≡ old) ⊎ ((prefix rest : List ℕ) × (bytes ≡ prefix ++ rest) × (new ≡ Some prefix))

-- the file is there and has more bytes than that
abbrev pub IsLongerThan : ℕ → Option (List ℕ) → Type 0
IsLongerThan limit None = ⊥
IsLongerThan limit (Some bytes) = limit < length bytes
