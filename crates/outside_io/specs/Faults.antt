-- Counts of faults: how often the outside refused.
use Rattle.std.specs.Prelude.{◌≡◌, ℕ, ◌+◌, ◌-◌, ◌^◌, ◌≤◌, min, List}

-- the count went up, or stands at the end of its type
abbrev pub Rose : ℕ → ℕ → Type 0
Rose before now = min (before + 1) (2 ^ 64 - 1) ≤ now

-- the count went up by one, or stands at the end of its type
abbrev pub RoseByOne : ℕ → ℕ → Type 0
RoseByOne before now = now ≡ min (before + 1) (2 ^ 64 - 1)

-- no file's count went down
abbrev pub NeverFall : (List ℕ → ℕ) → (List ℕ → ℕ) → Type 0
NeverFall before now = (name : List ℕ) → before name ≤ now name

-- each file's count is as it was
abbrev pub SameFaults : (List ℕ → ℕ) → (List ℕ → ℕ) → Type 0
SameFaults before now = (name : List ℕ) → now name ≡ before name

-- each file's count went up by one at most
abbrev pub RiseByOneAtMost : (List ℕ → ℕ) → (List ℕ → ℕ) → Type 0
RiseByOneAtMost before now = (name : List ℕ) → now name ≤ before name + 1
