-- The first date above another one, in a list of dates that don't decrease, each later by `late`.
use Rattle.std.proofs.Common.{◌≡◌, ℕ, ◌+◌, ◌<◌, ◌≤◌, true, false, leb, ltb, List, length, get_or, inl, inr, arith}
use Rattle.std.specs.List.Sorted.{IsNonDecreasing, IsPartitionPoint}
use Rattle.std.proofs.lemmas.Bool.{cases_lt, le-leb, lt-leb, lt-ltb, le-ltb}
use Rattle.line_chart.specs.Counts.{NoneBetween}

-- the first dates are passed
abbrev pub Passed : List ℕ → ℕ → ℕ → ℕ → Type 0
Passed dates late at i =
    IsPartitionPoint (λ y. leb (y + late) at ≡ true) (λ y. leb (y + late) at ≡ false) dates i

tells-low : (d at : ℕ) → leb d at ≡ true → d ≤ at
tells-low d at e =
    elim (cases_lt at d) [
      | inl above ↦ let f = lt-leb d at above in cc
      | inr below ↦ below
    ]

tells-high : (d at : ℕ) → leb d at ≡ false → at < d
tells-high d at e =
    elim (cases_lt at d) [
      | inl above ↦ above
      | inr below ↦ let f = le-leb d at below in cc
    ]

-- the next one is above
pub next-above : (dates : List ℕ) (late at i : ℕ) → Passed dates late at i → i < length dates → at < get_or dates i 0 + late
next-above dates late at i point below = tells-high (get_or dates i 0 + late) at (point.1 i 0 (omega arith) below)

-- none is between, up to the next one, or where there is none
pub none-before : (dates : List ℕ) (late at i next : ℕ) → IsNonDecreasing dates → Passed dates late at i → i ≤ length dates → (i < length dates → next ≤ get_or dates i 0 + late) → NoneBetween dates late at next
none-before dates late at i next order point few sooner k below =
    elim (cases_lt k i) [
      | inl passed ↦ inl (tells-low (get_or dates k 0 + late) at (point.0 k 0 (omega arith) passed))
      | inr later ↦ inr (let up = order i k 0 later below in omega (arith, sooner (omega arith)))
    ]

-- what a test says
pub tells-below : (a b : ℕ) → true ≡ ltb a b → a < b
tells-below a b e =
    elim (cases_lt a b) [
      | inl below ↦ below
      | inr past ↦ let f = le-ltb a b past in cc
    ]

pub tells-not : (a b : ℕ) → false ≡ ltb a b → a < b → ⊥
tells-not a b e below = let f = lt-ltb a b below in cc
