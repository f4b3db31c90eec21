-- A set of numbers as one bit each, and how many there are.
use Rattle.std.specs.Prelude.{◌≡◌, ℕ, ◌*◌, ◌/◌, ◌%◌, ◌<◌, ◌≤◌, ◌^◌, ◌==◌, Bool, true, false, List, map, length, slice_index, slice_index_or, count_by}
use Rattle.std.specs.List.{range_with_len}
use Rattle.std.specs.Int.{bit_at}

-- bit k of words of 64 bits
abbrev pub bit_in : List ℕ → ℕ → Bool
bit_in words k = bit_at (slice_index words (k / 64)) (k % 64) == 1

-- all bits of the words
unfoldable pub bits_of : List ℕ → List Bool
bits_of words = map (bit_in words) (range_with_len 0 (64 * length words))

-- whether number k is marked
abbrev pub is_at : List Bool → ℕ → Bool
is_at marks k = slice_index_or marks k false

-- how many are marked
abbrev pub count_of : List Bool → ℕ
count_of marks = count_by (λ mark. mark) marks

-- none of these numbers is marked
abbrev pub HasNone : List Bool → ℕ → ℕ → Type 0
HasNone marks from to = (k : ℕ) → from ≤ k → k < to → is_at marks k ≡ false

-- k is the first marked number from this one on
pub record IsFirstFrom (marks : List Bool) (from k : ℕ) : Type 0 where
  pub after : from ≤ k
  pub within : k < length marks
  pub marked : is_at marks k ≡ true
  pub none_before : HasNone marks from k

-- the words hold few enough bits, and their marks are counted
pub record AreCounted (words : List ℕ) (count : ℕ) : Type 0 where
  pub few : 64 * length words ≤ 2 ^ 26
  pub counted : count ≡ count_of (bits_of words)
