-- What the words of contracts on an end say of the view of its seat.
use Rattle.std.proofs.Common.{◌≡◌, ℕ, ◌+◌, ◌-◌, ◌<◌, ◌≤◌, List, ◌++◌, length, take, drop, ap, sym, ◌∙◌, arith}
use Rattle.std.proofs.lemmas.List.{take-append-drop}
use Rattle.std.proofs.Math.Nat.{mod-lt}
use Rattle.room_ring.specs.Rule.{first_cell, cell_of}

-- where there is space, a token may be stored
pub space_within : (initial room seen : ℕ) (tokens : List ℕ) → 0 < room + seen - length (take initial tokens ++ drop initial tokens) → length tokens < seen + room
space_within initial room seen tokens space = let e = ap length (take-append-drop initial tokens) in omega arith

-- where a token is known, one may be loaded
pub known_within : (seen : ℕ) (tokens : List ℕ) → 0 < seen - length tokens → length tokens < seen
known_within seen tokens known = omega arith

pub same_cell : (word size room token count : ℕ) → word ≡ cell_of room token → size ≡ room → token ≡ count → word ≡ cell_of size count
same_cell word size room token count is key same = is ∙ λ i. cell_of (sym key i) (same i)

pub cell_within : (word room token words : ℕ) → word ≡ cell_of room token → 1 ≤ room → words ≡ room + first_cell → word < words
cell_within word room token words is some_room e = let less = mod-lt token {m = room} some_room in omega arith

-- the space as it is computed is that of the end's contract
pub space_is : (initial room count seen : ℕ) (tokens : List ℕ) → count ≡ length tokens → seen ≤ length tokens → length tokens ≤ seen + room
    → room - (count - seen) ≡ room + seen - length (take initial tokens ++ drop initial tokens)
space_is initial room count seen tokens is taken within = let e = ap length (take-append-drop initial tokens) in omega arith
