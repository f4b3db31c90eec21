-- Appends one after another, and prefixes of them. What was written stands here as a list, as `PutsAll` and
-- `PutsPrefix` read it.
use Rattle.std.proofs.Common.{◌≡◌, ℕ, List, [], ◌++◌, take, drop, sym, ap, append_assoc, append-nil}
use Rattle.std.proofs.lemmas.List.{take-append-drop}

-- these bytes were appended, and some prefix of them was
abbrev pub Appends : List ℕ → List ℕ → List ℕ → Type 0
Appends old new bytes = new ≡ old ++ bytes

abbrev pub AppendsPrefix : List ℕ → List ℕ → List ℕ → Type 0
AppendsPrefix old new bytes = (prefix rest : List ℕ) × (bytes ≡ prefix ++ rest) × Appends old new prefix

-- the first n bytes are a prefix of them
pub puts_prefix_of_take : (old new bytes : List ℕ) (n : ℕ) → Appends old new (take n bytes) → AppendsPrefix old new bytes
puts_prefix_of_take old new bytes n puts =
    (take n bytes, drop n bytes, sym (take-append-drop n bytes), puts)

-- nothing was appended
pub puts_none : (old : List ℕ) → Appends old old []
puts_none old = sym (append-nil old)

-- one append after another
pub puts_all_after : (old between new xs ys : List ℕ) → Appends old between xs → Appends between new ys → Appends old new (xs ++ ys)
puts_all_after old between new xs ys first next =
    rw (next, first) (append_assoc old xs ys)

-- an append, and then a prefix of the next
pub puts_prefix_after : (old between new xs ys : List ℕ) → Appends old between xs → AppendsPrefix between new ys → AppendsPrefix old new (xs ++ ys)
puts_prefix_after old between new xs ys first next =
    (xs ++ next.0, next.1, rw append_assoc (ap (λ rest. xs ++ rest) next.2), puts_all_after old between new xs next.0 first next.3)

-- a prefix of some bytes is a prefix of more
pub puts_prefix_longer : (old new xs ys : List ℕ) → AppendsPrefix old new xs → AppendsPrefix old new (xs ++ ys)
puts_prefix_longer old new xs ys prefix =
    (prefix.0, prefix.1 ++ ys, rw (← append_assoc) (ap (λ bytes. bytes ++ ys) prefix.2), prefix.3)
