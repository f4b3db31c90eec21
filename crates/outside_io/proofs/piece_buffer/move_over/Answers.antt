use Rattle.std.proofs.Common.{◌≡◌, ℕ, ◌+◌, ◌-◌, ◌<◌, ◌≤◌, List, length, get_or, take, drop, arith, rules}
use Rattle.std.proofs.lemmas.List.{places, same_lists, length-take}
use Rattle.outside_io.proofs.piece_buffer.move_over.Goals as goal

-- the index of `copy_within` to the front
index_from_zero : (n k : ℕ) → n + (k - 0) ≡ n + k
index_from_zero n k = omega arith

-- a list that begins with the rest of another
front_is_rest : (xs ys : List ℕ) (n m : ℕ) → n ≤ m → m ≤ length xs → length ys ≡ length xs → ((k d : ℕ) → 0 ≤ k → k < 0 + (m - n) → get_or ys k d ≡ get_or xs (n + (k - 0)) d) → take (m - n) ys ≡ drop n (take m xs)
front_is_rest xs ys n m low high same index =
    same_lists _ _ (search (rules, places)) (λ k d h. let below : k < 0 + (m - n) = omega (arith, length-take (m - n) ys) in let at = rw (index_from_zero n k) at (index k d (omega arith) below) in grind (arith, places))

pub returns-clause-moved : goal.returns-clause-moved
returns-clause-moved c =
    front_is_rest c.args.room.now c.copy_within.new.self 4096 c.args.filled (omega arith) (omega arith) c.copy_within.ensures.len c.copy_within.ensures.by_index.0
