-- The greatest value of a function on the numbers that pass a test, one number more.
use Rattle.std.proofs.Common.{◌≡◌, ℕ, ◌+◌, max, Bool, true, false, cond, [], ◌∷◌, ◌++◌, ap, ◌∙◌}
use Rattle.std.specs.List.{filter, range_with_len}
use Rattle.std.proofs.lemmas.List.{append-nil}
use Rattle.event_graph.specs.GreatestValue.{greatest}
use Rattle.event_graph.proofs.Greatest.{greatest-push, greatest-range}
use Rattle.line_base.proofs.RangeLists.{filter-range_more}

-- one number more, which passes the test, or doesn't
pub greatest-passing : (f : ℕ → ℕ) (test : ℕ → Bool) (n : ℕ) → test n ≡ true → greatest f (filter test (range_with_len 0 (n + 1))) ≡ max (greatest f (filter test (range_with_len 0 n))) (f n)
greatest-passing f test n passes =
    let numbers = filter-range_more test n ∙ ap (λ b. filter test (range_with_len 0 n) ++ cond b (n ∷ []) []) passes in
    ap (greatest f) numbers ∙ greatest-push f (filter test (range_with_len 0 n)) n

pub greatest-failing : (f : ℕ → ℕ) (test : ℕ → Bool) (n : ℕ) → test n ≡ false → greatest f (filter test (range_with_len 0 (n + 1))) ≡ greatest f (filter test (range_with_len 0 n))
greatest-failing f test n fails =
    ap (greatest f) (filter-range_more test n ∙ ap (λ b. filter test (range_with_len 0 n) ++ cond b (n ∷ []) []) fails ∙ append-nil (filter test (range_with_len 0 n)))

-- for loops that keep the greatest value so far
pub ruleset greatest_more = (greatest-range, greatest-passing, greatest-failing)
