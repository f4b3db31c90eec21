-- The first number below n that passes a test, as the numbers are tried one after the other.
use Rattle.std.proofs.Common.{◌≡◌, ℕ, suc, ◌+◌, ◌<◌, ◌≤◌, Bool, true, false, cond, List, drop, length, get_or, sym, ap, ◌∙◌, arith, drop-cons, add-one}
use Rattle.std.specs.Prelude.{None, Some}
use Rattle.std.specs.List.{find, range_with_len}
use Rattle.std.proofs.lemmas.List.{drop_all}
use Rattle.std.proofs.lemmas.List.FromFn.{length-range_with_len, get_or-range_with_len}

find-here : {X : Type 0} (p : X → Bool) (xs : List X) (i : ℕ) (d : X) → i < length xs → p (get_or xs i d) ≡ true → find p (drop i xs) ≡ Some (get_or xs i d)
find-here p xs i d low found =
    ap (find p) (drop-cons xs i d low) ∙ ap (λ b. cond b (Some (get_or xs i d)) (find p (drop (suc i) xs))) found

find-later : {X : Type 0} (p : X → Bool) (xs : List X) (i : ℕ) (d : X) → i < length xs → p (get_or xs i d) ≡ false → find p (drop (i + 1) xs) ≡ find p (drop i xs)
find-later p xs i d low fails =
    ap (λ n. find p (drop n xs)) (add-one i)
    ∙ sym (ap (find p) (drop-cons xs i d low) ∙ ap (λ b. cond b (Some (get_or xs i d)) (find p (drop (suc i) xs))) fails)

module _ (p : ℕ → Bool) (n : ℕ) where
  number_at : (t : ℕ) → t < n → get_or (range_with_len 0 n) t 0 ≡ t
  number_at t low = get_or-range_with_len 0 n t 0 low ∙ omega arith

  pub find-number_here : (t : ℕ) → t < n → p t ≡ true → Some t ≡ find p (drop t (range_with_len 0 n))
  find-number_here t low found =
      ap Some (sym (number_at t low))
      ∙ sym (find-here p (range_with_len 0 n) t 0 (omega (arith, low, length-range_with_len 0 n)) (ap p (number_at t low) ∙ found))

  pub find-number_later : (t : ℕ) → t < n → p t ≡ false → find p (drop (t + 1) (range_with_len 0 n)) ≡ find p (drop t (range_with_len 0 n))
  find-number_later t low fails =
      find-later p (range_with_len 0 n) t 0 (omega (arith, low, length-range_with_len 0 n)) (ap p (number_at t low) ∙ fails)

  pub find-number_past : (t : ℕ) → n ≤ t → None ≡ find p (drop t (range_with_len 0 n))
  find-number_past t past =
      sym (ap (find p) (drop_all t (range_with_len 0 n) (omega (arith, past, length-range_with_len 0 n))))
