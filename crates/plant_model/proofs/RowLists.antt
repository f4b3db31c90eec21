-- Rows that are listed one after the other, and what is read off them: their arcs or their delays.
use Rattle.std.proofs.Common.{◌≡◌, ℕ, ◌+◌, ◌<◌, List, [], ◌∷◌, ◌++◌, length, get_or, take, map, Bool, true, false, cond, sym, ap, ◌∙◌, arith}
use Rattle.std.specs.List.{range_with_len, filter, flat_map}
use Rattle.std.proofs.lemmas.List.{append-nil, map-append, map_push, map_more}
use Rattle.std.proofs.lemmas.List.FromFn.{map-range_with_len_more}
use Rattle.line_base.proofs.RangeLists.{filter-range_more, flat_map-range_more}

module _ {R X : Type 0} (part : R → X) where
  -- one stage more, each of which has a row
  pub row_more : (row : ℕ → R) (parts : List X) (x : X) (n : ℕ) → parts ≡ map part (map row (range_with_len 0 n)) → x ≡ part (row n) → parts ++ x ∷ [] ≡ map part (map row (range_with_len 0 (n + 1)))
  row_more row parts x n is at =
      rw (is, at) (sym (ap (map part) (map-range_with_len_more row 0 n n (omega arith)) ∙ map_push part (map row (range_with_len 0 n)) (row n)))

  -- one stage more, which passes the test and has a row, or doesn't
  pub passing_row_more : (row : ℕ → R) (p : ℕ → Bool) (parts : List X) (x : X) (n : ℕ) → parts ≡ map part (map row (filter p (range_with_len 0 n))) → p n ≡ true → x ≡ part (row n) → parts ++ x ∷ [] ≡ map part (map row (filter p (range_with_len 0 (n + 1))))
  passing_row_more row p parts x n is passes at =
      let numbers = filter-range_more p n ∙ ap (λ t. filter p (range_with_len 0 n) ++ cond t (n ∷ []) []) passes in
      let rows = ap (map row) numbers ∙ map_push row (filter p (range_with_len 0 n)) n in
      rw (is, at) (sym (ap (map part) rows ∙ map_push part (map row (filter p (range_with_len 0 n))) (row n)))

  pub failing_row_more : (row : ℕ → R) (p : ℕ → Bool) (parts : List X) (n : ℕ) → parts ≡ map part (map row (filter p (range_with_len 0 n))) → p n ≡ false → parts ≡ map part (map row (filter p (range_with_len 0 (n + 1))))
  failing_row_more row p parts n is fails =
      let numbers = filter-range_more p n ∙ ap (λ t. filter p (range_with_len 0 n) ++ cond t (n ∷ []) []) fails ∙ append-nil (filter p (range_with_len 0 n)) in
      is ∙ ap (λ xs. map part (map row xs)) (sym numbers)

  -- one stage more, each of which has a list of rows
  pub rows_more : (rows : ℕ → List R) (parts more : List X) (n : ℕ) → parts ≡ map part (flat_map rows (range_with_len 0 n)) → more ≡ map part (rows n) → parts ++ more ≡ map part (flat_map rows (range_with_len 0 (n + 1)))
  rows_more rows parts more n is at =
      rw (is, at) (sym (ap (map part) (flat_map-range_more rows n) ∙ map-append part (flat_map rows (range_with_len 0 n)) (rows n)))

  -- one element of a list more, each of which has a row
  pub taken_row_more : {Y : Type 0} (row : Y → R) (ys : List Y) (parts : List X) (x : X) (y : Y) (i : ℕ) → parts ≡ map part (map row (take i ys)) → i < length ys → y ≡ get_or ys i y → x ≡ part (row y) → parts ++ x ∷ [] ≡ map part (map row (take (i + 1) ys))
  taken_row_more row ys parts x y i is below read at =
      let rows = map_more row ys i y below ∙ ap (λ z. map row (take i ys) ++ row z ∷ []) (sym read) in
      rw (is, at) (sym (ap (map part) rows ∙ map_push part (map row (take i ys)) (row y)))
