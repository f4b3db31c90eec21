-- How long the words of dates are, and the lines that have them.
use Rattle.std.proofs.Common.{◌≡◌, ℕ, zero, suc, ◌+◌, ◌*◌, ◌-◌, ◌<◌, ◌≤◌, List, [], ◌∷◌, ◌++◌, length, drop, map, replicate, arith, ⊎_elim, length-append}
use Rattle.std.specs.Prelude.{All, codes, decimal}
use Rattle.std.specs.List.{sum_by}
use Rattle.std.proofs.lemmas.Bool.{cases_lt, lt-ltb, le-ltb}
use Rattle.std.proofs.Math.Nat.{mul-suc}
use Rattle.std.proofs.lemmas.Fmt.{length-decimal-le}
use Rattle.std.proofs.lemmas.List.{length-drop, length-replicate}
use Rattle.std.proofs.lemmas.List.Elements.{All-head, All-tail}
use Rattle.std.proofs.lemmas.List.Sums.{sum_by-cons}
use Rattle.line_core.specs.Consistent.{LATEST_DATE}
use Rattle.checkpoint.specs.declared.format.Format.{Format}
use Rattle.checkpoint.specs.declared.format.Format.TheVariants.{Dates, Differences}
use Rattle.checkpoint.specs.Text.{date_word, date_words, dates_text, Dated, lines_text}

-- the date is one that a state may have within the limits
abbrev pub IsEarly : ℕ → Type 0
IsEarly date = date ≤ LATEST_DATE

-- ---- dates

-- a number of 16 digits, and the sign before it
date_word-le : (format : Format) (before date : ℕ) → IsEarly before → IsEarly date → length (date_word format before date) ≤ 17
date_word-le Dates before date b d = omega (arith, length-decimal-le 16 date (omega arith) (omega arith) (omega arith))
date_word-le Differences before date b d =
    ⊎_elim
    (λ less. rw (lt-ltb date before less) (omega (arith, length-decimal-le 16 (before - date) (omega arith) (omega arith) (omega arith))))
    (λ more. rw (le-ltb date before more) (omega (arith, length-decimal-le 16 (date - before) (omega arith) (omega arith) (omega arith))))
    (cases_lt date before)

-- a date 0 that follows 0 is one digit
zero_word-le : (format : Format) → length (date_word format 0 0) ≤ 1
zero_word-le Dates = length-decimal-le 1 0 (omega arith) (omega arith) (omega arith)
zero_word-le Differences = length-decimal-le 1 0 (omega arith) (omega arith) (omega arith)

-- 18 bytes for each date
date_words-le : (format : Format) (before : ℕ) (dates : List ℕ) → IsEarly before → All IsEarly dates → length (date_words format before dates) ≤ 18 * length dates
unfolding date_words
date_words-le format before [] b early = omega arith
date_words-le format before (date ∷ dates) b early =
    let first = All-head IsEarly date dates early in
    omega (arith, length-append (date_word format before date) (date_words format date dates), date_word-le format before date b first, date_words-le format date dates first (All-tail IsEarly date dates early))

-- 2 bytes for each date 0 in front, and 18 for each date behind them
zeros_words-le : (format : Format) (n : ℕ) (dates : List ℕ) → All IsEarly (replicate n 0 ++ dates) → length (date_words format 0 (replicate n 0 ++ dates)) ≤ 2 * n + 18 * length dates
unfolding date_words
zeros_words-le format zero dates early = omega (arith, date_words-le format 0 dates (omega arith) early)
zeros_words-le format (suc n) dates early =
    let rest = replicate n 0 ++ dates in
    omega (arith, length-append (date_word format 0 0) (date_words format 0 rest), zero_word-le format, zeros_words-le format n dates (All-tail IsEarly 0 rest early))

-- and where this many dates are gone from the front, no more
left_words-le : (format : Format) (gone n : ℕ) (dates : List ℕ) → All IsEarly (drop gone (replicate n 0 ++ dates)) → length (date_words format 0 (drop gone (replicate n 0 ++ dates))) ≤ 2 * n + 18 * length dates
left_words-le format zero n dates early = zeros_words-le format n dates early
left_words-le format (suc gone) zero dates early =
    omega (arith, date_words-le format 0 (drop (suc gone) dates) (omega arith) early, length-drop (suc gone) dates)
left_words-le format (suc gone) (suc n) dates early = omega (arith, left_words-le format gone n dates early)

-- ---- the dates of a line

-- a count of at most 5 digits, the words, and the end of the line
counted-le : (format : Format) (dates : List ℕ) (most : ℕ) → length dates < 100_000 → length (date_words format 0 dates) ≤ most → length (dates_text format dates) ≤ most + 6
unfolding dates_text
counted-le format dates most few words =
    omega (arith, length-append (decimal (length dates)) (date_words format 0 dates ++ codes "\n"), length-append (date_words format 0 dates) (codes "\n"), length-decimal-le 5 (length dates) (omega arith) (omega arith) (omega arith))

-- 18 bytes for each date, and 6
pub log_text-le : (format : Format) (dates : List ℕ) → length dates < 100_000 → All IsEarly dates → length (dates_text format dates) ≤ 18 * length dates + 6
log_text-le format dates few early = counted-le format dates (18 * length dates) few (date_words-le format 0 dates (omega arith) early)

-- 2 bytes for each date 0 that stood in front, 18 for each behind them, and 6
pub left_text-le : (format : Format) (gone n : ℕ) (dates : List ℕ) → n + length dates < 100_000 → All IsEarly (drop gone (replicate n 0 ++ dates)) → length (dates_text format (drop gone (replicate n 0 ++ dates))) ≤ 2 * n + 18 * length dates + 6
left_text-le format gone n dates few early =
    counted-le format (drop gone (replicate n 0 ++ dates)) (2 * n + 18 * length dates)
    (omega (arith, length-drop gone (replicate n 0 ++ dates), length-append (replicate n 0) dates, length-replicate {A = ℕ} n 0))
    (left_words-le format gone n dates early)

-- ---- lines with dates

-- where the words of each line are short, and the text of its dates is within a size, so are all lines
pub dated_lines-le : (format : Format) (words : ℕ → List ℕ) (size : List ℕ → ℕ) (most : ℕ) (numbers : List ℕ) (lists : List (List ℕ)) → length lists ≡ length numbers → All (λ k. length (words k) ≤ most) numbers → All (λ dates. length (dates_text format dates) ≤ size dates) lists → length (lines_text format (map (λ k. Dated (words k)) numbers) lists) ≤ most * length numbers + sum_by size lists
unfolding lines_text
dated_lines-le format words size most [] lists same short within = omega arith
dated_lines-le format words size most (k ∷ numbers) [] same short within = absurd (omega arith)
dated_lines-le format words size most (k ∷ numbers) (dates ∷ lists) same short within =
    let rest = lines_text format (map (λ j. Dated (words j)) numbers) lists in
    let later = dated_lines-le format words size most numbers lists (omega arith) (All-tail (λ j. length (words j) ≤ most) k numbers short) (All-tail (λ l. length (dates_text format l) ≤ size l) dates lists within) in
    omega (arith, length-append (words k) (dates_text format dates ++ rest), length-append (dates_text format dates) rest, All-head (λ j. length (words j) ≤ most) k numbers short, All-head (λ l. length (dates_text format l) ≤ size l) dates lists within, sum_by-cons size dates lists, later, mul-suc most (length numbers))

-- 18 bytes for each date of the lists, and 6 for each list
pub sum_of_sizes : (lists : List (List ℕ)) → sum_by (λ dates. 18 * length dates + 6) lists ≡ 18 * sum_by length lists + 6 * length lists
sum_of_sizes [] = omega arith
sum_of_sizes (dates ∷ lists) =
    omega (arith, sum_by-cons (λ (l : List ℕ). 18 * length l + 6) dates lists, sum_by-cons (length {A = ℕ}) dates lists, sum_of_sizes lists)
