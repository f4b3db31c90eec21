-- Words: the bytes that they have, and where they end.
use Rattle.std.proofs.Common.{◌≡◌, ◌≢◌, ℕ, suc, ◌+◌, ◌-◌, ◌^◌, ◌%◌, ◌<◌, ◌≤◌, true, cond, List, [], ◌∷◌, ◌++◌, length, take, drop, ap, ◌∙◌, refl, subst, arith, ⊎_elim}
use Rattle.std.specs.Prelude.{decimal, All}
use Rattle.std.specs.List.{prefix_len}
use Rattle.std.proofs.lemmas.Bool.{cases_lt, lt-ltb, le-ltb, ne_eqb}
use Rattle.std.proofs.lemmas.List.{take_at, drop_at}
use Rattle.std.proofs.lemmas.List.Elements.{All-nil, All-cons, All-head, All-tail, All-push, All-weaker}
use Rattle.std.proofs.lemmas.Fmt.{decimal_by_steps, decimal_nonempty}
use Rattle.line_core.specs.Parts.{LATEST_GIVEN}
use Rattle.checkpoint.specs.declared.format.Format.{Format}
use Rattle.checkpoint.specs.declared.format.Format.TheVariants.{Dates, Differences}
use Rattle.checkpoint.specs.Text.{date_word}
use Rattle.checkpoint.specs.Reading.{is_word_byte, EndsWord}

abbrev pub High : ℕ → Type 0
High byte = 48 ≤ byte

-- the bytes of a number are digits, so `0` or above
abbrev pub AreHigh : List ℕ → Type 0
AreHigh word = All High word

pub high_decimal : (n : ℕ) → n < 2 ^ 64 → AreHigh (decimal n)
high_decimal n small =
    decimal_by_steps (λ _ word. AreHigh word)
    (λ k one. All-cons High (48 + k) [] (omega arith) (All-nil High))
    (λ k digits more all. All-push High digits (48 + k % 10) all (omega arith))
    n small

-- a number begins with no minus sign
pub no_minus : (n : ℕ) (rest : List ℕ) → n < 2 ^ 64 → decimal n ≢ 45 ∷ rest
no_minus n rest small is =
    let high : AreHigh (45 ∷ rest) = subst AreHigh is (high_decimal n small) in
    absurd (omega (arith, All-head High 45 rest high))

abbrev pub IsWord : List ℕ → Type 0
IsWord word = All (λ byte. is_word_byte byte ≡ true) word

word_byte : (byte : ℕ) → 45 ≤ byte → is_word_byte byte ≡ true
word_byte byte high = rw (ne_eqb byte 32 (λ is. absurd (omega (arith, is, high))), ne_eqb byte 10 (λ is. absurd (omega (arith, is, high)))) refl

high_word : (word : List ℕ) → AreHigh word → IsWord word
high_word word high = All-weaker High (λ byte. is_word_byte byte ≡ true) (λ byte h. word_byte byte (omega arith)) word high

pub word-decimal : (n : ℕ) → n < 2 ^ 64 → IsWord (decimal n)
word-decimal n small = high_word (decimal n) (high_decimal n small)

pub word-date_word : (format : Format) (before date : ℕ) → before ≤ LATEST_GIVEN → date ≤ LATEST_GIVEN → IsWord (date_word format before date)
word-date_word Dates before date b d = word-decimal date (omega arith)
word-date_word Differences before date b d =
    ⊎_elim
    (λ less. rw (lt-ltb date before less) (All-cons (λ byte. is_word_byte byte ≡ true) 45 (decimal (before - date)) refl (word-decimal (before - date) (omega arith))))
    (λ more. rw (le-ltb date before more) (word-decimal (date - before) (omega arith)))
    (cases_lt date before)

pub date_word-some : (format : Format) (before date : ℕ) → before ≤ LATEST_GIVEN → date ≤ LATEST_GIVEN → 0 < length (date_word format before date)
date_word-some Dates before date b d = decimal_nonempty date (omega arith)
date_word-some Differences before date b d =
    ⊎_elim
    (λ less. rw (lt-ltb date before less) (omega arith))
    (λ more. rw (le-ltb date before more) (decimal_nonempty (date - before) (omega arith)))
    (cases_lt date before)

-- the bytes of a word, and no more, stand before what ends it
prefix_len-word : (word after : List ℕ) → IsWord word → EndsWord after → prefix_len is_word_byte (word ++ after) ≡ length word
prefix_len-word [] [] is ends = refl
prefix_len-word [] (byte ∷ after) is ends = ap (λ b. cond b (1 + prefix_len is_word_byte after) 0) ends
prefix_len-word (byte ∷ word) after is ends =
    ap (λ b. cond b (1 + prefix_len is_word_byte (word ++ after)) 0) (All-head (λ b. is_word_byte b ≡ true) byte word is)
    ∙ ap (λ n. 1 + n) (prefix_len-word word after (All-tail (λ b. is_word_byte b ≡ true) byte word is) ends)
    ∙ one_more (length word)
  where
    one_more : (n : ℕ) → 1 + n ≡ suc n
    one_more n = omega arith

pub word_taken : (word after : List ℕ) → IsWord word → EndsWord after → take (prefix_len is_word_byte (word ++ after)) (word ++ after) ≡ word
word_taken word after is ends = ap (λ n. take n (word ++ after)) (prefix_len-word word after is ends) ∙ take_at word after (length word) refl

pub word_dropped : (word after : List ℕ) → IsWord word → EndsWord after → drop (prefix_len is_word_byte (word ++ after)) (word ++ after) ≡ after
word_dropped word after is ends = ap (λ n. drop n (word ++ after)) (prefix_len-word word after is ends) ∙ drop_at word after (length word) refl
