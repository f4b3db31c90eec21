-- Lemmas on the bits of words.
use Rattle.std.proofs.Common.{◌≡◌, ◌≢◌, ℕ, ◌+◌, ◌-◌, ◌*◌, ◌/◌, ◌%◌, ◌<◌, ◌≤◌, Bool, true, false, cond, eqb, List, length, get_or, set, replicate, zero-add, sym, ap, ◌∙◌, arith, inl, inr}
use Rattle.std.specs.Int.{bit_at}
use Rattle.std.proofs.lemmas.Bool.{cases_eq, cases_lt}
use Rattle.std.proofs.lemmas.List.{ext_get_or, get_or-set_same, get_or-set_other, length-set, get_or_past, get_or_default, get_or_read, get_or-replicate, length-replicate}
use Rattle.std.proofs.lemmas.List.FromFn.{length-map-range_with_len, get_or-map-range_with_len}
use Rattle.std.proofs.lemmas.List.Sums.{sum_by-set, sum_by-le}
use Rattle.std.proofs.lemmas.Nat.Bits.{bit_at-zero}
use Rattle.what_if.specs.Marks.{bit_in, bits_of, is_at, count_of, HasNone, IsFirstFrom}

pub length-bits : (words : List ℕ) → length (bits_of words) ≡ 64 * length words
unfolding bits_of
length-bits words = length-map-range_with_len (bit_in words) 0 (64 * length words)

-- a number of a list of marks has its bit in the words
pub in_words : (words : List ℕ) (marks : List Bool) (k : ℕ) → bits_of words ≡ marks → k < length marks → k < 64 * length words
in_words words marks k is low = omega (arith, ap length is, length-bits words)

pub is_at-bits : (words : List ℕ) (k : ℕ) → k < 64 * length words → is_at (bits_of words) k ≡ bit_in words k
unfolding bits_of
is_at-bits words k low = get_or-map-range_with_len (bit_in words) 0 (64 * length words) k k false low (zero-add k)

-- past the words no bit is set
pub is_at-past : (words : List ℕ) (k : ℕ) → 64 * length words ≤ k → is_at (bits_of words) k ≡ false
is_at-past words k past = get_or_past (bits_of words) k false (omega (arith, length-bits words))

bit_in-same : (words : List ℕ) (k v : ℕ) (b : Bool) → k / 64 < length words → eqb (bit_at v (k % 64)) 1 ≡ b → bit_in (set words (k / 64) v) k ≡ b
bit_in-same words k v b low is =
    ap (λ w. eqb (bit_at w (k % 64)) 1) (get_or-set_same words (k / 64) v 0 low) ∙ is

bit_in-other : (words : List ℕ) (k v j : ℕ) → k / 64 < length words → ((i : ℕ) → i < 64 → i ≢ k % 64 → bit_at v i ≡ bit_at (get_or words (k / 64) 0) i) → j ≢ k → bit_in (set words (k / 64) v) j ≡ bit_in words j
bit_in-other words k v j low others other =
    elim (cases_eq (j / 64) (k / 64)) [
      | inl same ↦
          let rank : j % 64 ≢ k % 64 = λ e. other (omega (arith, e, same)) in
          ap (λ w. eqb (bit_at (get_or (set words (k / 64) v) w 0) (j % 64)) 1) same
          ∙ ap (λ w. eqb (bit_at w (j % 64)) 1) (get_or-set_same words (k / 64) v 0 low)
          ∙ ap (λ b. eqb b 1) (others (j % 64) (omega arith) rank)
          ∙ ap (λ w. eqb (bit_at (get_or words w 0) (j % 64)) 1) (sym same)
      | inr far ↦ ap (λ w. eqb (bit_at w (j % 64)) 1) (get_or-set_other words (k / 64) (j / 64) v 0 far)
    ]

-- a word with one bit changed
pub bits_of-set : (words : List ℕ) (k v : ℕ) (b : Bool) → k < 64 * length words → eqb (bit_at v (k % 64)) 1 ≡ b → ((i : ℕ) → i < 64 → i ≢ k % 64 → bit_at v i ≡ bit_at (get_or words (k / 64) 0) i) → bits_of (set words (k / 64) v) ≡ set (bits_of words) k b
bits_of-set words k v b low is others =
    let there : k / 64 < length words = omega arith in
    let long : length (bits_of (set words (k / 64) v)) ≡ 64 * length words = length-bits (set words (k / 64) v) ∙ ap (λ n. 64 * n) (length-set words (k / 64) v) in
    let long_2 : length (set (bits_of words) k b) ≡ 64 * length words = length-set (bits_of words) k b ∙ length-bits words in
    ext_get_or false (bits_of (set words (k / 64) v)) (set (bits_of words) k b) (long ∙ sym long_2) (λ j below.
    let in_words : j < 64 * length words = omega (arith, long) in
    is_at-bits (set words (k / 64) v) j (omega (arith, length-set words (k / 64) v))
    ∙ elim (cases_eq j k) as (λ _. bit_in (set words (k / 64) v) j ≡ get_or (set (bits_of words) k b) j false) [
      | inl same ↦
          ap (bit_in (set words (k / 64) v)) same
          ∙ bit_in-same words k v b there is
          ∙ sym (ap (λ i. get_or (set (bits_of words) k b) i false) same ∙ get_or-set_same (bits_of words) k b false (omega (arith, length-bits words)))
      | inr other ↦
          bit_in-other words k v j there others other
          ∙ sym (is_at-bits words j in_words)
          ∙ sym (get_or-set_other (bits_of words) k j b false other)
    ])

-- the count after one bit is set, or cleared
pub count_of-inserted : (marks : List Bool) (k : ℕ) → k < length marks → is_at marks k ≡ false → count_of (set marks k true) ≡ count_of marks + 1
count_of-inserted marks k low none =
    omega (arith, sum_by-set (λ (m : Bool). cond m 1 0) marks k true false low, ap {B = ℕ} (λ m. cond m 1 0) none)

pub count_of-removed : (marks : List Bool) (k : ℕ) → k < length marks → is_at marks k ≡ true → count_of marks ≡ count_of (set marks k false) + 1
count_of-removed marks k low some =
    omega (arith, sum_by-set (λ (m : Bool). cond m 1 0) marks k false false low, ap {B = ℕ} (λ m. cond m 1 0) some)

-- where no word has a bit, none is marked
pub is_at-zeros : (n k : ℕ) → is_at (bits_of (replicate n 0)) k ≡ false
is_at-zeros n k =
    elim (cases_lt k (64 * n)) [
      | inl low ↦
          is_at-bits (replicate n 0) k (omega (arith, length-replicate {A = ℕ} n 0))
          ∙ ap (λ w. eqb (bit_at w (k % 64)) 1) (get_or-replicate n (k / 64) 0 0 (omega arith))
          ∙ ap (λ b. eqb b 1) (bit_at-zero (k % 64))
      | inr past ↦ is_at-past (replicate n 0) k (omega (arith, length-replicate {A = ℕ} n 0))
    ]

none-count : (marks : List Bool) → ((k : ℕ) → is_at marks k ≡ false) → count_of marks ≤ length marks * 0
none-count marks none = sum_by-le (λ (m : Bool). cond m 1 0) 0 marks (λ k d low. omega (arith, ap {B = ℕ} (λ m. cond m 1 0) (sym (get_or_default-bool marks k d low) ∙ none k)))
  where
    get_or_default-bool : (ms : List Bool) (i : ℕ) (d : Bool) → i < length ms → get_or ms i false ≡ get_or ms i d
    get_or_default-bool ms i d low = get_or_default ms i false d low

pub count_of-none : (marks : List Bool) → ((k : ℕ) → is_at marks k ≡ false) → count_of marks ≡ 0
count_of-none marks none = omega (arith, none-count marks none)

-- a word in which one bit is changed goes to the place from which it was read
pub bits_of-write : (words : List ℕ) (k n v : ℕ) (b : Bool) → k < 64 * length words → n ≡ get_or words (k / 64) n → eqb (bit_at v (k % 64)) 1 ≡ b → ((i : ℕ) → i < 64 → i ≢ k % 64 → bit_at v i ≡ bit_at n i) → bits_of (set words (k / 64) v) ≡ set (bits_of words) k b
bits_of-write words k n v b low read is others =
    let here = get_or_read words (k / 64) n (omega arith) read 0 in
    bits_of-set words k v b low is (λ i in_word other. others i in_word other ∙ ap (λ w. bit_at w i) here)

-- ---- the first mark

bit_in-word : (words : List ℕ) (j i : ℕ) → i < 64 → bit_in words (64 * j + i) ≡ eqb (bit_at (get_or words j 0) i) 1
bit_in-word words j i low =
    let at : (64 * j + i) / 64 ≡ j = omega arith in
    let rank : (64 * j + i) % 64 ≡ i = omega arith in
    ap (λ n. eqb (bit_at (get_or words n 0) ((64 * j + i) % 64)) 1) at
    ∙ ap (λ n. eqb (bit_at (get_or words j 0) n) 1) rank

is_at-word : (words : List ℕ) (j i : ℕ) → j < length words → i < 64 → is_at (bits_of words) (64 * j + i) ≡ eqb (bit_at (get_or words j 0) i) 1
is_at-word words j i there low = is_at-bits words (64 * j + i) (omega arith) ∙ bit_in-word words j i low

-- number k stands in word j, of which w has the bits from `from` on
is_at-same_bits : (words : List ℕ) (from j w k : ℕ) → j < length words → ((i : ℕ) → from ≤ 64 * j + i → i < 64 → bit_at w i ≡ bit_at (get_or words j 0) i) → from ≤ k → 64 * j ≤ k → k < 64 * (j + 1) → is_at (bits_of words) k ≡ eqb (bit_at w (k - 64 * j)) 1
is_at-same_bits words from j w k there same after here low =
    let i = k - 64 * j in
    let at : k ≡ 64 * j + i = omega arith in
    let in_word : i < 64 = omega arith in
    ap (is_at (bits_of words)) at
    ∙ is_at-word words j i there in_word
    ∙ ap (λ b. eqb b 1) (sym (same i (omega arith) in_word))

-- a word without a bit is passed
pub none_in_word : (words : List ℕ) (from j w : ℕ) → j < length words → ((i : ℕ) → from ≤ 64 * j + i → i < 64 → bit_at w i ≡ bit_at (get_or words j 0) i) → w ≡ 0 → HasNone (bits_of words) from (64 * j) → HasNone (bits_of words) from (64 * (j + 1))
none_in_word words from j w there same zero before k after low =
    elim (cases_lt k (64 * j)) [
      | inl early ↦ before k after early
      | inr here ↦
          is_at-same_bits words from j w k there same after here low
          ∙ ap (λ b. eqb b 1) (ap (λ v. bit_at v (k - 64 * j)) zero ∙ bit_at-zero (k - 64 * j))
    ]

-- in a word with a bit the lowest is the first
pub first_in_word : (words : List ℕ) (from j w low : ℕ) → j < length words → ((i : ℕ) → from ≤ 64 * j + i → i < 64 → bit_at w i ≡ bit_at (get_or words j 0) i) → HasNone (bits_of words) from (64 * j) → low < 64 → bit_at w low ≡ 1 → ((i : ℕ) → i < low → bit_at w i ≡ 0) → from ≤ 64 * j + low → IsFirstFrom (bits_of words) from (64 * j + low)
first_in_word words from j w low there same before in_word set_ none after = record {
  after = after;
  within = omega (arith, length-bits words);
  marked = is_at-word words j low there in_word ∙ ap (λ b. eqb b 1) (sym (same low after in_word) ∙ set_);
  none_before = λ k from_on below.
      elim (cases_lt k (64 * j)) [
        | inl early ↦ before k from_on early
        | inr here ↦
            is_at-same_bits words from j w k there same from_on here (omega arith)
            ∙ ap (λ b. eqb b 1) (none (k - 64 * j) (omega arith))
      ];
}
