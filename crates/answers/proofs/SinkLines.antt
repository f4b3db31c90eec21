-- Lines that are given to a sink one after another, and counted.
use Rattle.std.proofs.Common.{◌≡◌, ◌≢◌, ℕ, ◌+◌, ◌<◌, List, [], ◌∷◌, ◌++◌, length, get_or, take, refl, sym, ap, ◌∙◌, append-nil, append_assoc, map-id, zero-add}
use Rattle.std.specs.List.{flat_map, range_with_len}
use Rattle.std.proofs.lemmas.Bool.{eq-eqb, ne_eqb}
use Rattle.std.proofs.lemmas.List.{length-append, take_more}
use Rattle.std.proofs.lemmas.List.Concat.{flat_map-append}
use Rattle.std.proofs.lemmas.List.FromFn.{map-range_with_len_more}
use Rattle.outside_io.specs.Outgoing.{Stream, Pushed}
use Rattle.outside_io.proofs.OutgoingLemmas.{pushed_none, pushed_after}
use Rattle.answers.specs.ChangesText.{change_line, lines_of_dates}
use Rattle.answers.specs.Written.{IsWritten}

-- one more number, and what is made of it
range_more : (a n j : ℕ) → a + n ≡ j → range_with_len a (n + 1) ≡ range_with_len a n ++ j ∷ []
range_more a n j at = sym (map-id _) ∙ map-range_with_len_more (λ k. k) a n j at ∙ ap (λ l. l ++ j ∷ []) (map-id _)

pub lines_more : {A : Type 0} (f : ℕ → List A) (a n j : ℕ) → a + n ≡ j → flat_map f (range_with_len a (n + 1)) ≡ flat_map f (range_with_len a n) ++ f j
lines_more f a n j at =
    ap (flat_map f) (range_more a n j at) ∙ flat_map-append f (range_with_len a n) (j ∷ []) ∙ ap (λ l. flat_map f (range_with_len a n) ++ l) (append-nil (f j))

-- a text that begins with what was there, and what is added to it
pub text_more : (f : ℕ → List ℕ) (start before after : List ℕ) (n : ℕ) → before ≡ start ++ flat_map f (range_with_len 0 n) → after ≡ before ++ f n → after ≡ start ++ flat_map f (range_with_len 0 (n + 1))
text_more f start before after n is added =
    added ∙ ap (λ l. l ++ f n) is ∙ append_assoc start (flat_map f (range_with_len 0 n)) (f n) ∙ ap (λ l. start ++ l) (sym (lines_more f 0 n n (zero-add n)))

-- the texts of some first items, and that of the next one
next_text : {A : Type 0} (f : A → List ℕ) (items : List A) (n : ℕ) (d item : A) → n < length items → item ≡ get_or items n d → flat_map f (take (n + 1) items) ≡ flat_map f (take n items) ++ f item
next_text f items n d item low is =
    ap (flat_map f) (take_more items n d low)
    ∙ flat_map-append f (take n items) (get_or items n d ∷ [])
    ∙ ap (λ l. flat_map f (take n items) ++ l) (append-nil (f (get_or items n d)) ∙ ap f (sym is))

-- a text that begins with what was there, and the text of the next item
pub item_more : {A : Type 0} (f : A → List ℕ) (items : List A) (n : ℕ) (d item : A) (start before after : List ℕ) → n < length items → item ≡ get_or items n d → before ≡ start ++ flat_map f (take n items) → after ≡ before ++ f item → after ≡ start ++ flat_map f (take (n + 1) items)
item_more f items n d item start before after low at is added =
    added
    ∙ ap (λ l. l ++ f item) is
    ∙ append_assoc start (flat_map f (take n items)) (f item)
    ∙ ap (λ l. start ++ l) (sym (next_text f items n d item low at))

-- no line
pub written_none : (a : Stream) → IsWritten a a [] 0
written_none a = record { pushed = pushed_none a; counted = refl }

-- one line
pub written_line : (a b : Stream) (line : List ℕ) → Pushed a b line → IsWritten a b (line ∷ []) 1
written_line a b line pushed = record { pushed = rw (append-nil line) pushed; counted = refl }

-- lines, and lines after them
pub written_after : (a b c : Stream) (xs ys : List (List ℕ)) (m n : ℕ) → IsWritten a b xs m → IsWritten b c ys n → IsWritten a c (xs ++ ys) (m + n)
written_after a b c xs ys m n first second =
    record {
      pushed = rw (flat_map-append (λ line. line) xs ys) (pushed_after {b = b} first.pushed second.pushed);
      counted = rw (length-append xs ys, ← first.counted, ← second.counted) refl;
    }

-- the lines of numbers from a on, and those of the next one
pub written_more : (a b c : Stream) (f : ℕ → List (List ℕ)) (from n j m k : ℕ) → from + n ≡ j → IsWritten a b (flat_map f (range_with_len from n)) m → IsWritten b c (f j) k → IsWritten a c (flat_map f (range_with_len from (n + 1))) (m + k)
written_more a b c f from n j m k at before now =
    rw (lines_more f from n j at) (written_after a b c (flat_map f (range_with_len from n)) (f j) m k before now)

-- a date that is the same has no line
pub no_line : (label : List ℕ) (n old new : ℕ) → old ≡ new → lines_of_dates label n old new ≡ []
no_line label n old new same = rw (eq-eqb old new same) refl

-- and one that isn't has one
pub one_line : (label : List ℕ) (n old new : ℕ) → old ≢ new → lines_of_dates label n old new ≡ change_line label n old new ∷ []
one_line label n old new other = rw (ne_eqb old new other) refl
