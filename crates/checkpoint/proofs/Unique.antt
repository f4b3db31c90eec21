-- A text says its dates: two readings of one text are the same.
use Rattle.std.proofs.Common.{◌≡◌, ℕ, zero, suc, ◌-◌, ◌^◌, ◌<◌, cond, List, [], ◌∷◌, ◌++◌, length, take, drop, sym, ap, ◌∙◌, refl, arith, append_assoc, ⊎_elim}
use Rattle.std.specs.Prelude.{All, codes, decimal}
use Rattle.std.specs.List.{prefix_len}
use Rattle.std.proofs.lemmas.Bool.{cases_lt, lt-ltb, le-ltb}
use Rattle.std.proofs.lemmas.Fmt.{decimal_injective}
use Rattle.std.proofs.lemmas.List.{append_cancel_left, length-append}
use Rattle.std.proofs.lemmas.List.Elements.{All-head, All-tail}
use Rattle.line_core.specs.Parts.{list_at}
use Rattle.checkpoint.specs.declared.format.Format.{Format}
use Rattle.checkpoint.specs.declared.format.Format.TheVariants.{Dates, Differences}
use Rattle.checkpoint.specs.Text.{date_word, date_words, dates_text, Line, Fixed, Dated, lines_text}
use Rattle.checkpoint.specs.Given.{AreGiven}
use Rattle.checkpoint.specs.Reading.{is_word_byte, EndsWord, dated_line_count}
use Rattle.checkpoint.proofs.WordBytes.{IsWord, no_minus, word-decimal, word-date_word, word_taken, word_dropped}
use Rattle.checkpoint.proofs.ReadDates.{IsGiven, ends-date_words, length-date_words, dates_parts}

pub word_unique : (u v r s : List ℕ) → IsWord u → IsWord v → EndsWord r → EndsWord s → u ++ r ≡ v ++ s → (u ≡ v) × (r ≡ s)
word_unique u v r s wu wv er es same = (
  sym (word_taken u r wu er) ∙ ap (λ l. take (prefix_len is_word_byte l) l) same ∙ word_taken v s wv es,
  sym (word_dropped u r wu er) ∙ ap (λ l. drop (prefix_len is_word_byte l) l) same ∙ word_dropped v s wv es,
)

date_word-injective : (format : Format) (before d e : ℕ) → IsGiven before → IsGiven d → IsGiven e → date_word format before d ≡ date_word format before e → d ≡ e
date_word-injective Dates before d e gb gd ge same = decimal_injective d e (omega arith) (omega arith) same
date_word-injective Differences before d e gb gd ge same =
    ⊎_elim
    (λ d_less.
    let word_d = ap (λ b. cond b (45 ∷ decimal (before - d)) (decimal (d - before))) (lt-ltb d before d_less) in
    ⊎_elim
    (λ e_less.
    let word_e = ap (λ b. cond b (45 ∷ decimal (before - e)) (decimal (e - before))) (lt-ltb e before e_less) in
    let both : 45 ∷ decimal (before - d) ≡ 45 ∷ decimal (before - e) = sym word_d ∙ same ∙ word_e in
    let size : decimal (before - d) ≡ decimal (before - e) = cc both in
    omega (arith, decimal_injective (before - d) (before - e) (omega arith) (omega arith) size, d_less, e_less))
    (λ e_more.
    let word_e = ap (λ b. cond b (45 ∷ decimal (before - e)) (decimal (e - before))) (le-ltb e before e_more) in
    absurd (no_minus (e - before) (decimal (before - d)) (omega arith) (sym word_e ∙ sym same ∙ word_d)))
    (cases_lt e before))
    (λ d_more.
    let word_d = ap (λ b. cond b (45 ∷ decimal (before - d)) (decimal (d - before))) (le-ltb d before d_more) in
    ⊎_elim
    (λ e_less.
    let word_e = ap (λ b. cond b (45 ∷ decimal (before - e)) (decimal (e - before))) (lt-ltb e before e_less) in
    absurd (no_minus (d - before) (decimal (before - e)) (omega arith) (sym word_d ∙ same ∙ word_e)))
    (λ e_more.
    let word_e = ap (λ b. cond b (45 ∷ decimal (before - e)) (decimal (e - before))) (le-ltb e before e_more) in
    omega (arith, decimal_injective (d - before) (e - before) (omega arith) (omega arith) (sym word_d ∙ same ∙ word_e), d_more, e_more))
    (cases_lt e before))
    (cases_lt d before)

date_words-unique : (format : Format) (before : ℕ) (ds es r s : List ℕ) → IsGiven before → All IsGiven ds → All IsGiven es → length ds ≡ length es → EndsWord r → EndsWord s → date_words format before ds ++ r ≡ date_words format before es ++ s → (ds ≡ es) × (r ≡ s)
unfolding date_words
date_words-unique format before [] [] r s gb gd ge long er es same = (refl, same)
date_words-unique format before [] (e ∷ es_) r s gb gd ge long er es same = cc
date_words-unique format before (d ∷ ds) [] r s gb gd ge long er es same = cc
date_words-unique format before (d ∷ ds) (e ∷ es_) r s gb gd ge long er es same =
    let gd' = All-head IsGiven d ds gd in
    let ge' = All-head IsGiven e es_ ge in
    let left = append_assoc (date_word format before d) (date_words format d ds) r in
    let right = append_assoc (date_word format before e) (date_words format e es_) s in
    let spaced = append_cancel_left (codes " ") _ _ (ap (λ l. codes " " ++ l) (sym left) ∙ same ∙ ap (λ l. codes " " ++ l) right) in
    let word = word_unique (date_word format before d) (date_word format before e) (date_words format d ds ++ r) (date_words format e es_ ++ s) (word-date_word format before d gb gd') (word-date_word format before e gb ge') (ends-date_words format d ds r er) (ends-date_words format e es_ s es) spaced in
    let first = date_word-injective format before d e gb gd' ge' word.0 in
    let rest = date_words-unique format d ds es_ r s gd' (All-tail IsGiven d ds gd) (All-tail IsGiven e es_ ge) (omega (arith, long)) er es (word.1 ∙ ap (λ n. date_words format n es_ ++ s) (sym first)) in
    (ap (λ n. n ∷ ds) first ∙ ap (λ l. e ∷ l) rest.0, rest.1)

pub dates_text-unique : (format : Format) (ds es r s : List ℕ) → All IsGiven ds → All IsGiven es → length ds < 2 ^ 64 → length es < 2 ^ 64 → dates_text format ds ++ r ≡ dates_text format es ++ s → (ds ≡ es) × (r ≡ s)
dates_text-unique format ds es r s gd ge small_d small_e same =
    let left = dates_parts format ds r in
    let right = dates_parts format es s in
    let ends_d = ends-date_words format 0 ds (codes "\n" ++ r) refl in
    let ends_e = ends-date_words format 0 es (codes "\n" ++ s) refl in
    let word = word_unique (decimal (length ds)) (decimal (length es)) _ _ (word-decimal (length ds) small_d) (word-decimal (length es) small_e) ends_d ends_e (sym left ∙ same ∙ right) in
    let long = decimal_injective (length ds) (length es) small_d small_e word.0 in
    let rest = date_words-unique format 0 ds es (codes "\n" ++ r) (codes "\n" ++ s) (omega arith) gd ge long refl refl word.1 in
    (rest.0, append_cancel_left (codes "\n") r s rest.1)

-- ---- lines

-- the lists that lines take are no longer than a number of 64 bits can say
abbrev pub HasShortLists : List Line → List (List ℕ) → Type 0
HasShortLists lns lists = (k : ℕ) → k < dated_line_count lns → length (list_at lists k) < 2 ^ 64

pub given_at : (lists : List (List ℕ)) → AreGiven lists → All IsGiven (list_at lists 0)
given_at [] given = λ k d low. absurd (omega (arith, low))
given_at (l ∷ ls) given = All-head (All IsGiven) l ls given

given_rest : (lists : List (List ℕ)) → AreGiven lists → AreGiven (drop 1 lists)
given_rest [] given = given
given_rest (l ∷ ls) given = All-tail (All IsGiven) l ls given

at_rest : (lists : List (List ℕ)) (k : ℕ) → list_at (drop 1 lists) k ≡ list_at lists (suc k)
at_rest [] k = refl
at_rest (l ∷ ls) k = refl

short_rest : (words : List ℕ) (lns : List Line) (lists : List (List ℕ)) → HasShortLists (Dated words ∷ lns) lists → HasShortLists lns (drop 1 lists)
short_rest words lns lists short k low = rw (at_rest lists k) (short (suc k) (omega (arith, low)))

-- two ways to fill the same lines that give one text
pub filled-unique : (format : Format) (lns : List Line) (ls ms : List (List ℕ)) (r s : List ℕ) → AreGiven ls → AreGiven ms → HasShortLists lns ls → HasShortLists lns ms → lines_text format lns ls ++ r ≡ lines_text format lns ms ++ s → ((k : ℕ) → k < dated_line_count lns → list_at ls k ≡ list_at ms k) × (r ≡ s)
unfolding lines_text
filled-unique format [] ls ms r s gl gm sl sm same = (λ k low. absurd (omega (arith, low)), same)
filled-unique format (Fixed text ∷ lns) ls ms r s gl gm sl sm same =
    filled-unique format lns ls ms r s gl gm sl sm
    (append_cancel_left text _ _ (sym (append_assoc text (lines_text format lns ls) r) ∙ same ∙ append_assoc text (lines_text format lns ms) s))
filled-unique format (Dated words ∷ lns) ls ms r s gl gm sl sm same =
    let l = list_at ls 0 in
    let m = list_at ms 0 in
    let left = append_assoc words (dates_text format l ++ lines_text format lns (drop 1 ls)) r ∙ ap (λ t. words ++ t) (append_assoc (dates_text format l) (lines_text format lns (drop 1 ls)) r) in
    let right = append_assoc words (dates_text format m ++ lines_text format lns (drop 1 ms)) s ∙ ap (λ t. words ++ t) (append_assoc (dates_text format m) (lines_text format lns (drop 1 ms)) s) in
    let here = dates_text-unique format l m _ _ (given_at ls gl) (given_at ms gm) (sl 0 (omega arith)) (sm 0 (omega arith)) (append_cancel_left words _ _ (sym left ∙ same ∙ right)) in
    let rest = filled-unique format lns (drop 1 ls) (drop 1 ms) r s (given_rest ls gl) (given_rest ms gm) (short_rest words lns ls sl) (short_rest words lns ms sm) here.1 in
    (each here.0 rest.0, rest.1)
  where
    each : list_at ls 0 ≡ list_at ms 0 → ((k : ℕ) → k < dated_line_count lns → list_at (drop 1 ls) k ≡ list_at (drop 1 ms) k) → (k : ℕ) → k < suc (dated_line_count lns) → list_at ls k ≡ list_at ms k
    each here later zero low = here
    each here later (suc k) low = sym (at_rest ls k) ∙ later k (omega (arith, low)) ∙ at_rest ms k

-- the first list that a text takes, and what is left, are no longer than the text
lengths_in : (format : Format) (words l later rest : List ℕ) → All IsGiven l → length ((words ++ (dates_text format l ++ later)) ++ rest) < 2 ^ 64 → (length l < 2 ^ 64) × (length (later ++ rest) < 2 ^ 64)
unfolding dates_text
lengths_in format words l later rest given short =
    let outer = length-append (words ++ (dates_text format l ++ later)) rest in
    let named = length-append words (dates_text format l ++ later) in
    let both = length-append (dates_text format l) later in
    let counted = length-append (decimal (length l)) (date_words format 0 l ++ codes "\n") in
    let words_ = length-append (date_words format 0 l) (codes "\n") in
    let long = length-date_words format 0 l (omega arith) given in
    (omega (arith, short, outer, named, both, counted, words_, long), omega (arith, short, outer, named, both, length-append later rest))

short_more : (words : List ℕ) (lns : List Line) (lists : List (List ℕ)) → length (list_at lists 0) < 2 ^ 64 → HasShortLists lns (drop 1 lists) → HasShortLists (Dated words ∷ lns) lists
short_more words lns lists here later zero low = here
short_more words lns lists here later (suc k) low = rw (← at_rest lists k) (later k (omega (arith, low)))

-- a text that isn't too long has such lists alone
pub short_lists : (format : Format) (lns : List Line) (lists : List (List ℕ)) (rest : List ℕ) → AreGiven lists → length (lines_text format lns lists ++ rest) < 2 ^ 64 → HasShortLists lns lists
unfolding lines_text
short_lists format [] lists rest given short = λ k low. absurd (omega (arith, low))
short_lists format (Fixed text ∷ lns) lists rest given short =
    short_lists format lns lists rest given (omega (arith, short, length-append (text ++ lines_text format lns lists) rest, length-append text (lines_text format lns lists), length-append (lines_text format lns lists) rest))
short_lists format (Dated words ∷ lns) lists rest given short =
    let lengths = lengths_in format words (list_at lists 0) (lines_text format lns (drop 1 lists)) rest (given_at lists given) short in
    short_more words lns lists lengths.0 (short_lists format lns (drop 1 lists) rest (given_rest lists given) lengths.1)
