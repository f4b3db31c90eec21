-- Dates that are read one after the other: what is read so far, and what of any reading is left.
use Rattle.std.proofs.Common.{◌≡◌, ℕ, ◌+◌, ◌*◌, ◌^◌, ◌<◌, ◌≤◌, cond, ltb, Bool, true, false, List, [], ◌∷◌, ◌++◌, length, take, drop, Option, Some, None, inl, inr, sym, ap, ◌∙◌, refl, subst, arith, append_assoc, append-nil}
use Rattle.std.proofs.lemmas.Bool.{cases_lt, cond-true, cond-false, lt-ltb, le-ltb}
use Rattle.std.specs.Prelude.{All, codes, decimal}
use Rattle.std.proofs.lemmas.List.{length_push, length-append, take_all, take-append-le, take-append-drop}
use Rattle.std.proofs.lemmas.List.Elements.{All-nil, All-head, All-tail, All-push}
use Rattle.line_base.specs.Roomy.{RoomyLog, with_date}
use Rattle.line_core.specs.Parts.{LATEST_GIVEN}
use Rattle.checkpoint.specs.declared.format.Format.{Format}
use Rattle.checkpoint.specs.Text.{date_word, date_words, dates_text}
use Rattle.checkpoint.specs.Reading.{EndsWord, KeepsDates, KeepsLine, TellsCount, TellsDate, TellsDates, TellsPassing}
use Rattle.checkpoint.proofs.WordBytes.{date_word-some}

abbrev pub IsGiven : ℕ → Type 0
IsGiven date = date ≤ LATEST_GIVEN

-- dates that are left to read of a reading in which `number` of them are read
pub record AreLeft (format : Format) (count before number : ℕ) (rest after : List ℕ) : Type 0 where
  pub dates : List ℕ
  pub given : All IsGiven dates
  pub counted : length dates + number ≡ count
  pub is : rest ≡ date_words format before dates ++ after

-- of `count` dates that begin a text, `number` are read, up to the rest of the text
pub record ArePartlyRead (format : Format) (text : List ℕ) (count : ℕ) (dates : List ℕ) (before number : ℕ) (rest : List ℕ) : Type 0 where
  pub counted : length dates ≡ number
  pub given : All IsGiven dates
  pub early : IsGiven before
  pub read : (more after : List ℕ) → rest ≡ date_words format before more ++ after → text ≡ date_words format 0 (dates ++ more) ++ after
  pub tells : (all after : List ℕ) → All IsGiven all → length all ≡ count → EndsWord after → text ≡ date_words format 0 all ++ after → AreLeft format count before number rest after

pub read_none : (format : Format) (text : List ℕ) (count : ℕ) (dates : List ℕ) → dates ≡ [] → ArePartlyRead format text count dates 0 0 text
read_none format text count dates none = record {
  counted = ap length none;
  given = subst (All IsGiven) (sym none) (All-nil IsGiven);
  early = omega arith;
  read = λ more after is. is ∙ ap (λ l. date_words format 0 (l ++ more) ++ after) (sym none);
  tells = λ all after given counted ends is. record {
    dates = all;
    given = given;
    counted = omega (arith, counted);
    is = is;
  };
}

-- what follows a date ends its word
pub ends-date_words : (format : Format) (before : ℕ) (dates after : List ℕ) → EndsWord after → EndsWord (date_words format before dates ++ after)
unfolding date_words
ends-date_words format before [] after ends = ends
ends-date_words format before (date ∷ dates) after ends = refl

module _ (format : Format) (text : List ℕ) (count : ℕ) (dates : List ℕ) (before number : ℕ) (rest : List ℕ) (partly : ArePartlyRead format text count dates before number rest) where
  -- the next date of a reading
  next_told : (read : Option ℕ) (left after : List ℕ) → number < count → TellsDate format before rest read left → EndsWord after → (more : AreLeft format count before number rest after) → (date : ℕ) × (read ≡ Some date) × AreLeft format count date (number + 1) left after
  unfolding date_words
  next_told read left after low tells ends more = next more.dates more.given more.counted more.is
    where
      next : (dates_ : List ℕ) → All IsGiven dates_ → length dates_ + number ≡ count → rest ≡ date_words format before dates_ ++ after → (date : ℕ) × (read ≡ Some date) × AreLeft format count date (number + 1) left after
      next [] given counted is = absurd (omega (arith, counted, low))
      next (date ∷ dates_) given counted is =
          let whole = is ∙ ap (λ l. codes " " ++ l) (append_assoc (date_word format before date) (date_words format date dates_) after) in
          let known = tells date (date_words format date dates_ ++ after) (All-head IsGiven date dates_ given) (ends-date_words format date dates_ after ends) whole in (
            date,
            known.0,
            record {
              dates = dates_;
              given = All-tail IsGiven date dates_ given;
              counted = omega (arith, counted);
              is = known.1;
            },
          )

  pub read_next : (date : ℕ) (left : List ℕ) → number < count → IsGiven date → rest ≡ codes " " ++ (date_word format before date ++ left) → TellsDate format before rest (Some date) left → ArePartlyRead format text count (dates ++ date ∷ []) date (number + 1) left
  unfolding date_words
  read_next date left low given is tells = record {
    counted = omega (arith, length_push dates date, partly.counted);
    given = All-push IsGiven dates date partly.given given;
    early = given;
    read = λ more after rest_is.
        partly.read (date ∷ more) after (is ∙ ap (λ l. codes " " ++ (date_word format before date ++ l)) rest_is ∙ ap (λ l. codes " " ++ l) (sym (append_assoc (date_word format before date) (date_words format date more) after)))
        ∙ ap (λ l. date_words format 0 l ++ after) (sym (append_assoc dates (date ∷ []) more));
    tells = λ all after all_given all_counted ends all_is.
        let found = next_told (Some date) left after low tells ends (partly.tells all after all_given all_counted ends all_is) in
        let same : date ≡ found.0 = cc found.1 in
        subst (λ d. AreLeft format count d (number + 1) left after) (sym same) found.2;
  }

  pub next_missing : (left : List ℕ) → number < count → TellsDate format before rest None left → (all after : List ℕ) → All IsGiven all → length all ≡ count → EndsWord after → text ≡ date_words format 0 all ++ after → ⊥
  next_missing left low tells all after all_given all_counted ends all_is =
      let found = next_told None left after low tells ends (partly.tells all after all_given all_counted ends all_is) in
      cc found.1

  pub read_all : text ≡ date_words format 0 dates ++ rest
  unfolding date_words
  read_all = partly.read [] rest refl ∙ ap (λ l. date_words format 0 l ++ rest) (append-nil dates)

  pub left_after_all : number ≡ count → (all after : List ℕ) → All IsGiven all → length all ≡ count → EndsWord after → text ≡ date_words format 0 all ++ after → rest ≡ after
  unfolding date_words
  left_after_all whole all after all_given all_counted ends all_is = none (partly.tells all after all_given all_counted ends all_is)
    where
      none : AreLeft format count before number rest after → rest ≡ after
      none left = none_left left.dates left.counted left.is
        where
          none_left : (dates_ : List ℕ) → length dates_ + number ≡ count → rest ≡ date_words format before dates_ ++ after → rest ≡ after
          none_left [] counted is = is
          none_left (date ∷ dates_) counted is = absurd (omega (arith, counted, whole))

-- each date takes two bytes at least
pub length-date_words : (format : Format) (before : ℕ) (dates : List ℕ) → IsGiven before → All IsGiven dates → 2 * length dates ≤ length (date_words format before dates)
unfolding date_words
length-date_words format before [] early given = omega arith
length-date_words format before (date ∷ dates) early given =
    let here = All-head IsGiven date dates given in
    let some = date_word-some format before date early here in
    let rest = length-date_words format date dates here (All-tail IsGiven date dates given) in
    omega (arith, some, rest, length-append (date_word format before date) (date_words format date dates))

-- a number of dates that fits in front of them is small
pub count_small : (count : ℕ) (rest after : List ℕ) → length rest < 2 ^ 32 → 2 * count ≤ length after → rest ≡ decimal count ++ after → count < 2 ^ 32
count_small count rest after short fits is = omega (arith, ap length is, length-append (decimal count) after)

-- ---- the dates of a line

-- the parts of the dates of a line, with what follows
pub dates_parts : (format : Format) (dates after : List ℕ) → dates_text format dates ++ after ≡ decimal (length dates) ++ (date_words format 0 dates ++ (codes "\n" ++ after))
unfolding dates_text
dates_parts format dates after =
    append_assoc (decimal (length dates)) (date_words format 0 dates ++ codes "\n") after
    ∙ ap (λ l. decimal (length dates) ++ l) (append_assoc (date_words format 0 dates) (codes "\n") after)

pub dates_read : (format : Format) (text counted dated ended dates : List ℕ) (count : ℕ) → text ≡ decimal count ++ counted → counted ≡ date_words format 0 dates ++ dated → length dates ≡ count → dated ≡ codes "\n" ++ ended → text ≡ dates_text format dates ++ ended
dates_read format text counted dated ended dates count is words same end =
    is
    ∙ ap (λ n. decimal n ++ counted) (sym same)
    ∙ ap (λ l. decimal (length dates) ++ l) (words ∙ ap (λ l. date_words format 0 dates ++ l) end)
    ∙ sym (dates_parts format dates ended)

pub count_told : (format : Format) (text left dates after : List ℕ) (read : Option ℕ) → TellsCount text read left → All IsGiven dates → text ≡ dates_text format dates ++ after → (read ≡ Some (length dates)) × (left ≡ date_words format 0 dates ++ (codes "\n" ++ after))
count_told format text left dates after read tells given is =
    let words = date_words format 0 dates in
    let long = length-date_words format 0 dates (omega arith) given in
    tells (length dates) (words ++ (codes "\n" ++ after)) (omega (arith, long, length-append words (codes "\n" ++ after))) (ends-date_words format 0 dates (codes "\n" ++ after) refl) (is ∙ dates_parts format dates after)

pub line_kept : (format : Format) (text counted dated ended kept : List ℕ) (count room : ℕ) → text ≡ decimal count ++ counted → KeepsDates format count room counted kept dated → dated ≡ codes "\n" ++ ended → KeepsLine format [] count room text kept ended
line_kept format text counted dated ended kept count room is k end = record {
  dates = k.dates;
  given = k.given;
  counted = k.counted;
  is = dates_read format text counted dated ended k.dates count is k.is k.counted end;
  kept_is = k.kept_is;
}

-- where the dates of a line stand next, their number, they, and the end of the line are read
module _ (format : Format) (text counted dates after : List ℕ) (given : All IsGiven dates) (is : text ≡ dates_text format dates ++ after) where
  pub count_missing : TellsCount text None counted → ⊥
  count_missing tells =
      let known = count_told format text counted dates after None tells given is in
      cc known.0

  module _ (count : ℕ) (tells : TellsCount text (Some count) counted) where
    dates_left : (read : Bool) (dated : List ℕ) → TellsDates format count counted read dated → (read ≡ true) × (dated ≡ codes "\n" ++ after)
    dates_left read dated tells_dates =
        let known = count_told format text counted dates after (Some count) tells given is in
        let same : length dates ≡ count = cc known.0 in
        tells_dates dates (codes "\n" ++ after) given same refl known.1

    pub dates_missing : (dated : List ℕ) → TellsDates format count counted false dated → ⊥
    dates_missing dated tells_dates =
        let read = dates_left false dated tells_dates in
        cc read.0

    pub end_missing : (read : Bool) (dated left : List ℕ) → TellsDates format count counted read dated → TellsPassing (codes "\n") dated false left → ⊥
    end_missing read dated left tells_dates tells_end =
        let passed = tells_end after (dates_left read dated tells_dates).1 in
        cc passed.0

-- ---- dates of which the first are kept

-- of `count` dates `number` are read, and the first `room` of these are kept
pub record ArePartlyKept (format : Format) (text : List ℕ) (count room : ℕ) (kept : List ℕ) (before number : ℕ) (rest : List ℕ) : Type 0 where
  pub dates : List ℕ
  pub partly : ArePartlyRead format text count dates before number rest
  pub kept_is : kept ≡ take room dates

pub kept_none : (format : Format) (text : List ℕ) (count room : ℕ) (kept : List ℕ) → kept ≡ [] → ArePartlyKept format text count room kept 0 0 text
kept_none format text count room kept none = record {
  dates = [];
  partly = read_none format text count [] refl;
  kept_is = none ∙ sym (take_all room [] (omega arith));
}

pub kept_few : (format : Format) (text : List ℕ) (count room : ℕ) (kept : List ℕ) (before number : ℕ) (rest : List ℕ) → ArePartlyKept format text count room kept before number rest → length kept ≤ number
kept_few format text count room kept before number rest k =
    omega (arith, k.partly.counted, ap length k.kept_is, ap length (take-append-drop room k.dates), length-append (take room k.dates) (drop room k.dates))

-- a date is kept while there is room
pub date_kept : (log now : RoomyLog) (number room date : ℕ) (dates : List ℕ) → length dates ≡ number → log.dates ≡ take room dates → now ≡ cond (ltb number room) (with_date log date) log → (now.dates ≡ take room (dates ++ date ∷ [])) × (now.room ≡ log.room)
date_kept log now number room date dates counted kept is =
    elim (cases_lt number room) [
      | inl low ↦
          let same = is ∙ cond-true (ltb number room) (with_date log date) log (lt-ltb number room low) in (
            ap (λ (l : RoomyLog). l.dates) same
                ∙ ap (λ l. l ++ date ∷ []) (kept ∙ take_all room dates (omega (arith, counted, low)))
                ∙ sym (take_all room (dates ++ date ∷ []) (omega (arith, counted, low, length_push dates date))),
            ap (λ (l : RoomyLog). l.room) same,
          )
      | inr past ↦
          let same = is ∙ cond-false (ltb number room) (with_date log date) log (le-ltb number room past) in (
            ap (λ (l : RoomyLog). l.dates) same ∙ kept ∙ sym (take-append-le room dates (date ∷ []) (omega (arith, counted, past))),
            ap (λ (l : RoomyLog). l.room) same,
          )
    ]
