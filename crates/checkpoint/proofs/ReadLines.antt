-- Lines that are read one after the other, and the first that can't be read.
use Rattle.std.proofs.Common.{◌≡◌, ◌≢◌, ℕ, zero, suc, ◌+◌, ◌-◌, ◌^◌, ◌<◌, ◌≤◌, List, [], ◌∷◌, ◌++◌, length, take, drop, get_or, sym, ap, ◌∙◌, refl, subst, arith, append_assoc, append-nil}
use Rattle.std.specs.Prelude.{All, codes, decimal}
use Rattle.std.proofs.lemmas.List.{length-append, get_or-append-add, get_or_append_left, take_more, take_all, length_push, map_push, take-append-drop, drop_all}
use Rattle.std.proofs.lemmas.List.Elements.{All-nil, All-push, All-drop}
use Rattle.line_base.specs.declared.event.Parts.{Parts}
use Rattle.event_graph.specs.Network.{stations, arc_count, label}
use Rattle.line_core.specs.Parts.{list_at}
use Rattle.checkpoint.specs.declared.format.Format.{Format}
use Rattle.checkpoint.specs.declared.format.Format.TheVariants.{Dates, Differences}
use Rattle.checkpoint.specs.Text.{dates_text, Line, Fixed, Dated, lines_text, lines, head_lines, delayed_arcs, delays_line, station_words, place_words, station_lines, place_lines, IsReadFor}
use Rattle.checkpoint.specs.Given.{AreGiven}
use Rattle.line_base.specs.Roomy.{RoomyLog, RoomyLogs, dates_of}
use Rattle.checkpoint.specs.declared.error.CheckpointError.{CheckpointError}
use Rattle.checkpoint.specs.declared.error.CheckpointError.TheVariants.{Line as LineError}
use Rattle.checkpoint.specs.declared.error.Stop.{Stop}
use Rattle.checkpoint.specs.declared.error.Stop.TheVariants.{Form, Memory}
use Rattle.checkpoint.specs.Answers.{stopped_at, Tells}
use Rattle.checkpoint.specs.FirstBadLine.{BeginsWell, IsFirstBadLine}
use Rattle.checkpoint.specs.Reading.{Reading, HasRead, head_count, dated_line_count}
use Rattle.checkpoint.proofs.WrittenTexts.{length-station_lines, station_line_at, length-place_lines, place_line_at}
use Rattle.checkpoint.proofs.FilledTexts.{filled-append}
use Rattle.checkpoint.proofs.ReadDates.{IsGiven}
use Rattle.checkpoint.proofs.Unique.{filled-unique, short_lists, given_at}

-- ---- which line stands where

-- the line with this number, counted from 0
abbrev pub line_at : Format → Parts → ℕ → Line
line_at format g n = get_or (lines format g) n (Fixed [])

pub some_head : (format : Format) → 1 ≤ head_count format
some_head Dates = omega arith
some_head Differences = omega arith

pub length-head_lines : (format : Format) (g : Parts) → length (head_lines format g) ≡ head_count format
length-head_lines Dates g = refl
length-head_lines Differences g = refl

pub length-lines : (format : Format) (g : Parts) → length (lines format g) ≡ head_count format + stations g + arc_count g + 1
unfolding lines
length-lines format g =
    let whole = length-append (head_lines format g) (station_lines g ++ (place_lines g ++ Fixed (codes "end\n") ∷ [])) in
    let back = length-append (station_lines g) (place_lines g ++ Fixed (codes "end\n") ∷ []) in
    let end = length-append (place_lines g) (Fixed (codes "end\n") ∷ []) in
    omega (arith, whole, back, end, length-head_lines format g, length-station_lines g, length-place_lines g)

-- behind the first lines
after_head : (format : Format) (g : Parts) (k n : ℕ) → head_count format + k ≡ n → line_at format g n ≡ get_or (station_lines g ++ (place_lines g ++ Fixed (codes "end\n") ∷ [])) k (Fixed [])
unfolding lines
after_head format g k n is =
    ap (λ m. get_or (lines format g) m (Fixed [])) (sym is ∙ ap (λ m. m + k) (sym (length-head_lines format g)))
    ∙ get_or-append-add (head_lines format g) _ k (Fixed [])

pub line_at-station : (format : Format) (g : Parts) (t n : ℕ) → head_count format + t ≡ n → t < stations g → line_at format g n ≡ Dated (station_words g t)
line_at-station format g t n is there =
    after_head format g t n is
    ∙ get_or_append_left (station_lines g) (place_lines g ++ Fixed (codes "end\n") ∷ []) (Fixed []) t (omega (arith, there, length-station_lines g))
    ∙ station_line_at g t there

-- behind the lines of the stations
after_stations : (format : Format) (g : Parts) (k n : ℕ) → head_count format + stations g + k ≡ n → line_at format g n ≡ get_or (place_lines g ++ Fixed (codes "end\n") ∷ []) k (Fixed [])
after_stations format g k n is =
    after_head format g (length (station_lines g) + k) n (omega (arith, is, length-station_lines g))
    ∙ get_or-append-add (station_lines g) (place_lines g ++ Fixed (codes "end\n") ∷ []) k (Fixed [])

pub line_at-place : (format : Format) (g : Parts) (a n : ℕ) → head_count format + stations g + a ≡ n → a < arc_count g → line_at format g n ≡ Dated (place_words a)
line_at-place format g a n is there =
    after_stations format g a n is
    ∙ get_or_append_left (place_lines g) (Fixed (codes "end\n") ∷ []) (Fixed []) a (omega (arith, there, length-place_lines g))
    ∙ place_line_at g a there

pub line_at-end : (format : Format) (g : Parts) (n : ℕ) → head_count format + stations g + arc_count g ≡ n → line_at format g n ≡ Fixed (codes "end\n")
line_at-end format g n is =
    after_stations format g (length (place_lines g) + 0) n (omega (arith, is, length-place_lines g))
    ∙ get_or-append-add (place_lines g) (Fixed (codes "end\n") ∷ []) 0 (Fixed [])

-- ---- the two formats

-- the number in the first line
format_byte : Format → ℕ
format_byte Dates = 49
format_byte Differences = 50

-- the words of the first line
abbrev pub title : Format → List ℕ
title Dates = codes "pull-checkpoint 1\n"
title Differences = codes "pull-checkpoint 2\n"

pub line_at-title : (format : Format) (g : Parts) → line_at format g 0 ≡ Fixed (title format)
unfolding lines
line_at-title Dates g = refl
line_at-title Differences g = refl

pub line_at-delays : (g : Parts) → line_at Differences g 1 ≡ Fixed (delays_line g)
unfolding lines
line_at-delays g = refl

title_at : (format : Format) (g : Parts) (n : ℕ) (lists : List (List ℕ)) (rest : List ℕ) → get_or (lines_text format (take (suc n) (lines format g)) lists ++ rest) 16 0 ≡ format_byte format
unfolding lines lines_text format_byte
title_at Dates g n lists rest = refl
title_at Differences g n lists rest = refl

title_told : (format : Format) (g : Parts) (n : ℕ) (lists : List (List ℕ)) (rest text : List ℕ) → 1 ≤ n → text ≡ lines_text format (take n (lines format g)) lists ++ rest → get_or text 16 0 ≡ format_byte format
title_told format g zero lists rest text some is = absurd (omega (arith, some))
title_told format g (suc n) lists rest text some is = ap (λ l. get_or l 16 0) is ∙ title_at format g n lists rest

bytes_differ : format_byte Dates ≡ format_byte Differences → ⊥
unfolding format_byte
bytes_differ e = omega (arith, e)

-- a text with a first line has one format
pub one_format : (f h : Format) (g : Parts) (n m : ℕ) (ls ms : List (List ℕ)) (r s text : List ℕ) → 1 ≤ n → 1 ≤ m → text ≡ lines_text f (take n (lines f g)) ls ++ r → text ≡ lines_text h (take m (lines h g)) ms ++ s → f ≡ h
one_format f h g n m ls ms r s text some_n some_m is_f is_h =
    same_byte f h (sym (title_told f g n ls r text some_n is_f) ∙ title_told h g m ms s text some_m is_h)
  where
    same_byte : (a b : Format) → format_byte a ≡ format_byte b → a ≡ b
    same_byte Dates Dates e = refl
    same_byte Differences Differences e = refl
    same_byte Dates Differences e = absurd (bytes_differ e)
    same_byte Differences Dates e = absurd (bytes_differ (sym e))

-- ---- one more line

pub dated-append : (xs ys : List Line) → dated_line_count (xs ++ ys) ≡ dated_line_count xs + dated_line_count ys
dated-append [] ys = omega arith
dated-append (Fixed text ∷ xs) ys = dated-append xs ys
dated-append (Dated words ∷ xs) ys = omega (arith, dated-append xs ys)

-- lines that are filled one after the other, from lists of any number
pub filled-split : (format : Format) (xs ys : List Line) (ls : List (List ℕ)) → lines_text format (xs ++ ys) ls ≡ lines_text format xs ls ++ lines_text format ys (drop (dated_line_count xs) ls)
unfolding lines_text
filled-split format [] ys ls = refl
filled-split format (Fixed text ∷ xs) ys ls =
    ap (λ r. text ++ r) (filled-split format xs ys ls) ∙ sym (append_assoc text (lines_text format xs ls) (lines_text format ys (drop (dated_line_count xs) ls)))
filled-split format (Dated words ∷ xs) ys ls =
    let rest = lines_text format ys (drop (dated_line_count xs) (drop 1 ls)) in
    ap (λ r. words ++ (dates_text format (list_at ls 0) ++ r)) (filled-split format xs ys (drop 1 ls))
    ∙ ap (λ r. words ++ r) (sym (append_assoc (dates_text format (list_at ls 0)) (lines_text format xs (drop 1 ls)) rest))
    ∙ sym (append_assoc words (dates_text format (list_at ls 0) ++ lines_text format xs (drop 1 ls)) rest)
    ∙ ap (λ l. (words ++ (dates_text format (list_at ls 0) ++ lines_text format xs (drop 1 ls))) ++ lines_text format ys l) (further ls (dated_line_count xs))
  where
    further : (l : List (List ℕ)) (n : ℕ) → drop n (drop 1 l) ≡ drop (suc n) l
    further [] zero = refl
    further [] (suc n) = refl
    further (x ∷ xs_) n = refl

module _ (format : Format) (g : Parts) (n : ℕ) (lists : List (List ℕ)) (r : Reading) (has : HasRead format g n lists r) where
  pub read_dated : (words dates : List ℕ) (after : Reading) → n < length (lines format g) → line_at format g n ≡ Dated words → r.rest ≡ words ++ (dates_text format dates ++ after.rest) → after.text ≡ r.text → All IsGiven dates → HasRead format g (n + 1) (lists ++ dates ∷ []) after
  unfolding lines_text
  read_dated words dates after low line is text given =
      let more = take_more (lines format g) n (Fixed []) low ∙ ap (λ l. take n (lines format g) ++ l ∷ []) line in
      let read = filled-append format (take n (lines format g)) (Dated words ∷ []) lists (dates ∷ []) has.a_list_each in
      record {
        within = omega arith;
        a_list_each = ap dated_line_count more ∙ dated-append (take n (lines format g)) (Dated words ∷ []) ∙ ap (λ m. m + 1) has.a_list_each ∙ sym (length_push lists dates);
        given = All-push (All IsGiven) lists dates has.given given;
        is =
            text ∙ has.is
            ∙ ap (λ l. lines_text format (take n (lines format g)) lists ++ l) (is ∙ sym (append_assoc words (dates_text format dates) after.rest) ∙ ap (λ l. (words ++ l) ++ after.rest) (sym (append-nil (dates_text format dates))))
            ∙ sym (append_assoc (lines_text format (take n (lines format g)) lists) (words ++ (dates_text format dates ++ [])) after.rest)
            ∙ ap (λ l. l ++ after.rest) (sym read)
            ∙ ap (λ l. lines_text format l (lists ++ dates ∷ []) ++ after.rest) (sym more);
      }

  pub read_fixed : (words : List ℕ) (after : Reading) → n < length (lines format g) → line_at format g n ≡ Fixed words → r.rest ≡ words ++ after.rest → after.text ≡ r.text → HasRead format g (n + 1) lists after
  unfolding lines_text
  read_fixed words after low line is text =
      let more = take_more (lines format g) n (Fixed []) low ∙ ap (λ l. take n (lines format g) ++ l ∷ []) line in
      let read = filled-split format (take n (lines format g)) (Fixed words ∷ []) lists in
      record {
        within = omega arith;
        a_list_each = ap dated_line_count more ∙ dated-append (take n (lines format g)) (Fixed words ∷ []) ∙ same _ ∙ has.a_list_each;
        given = has.given;
        is =
            text ∙ has.is
            ∙ ap (λ l. lines_text format (take n (lines format g)) lists ++ l) (is ∙ ap (λ l. l ++ after.rest) (sym (append-nil words)))
            ∙ sym (append_assoc (lines_text format (take n (lines format g)) lists) (words ++ []) after.rest)
            ∙ ap (λ l. l ++ after.rest) (sym read)
            ∙ ap (λ l. lines_text format l lists ++ after.rest) (sym more);
      }
    where
      same : (m : ℕ) → m + 0 ≡ m
      same m = omega arith

  -- ---- the first line that can't be read

  good : IsReadFor format g → BeginsWell g r.text n
  good read = record {
    format = format;
    read = read;
    lists = lists;
    given = has.given;
    rest = r.rest;
    is = has.is;
    ends = λ past. absurd (omega (arith, past, has.within));
  }

  bad_line : (IsReadFor format g) → ¬ BeginsWell g r.text (n + 1) → IsFirstBadLine g r.text (n + 1)
  bad_line read bad =
      let back : n ≡ n + 1 - 1 = omega arith in
      record { from_one = omega arith; good_before = subst (BeginsWell g r.text) back (good read); bad = bad }

  -- what is left of the text in any other reading that goes as far
  same_rest : (ms : List (List ℕ)) (rest : List ℕ) → length r.text < 2 ^ 64 → AreGiven ms → r.text ≡ lines_text format (take n (lines format g)) ms ++ rest → r.rest ≡ rest
  same_rest ms rest short given is =
      let front = take n (lines format g) in
      let short_ls = short_lists format front lists r.rest has.given (omega (arith, short, ap length has.is)) in
      let short_ms = short_lists format front ms rest given (omega (arith, short, ap length is)) in
      (filled-unique format front lists ms r.rest rest has.given given short_ls short_ms (sym has.is ∙ is)).1

  pub first_bad : IsReadFor format g → 1 ≤ n → n < length (lines format g) → length r.text < 2 ^ 64 → ((ms : List (List ℕ)) (after : List ℕ) → AreGiven ms → r.rest ≡ lines_text format (line_at format g n ∷ []) ms ++ after → ⊥) → IsFirstBadLine g r.text (n + 1)
  first_bad read some low short none = bad_line read bad
    where
      bad : ¬ BeginsWell g r.text (n + 1)
      bad b =
          let front = take n (lines format g) in
          let line = line_at format g n in
          let same = one_format format b.format g n (n + 1) lists b.lists r.rest b.rest r.text some (omega arith) has.is b.is in
          let is = b.is ∙ ap (λ h. lines_text h (take (n + 1) (lines h g)) b.lists ++ b.rest) (sym same) in
          let split =
          ap (λ l. lines_text format l b.lists ++ b.rest) (take_more (lines format g) n (Fixed []) low)
          ∙ ap (λ l. l ++ b.rest) (filled-split format front (line ∷ []) b.lists)
          ∙ append_assoc (lines_text format front b.lists) (lines_text format (line ∷ []) (drop (dated_line_count front) b.lists)) b.rest
          in
          none (drop (dated_line_count front) b.lists) b.rest (All-drop (All IsGiven) (dated_line_count front) b.lists b.given) (same_rest b.lists _ short b.given (is ∙ split))

  pub first_bad_fixed : (words : List ℕ) → IsReadFor format g → 1 ≤ n → n < length (lines format g) → length r.text < 2 ^ 64 → line_at format g n ≡ Fixed words → ((after : List ℕ) → r.rest ≡ words ++ after → ⊥) → IsFirstBadLine g r.text (n + 1)
  unfolding lines_text
  first_bad_fixed words read some low short line none =
      first_bad read some low short
      (λ ms after given is. none after (is ∙ ap (λ l. lines_text format (l ∷ []) ms ++ after) line ∙ ap (λ l. l ++ after) (append-nil words)))

  pub first_bad_dated : (words : List ℕ) → IsReadFor format g → 1 ≤ n → n < length (lines format g) → length r.text < 2 ^ 64 → line_at format g n ≡ Dated words → ((dates after : List ℕ) → All IsGiven dates → r.rest ≡ words ++ (dates_text format dates ++ after) → ⊥) → IsFirstBadLine g r.text (n + 1)
  unfolding lines_text
  first_bad_dated words read some low short line none =
      first_bad read some low short
      (λ ms after given is.
      let text = dates_text format (list_at ms 0) in
      none (list_at ms 0) after (given_at ms given)
      (is ∙ ap (λ l. lines_text format (l ∷ []) ms ++ after) line ∙ ap (λ l. (words ++ l) ++ after) (append-nil text) ∙ append_assoc words text after))

  -- something stands behind the last line
  pub first_bad_rest : IsReadFor format g → n ≡ length (lines format g) → length r.text < 2 ^ 64 → (r.rest ≡ [] → ⊥) → IsFirstBadLine g r.text (n + 1)
  first_bad_rest read all short some = bad_line read bad
    where
      bad : ¬ BeginsWell g r.text (n + 1)
      bad b =
          let whole = length-lines format g in
          let same = one_format format b.format g n (n + 1) lists b.lists r.rest b.rest r.text (omega (arith, whole, all)) (omega arith) has.is b.is in
          let is = b.is ∙ ap (λ h. lines_text h (take (n + 1) (lines h g)) b.lists ++ b.rest) (sym same) in
          let cut = take_all (n + 1) (lines format g) (omega (arith, all)) ∙ sym (take_all n (lines format g) (omega (arith, all))) in
          let rest = same_rest b.lists b.rest short b.given (is ∙ ap (λ l. lines_text format l b.lists ++ b.rest) cut) in
          let none = b.ends (omega (arith, all, ap (λ h. length (lines h g)) same)) in
          some (rest ∙ none)

-- ---- the first lines

pub read_nothing : (format : Format) (g : Parts) (r : Reading) → r.rest ≡ r.text → HasRead format g 0 [] r
unfolding lines_text
read_nothing format g r fresh = record {
  within = omega arith;
  a_list_each = refl;
  given = All-nil (All IsGiven);
  is = sym fresh;
}

-- no first line that may stand there is that of the text
pub first_line_bad : (g : Parts) (text : List ℕ) → ((format : Format) (after : List ℕ) → IsReadFor format g → text ≡ title format ++ after → ⊥) → IsFirstBadLine g text 1
unfolding lines_text
first_line_bad g text none = record {
  from_one = omega arith;
  good_before = record {
    format = Differences;
    read = tt;
    lists = [];
    given = All-nil (All IsGiven);
    rest = text;
    is = refl;
    ends = λ past. absurd (omega (arith, past));
  };
  bad = bad;
}
  where
    first : (format : Format) (lists : List (List ℕ)) (rest : List ℕ) → lines_text format (take 1 (lines format g)) lists ++ rest ≡ title format ++ rest
    first format lists rest =
        ap (λ l. lines_text format l lists ++ rest) (take_more (lines format g) 0 (Fixed []) (omega (arith, length-lines format g)) ∙ ap (λ l. l ∷ []) (line_at-title format g))
        ∙ ap (λ l. l ++ rest) (append-nil (title format))

    bad : ¬ BeginsWell g text 1
    bad b = none b.format b.rest b.read (b.is ∙ first b.format b.lists b.rest)

-- ---- a whole text

-- the text of lists begins well, however far
pub text_begins_well : (format : Format) (g : Parts) (lists : List (List ℕ)) (text : List ℕ) (number : ℕ) → IsReadFor format g → AreGiven lists → text ≡ lines_text format (lines format g) lists → BeginsWell g text number
unfolding lines_text
text_begins_well format g lists text number read given is = record {
  format = format;
  read = read;
  lists = lists;
  given = given;
  rest = lines_text format (drop number (lines format g)) (drop (dated_line_count (take number (lines format g))) lists);
  is = is ∙ ap (λ l. lines_text format l lists) (sym (take-append-drop number (lines format g))) ∙ filled-split format (take number (lines format g)) (drop number (lines format g)) lists;
  ends = λ past. ap (λ l. lines_text format l (drop (dated_line_count (take number (lines format g))) lists)) (drop_all number (lines format g) (omega (arith, past)));
}

-- ---- steps of the loops over stations and arcs

pub station_parts : (g : Parts) (t : ℕ) (after : List ℕ) → station_words g t ++ after ≡ codes "station " ++ (label g t ++ (codes " " ++ after))
unfolding station_words
station_parts g t after =
    append_assoc (codes "station ") (label g t ++ codes " ") after ∙ ap (λ l. codes "station " ++ l) (append_assoc (label g t) (codes " ") after)

pub place_parts : (a : ℕ) (after : List ℕ) → place_words a ++ after ≡ codes "place " ++ (decimal a ++ (codes " " ++ after))
unfolding place_words
place_parts a after =
    append_assoc (codes "place ") (decimal a ++ codes " ") after ∙ ap (λ l. codes "place " ++ l) (append_assoc (decimal a) (codes " ") after)

-- what is left to read is no longer than the text
pub rest_short : (format : Format) (g : Parts) (n : ℕ) (lists : List (List ℕ)) (r : Reading) (most : ℕ) → HasRead format g n lists r → length r.text < most → length r.rest < most
rest_short format g n lists r most has short =
    omega (arith, short, ap length has.is, length-append (lines_text format (take n (lines format g)) lists) r.rest)

-- the error of a line that was not read
pub tells_stop : (g : Parts) (text : List ℕ) (stop : Stop) (number : ℕ) (error : CheckpointError) → error ≡ stopped_at stop number → (stop ≢ Memory → IsFirstBadLine g text number) → Tells g text error
tells_stop g text Form number error is bad = rw is (bad (λ e. cc e))
tells_stop g text Memory number error is bad = rw is tt

pub dates_of-push : (logs : RoomyLogs) (log : RoomyLog) → dates_of (record logs { logs = logs.logs ++ log ∷ [] }) ≡ dates_of logs ++ log.dates ∷ []
dates_of-push logs log = map_push (λ (l : RoomyLog). l.dates) logs.logs log

-- a line with dates that was not read
pub dated_stop : (format : Format) (g : Parts) (n : ℕ) (lists : List (List ℕ)) (r : Reading) (text words : List ℕ) (stop : Stop) (number : ℕ) (error : CheckpointError)
    → HasRead format g n lists r → IsReadFor format g → 1 ≤ n → n < length (lines format g) → length text < 2 ^ 32 → r.text ≡ text → line_at format g n ≡ Dated words
    → ((dates after : List ℕ) → All IsGiven dates → r.rest ≡ words ++ (dates_text format dates ++ after) → stop ≡ Memory)
    → number ≡ n + 1 → error ≡ stopped_at stop number → Tells g text error
dated_stop format g n lists r text words stop number error has read some low short same line known is_number is =
    let short_text : length r.text < 2 ^ 64 = omega (arith, short, ap length same) in
    tells_stop g text stop number error is
    (λ other.
    let bad = first_bad_dated format g n lists r has words read some low short_text line (λ dates after given rest. other (known dates after given rest)) in
    rw (is_number) (subst (λ t. IsFirstBadLine g t (n + 1)) same bad))

-- ---- the ends of a text

pub head_bad : (g : Parts) (text : List ℕ) → ((after : List ℕ) → text ≡ title Differences ++ after → ⊥) → ((after : List ℕ) → delayed_arcs g ≡ [] → text ≡ title Dates ++ after → ⊥) → Tells g text (LineError 1)
head_bad g text differ dates = first_line_bad g text none
  where
    none : (format : Format) (after : List ℕ) → IsReadFor format g → text ≡ title format ++ after → ⊥
    none Dates after read is = dates after read is
    none Differences after read is = differ after is

pub head_read : (format : Format) (g : Parts) (r after : Reading) → r.rest ≡ r.text → r.rest ≡ title format ++ after.rest → after.text ≡ r.text → HasRead format g 1 [] after
head_read format g r after fresh is same =
    read_fixed format g 0 [] r (read_nothing format g r fresh) (title format) after (omega (arith, length-lines format g)) (line_at-title format g) is same

pub delays_bad : (g : Parts) (r : Reading) (text : List ℕ) → HasRead Differences g 1 [] r → length text < 2 ^ 32 → r.text ≡ text → ((after : List ℕ) → r.rest ≡ delays_line g ++ after → ⊥) → Tells g text (LineError 2)
delays_bad g r text has short same none =
    subst (λ t. IsFirstBadLine g t 2) same
    (first_bad_fixed Differences g 1 [] r has (delays_line g) tt (omega arith) (omega (arith, length-lines Differences g)) (omega (arith, short, ap length same)) (line_at-delays g) none)

pub delays_read : (g : Parts) (r after : Reading) → HasRead Differences g 1 [] r → r.rest ≡ delays_line g ++ after.rest → after.text ≡ r.text → HasRead Differences g 2 [] after
delays_read g r after has is same =
    read_fixed Differences g 1 [] r has (delays_line g) after (omega (arith, length-lines Differences g)) (line_at-delays g) is same

module _ (format : Format) (g : Parts) (n : ℕ) (lists : List (List ℕ)) (r : Reading) (text : List ℕ) (has : HasRead format g n lists r) (short : length text < 2 ^ 32) (same : r.text ≡ text) (is_end : head_count format + stations g + arc_count g ≡ n) where
  pub end_bad : IsReadFor format g → ((after : List ℕ) → r.rest ≡ codes "end\n" ++ after → ⊥) → IsFirstBadLine g text (n + 1)
  end_bad read none =
      subst (λ t. IsFirstBadLine g t (n + 1)) same
      (first_bad_fixed format g n lists r has (codes "end\n") read (omega (arith, is_end, some_head format)) (omega (arith, is_end, length-lines format g)) (omega (arith, short, ap length same)) (line_at-end format g n is_end) none)

  pub end_read : (after : Reading) → r.rest ≡ codes "end\n" ++ after.rest → after.text ≡ r.text → HasRead format g (n + 1) lists after
  end_read after is text_same =
      read_fixed format g n lists r has (codes "end\n") after (omega (arith, is_end, length-lines format g)) (line_at-end format g n is_end) is text_same

pub rest_bad : (format : Format) (g : Parts) (n : ℕ) (lists : List (List ℕ)) (r : Reading) (text : List ℕ) → HasRead format g n lists r → IsReadFor format g → n ≡ length (lines format g) → length text < 2 ^ 32 → r.text ≡ text → (r.rest ≡ [] → ⊥) → IsFirstBadLine g text (n + 1)
rest_bad format g n lists r text has read all short same some =
    subst (λ t. IsFirstBadLine g t (n + 1)) same
    (first_bad_rest format g n lists r has read all (omega (arith, short, ap length same)) some)

-- all lines are read, and nothing is left
pub whole_read : (format : Format) (g : Parts) (n : ℕ) (lists : List (List ℕ)) (r : Reading) → HasRead format g n lists r → n ≡ length (lines format g) → r.rest ≡ [] → r.text ≡ lines_text format (lines format g) lists
whole_read format g n lists r has all none =
    has.is
    ∙ ap (λ l. lines_text format (take n (lines format g)) lists ++ l) none
    ∙ append-nil (lines_text format (take n (lines format g)) lists)
    ∙ ap (λ l. lines_text format l lists) (take_all n (lines format g) (omega (arith, all)))
