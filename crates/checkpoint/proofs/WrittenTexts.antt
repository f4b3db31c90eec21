-- Texts that are written part by part: what is written, with what is left, is the whole.
use Rattle.std.proofs.Common.{◌≡◌, ℕ, suc, ◌+◌, ◌-◌, ◌<◌, ◌≤◌, List, [], ◌∷◌, ◌++◌, length, drop, get_or, cond, filter, sym, ap, ◌∙◌, refl, append_assoc, append-nil, arith}
use Rattle.std.specs.Prelude.{codes, decimal, nat_lt, Result, Ok, Err, is_ok, IfOk, ⊤}
use Rattle.std.proofs.lemmas.Bool.{lt-ltb, le-ltb}
use Rattle.std.specs.List.{flat_map, range_with_len}
use Rattle.std.proofs.lemmas.List.{drop_more, get_or-drop, drop-drop, drop_all}
use Rattle.std.proofs.lemmas.List.Concat.{flat_map-append}
use Rattle.std.proofs.lemmas.List.Elements.{filter-append}
use Rattle.std.proofs.lemmas.List.FromFn.{get_or-map-range_with_len, length-map-range_with_len}
use Rattle.line_core.specs.Parts.{list_at}
use Rattle.checkpoint.specs.declared.format.Format.{Format}
use Rattle.checkpoint.specs.declared.format.Format.TheVariants.{Differences}
use Rattle.line_base.specs.declared.event.Parts.{Parts}
use Rattle.line_base.proofs.RangeLists.{range-more}
use Rattle.event_graph.specs.Network.{arc_count, delay, stations, label}
use Rattle.checkpoint.specs.Text.{date_word, date_words, dates_text, delayed_arcs, delay_words, delays_line, station_words, place_words, station_lines, place_lines, Line, Fixed, Dated, lines_text}
use Rattle.checkpoint.specs.Writing.{date_before, words_from}

-- the word of a date that is earlier than the one before it
pub word-earlier : (before date : ℕ) → date < before → date_word Differences before date ≡ codes "-" ++ decimal (before - date)
word-earlier before date early =
    ap (λ b. cond b (codes "-" ++ decimal (before - date)) (decimal (date - before))) (lt-ltb date before early)

-- and of one that isn't
pub word-later : (before date : ℕ) → before ≤ date → date_word Differences before date ≡ decimal (date - before)
word-later before date late =
    ap (λ b. cond b (codes "-" ++ decimal (before - date)) (decimal (date - before))) (le-ltb date before late)

-- no date is left
pub words_from-none : (dates : List ℕ) (k : ℕ) → length dates ≤ k → words_from dates k ≡ []
unfolding words_from date_words
words_from-none dates k past = ap (date_words Differences (date_before dates k)) (drop_all k dates past)

-- the next date follows this one
before-next : (dates : List ℕ) (k : ℕ) → date_before dates (k + 1) ≡ get_or dates k 0
before-next dates k =
    let next : k + 1 ≡ suc k = omega arith in
    ap (date_before dates) next

-- the word of date number k, and those of the dates behind it
pub words_from-next : (dates : List ℕ) (k j : ℕ) → k + 1 ≡ j → k < length dates → words_from dates k ≡ codes " " ++ (date_word Differences (date_before dates k) (get_or dates k 0) ++ words_from dates j)
unfolding words_from date_words
words_from-next dates k j next low =
    let word = date_word Differences (date_before dates k) (get_or dates k 0) in
    ap (date_words Differences (date_before dates k)) (drop_more dates k 0 low)
    ∙ ap (λ b. codes " " ++ (word ++ date_words Differences b (drop (k + 1) dates))) (sym (before-next dates k))
    ∙ ap (λ n. codes " " ++ (word ++ words_from dates n)) next

-- one more word is written in front of those of the dates behind it
pub words_before : (dates : List ℕ) (k j to before : ℕ) (ended worded spaced : List ℕ) → k + 1 ≡ j → k < length dates → before ≡ date_before dates k → ended ++ words_from dates to ≡ words_from dates j → worded ≡ date_word Differences before (get_or dates k 0) ++ ended → spaced ≡ codes " " ++ worded → spaced ++ words_from dates to ≡ words_from dates k
words_before dates k j to before ended worded spaced next low is rest word space =
    let last = words_from dates to in
    let text = date_word Differences (date_before dates k) (get_or dates k 0) in
    ap (λ l. l ++ last) (space ∙ ap (λ l. codes " " ++ l) (word ∙ ap (λ b. date_word Differences b (get_or dates k 0) ++ ended) is))
    ∙ append_assoc (codes " ") (text ++ ended) last
    ∙ ap (λ l. codes " " ++ l) (append_assoc text ended last ∙ ap (λ l. text ++ l) rest)
    ∙ sym (words_from-next dates k j next low)

-- the number of the dates, their words, and the end of the line
pub dates_written : (format : Format) (start counted written ended : List ℕ) (dates : List ℕ) → counted ≡ start ++ decimal (length dates) → written ≡ counted ++ date_words format 0 dates → ended ≡ written ++ codes "\n" → ended ≡ start ++ dates_text format dates
unfolding dates_text
dates_written format start counted written ended dates count words end =
    end
    ∙ ap (λ l. l ++ codes "\n") (words ∙ ap (λ l. l ++ date_words format 0 dates) count)
    ∙ append_assoc (start ++ decimal (length dates)) (date_words format 0 dates) (codes "\n")
    ∙ append_assoc start (decimal (length dates)) (date_words format 0 dates ++ codes "\n")

-- the lines from number k on, where this one has dates
pub filled_at : (format : Format) (lns : List Line) (lists : List (List ℕ)) (k : ℕ) (words : List ℕ) → k < length lns → get_or lns k (Fixed []) ≡ Dated words → lines_text format (drop k lns) (drop k lists) ≡ words ++ (dates_text format (list_at lists k) ++ lines_text format (drop (k + 1) lns) (drop (k + 1) lists))
unfolding lines_text
filled_at format lns lists k words low line =
    ap (λ l. lines_text format l (drop k lists)) (drop_more lns k (Fixed []) low ∙ ap (λ l. l ∷ drop (k + 1) lns) line)
    ∙ ap (λ l. words ++ (dates_text format l ++ lines_text format (drop (k + 1) lns) (drop 1 (drop k lists)))) (get_or-drop k lists 0 [] ∙ ap (λ n. get_or lists n []) (add_zero k))
    ∙ ap (λ l. words ++ (dates_text format (list_at lists k) ++ lines_text format (drop (k + 1) lns) l)) (drop-drop 1 k lists)
  where
    add_zero : (n : ℕ) → n + 0 ≡ n
    add_zero n = omega arith

-- one more line is written
pub line_step : (format : Format) (lns : List Line) (lists : List (List ℕ)) (k : ℕ) (words before written after whole : List ℕ) → k < length lns → get_or lns k (Fixed []) ≡ Dated words → before ++ lines_text format (drop k lns) (drop k lists) ≡ whole → written ≡ before ++ words → after ≡ written ++ dates_text format (list_at lists k) → after ++ lines_text format (drop (k + 1) lns) (drop (k + 1) lists) ≡ whole
line_step format lns lists k words before written after whole low line h w d =
    let rest = lines_text format (drop (k + 1) lns) (drop (k + 1) lists) in
    let text = dates_text format (list_at lists k) in
    ap (λ l. l ++ rest) (d ∙ ap (λ l. l ++ text) w)
    ∙ append_assoc (before ++ words) text rest
    ∙ append_assoc before words (text ++ rest)
    ∙ ap (λ l. before ++ l) (sym (filled_at format lns lists k words low line))
    ∙ h

-- no line is left
pub lines_end : (format : Format) (lns : List Line) (lists : List (List ℕ)) (k : ℕ) (written whole : List ℕ) → length lns ≤ k → written ++ lines_text format (drop k lns) (drop k lists) ≡ whole → written ≡ whole
unfolding lines_text
lines_end format lns lists k written whole past h =
    sym (append-nil written) ∙ ap (λ l. written ++ lines_text format l (drop k lists)) (sym (drop_all k lns past)) ∙ h

-- ---- the arcs with a delay

unfoldable pub delayed_below : Parts → ℕ → List ℕ
delayed_below g n = filter (λ a. nat_lt 0 (delay g a)) (range_with_len 0 n)

pub delayed_below-all : (g : Parts) → delayed_below g (arc_count g) ≡ delayed_arcs g
unfolding delayed_below delayed_arcs
delayed_below-all g = refl

pub delayed_below-0 : (g : Parts) → delayed_below g 0 ≡ []
unfolding delayed_below
delayed_below-0 g = refl

pub delayed_below-yes : (g : Parts) (n : ℕ) → 0 < delay g n → delayed_below g (n + 1) ≡ delayed_below g n ++ n ∷ []
unfolding delayed_below
delayed_below-yes g n late =
    ap (filter (λ a. nat_lt 0 (delay g a))) (range-more n)
    ∙ filter-append (λ a. nat_lt 0 (delay g a)) (range_with_len 0 n) (n ∷ [])
    ∙ ap (λ b. filter (λ a. nat_lt 0 (delay g a)) (range_with_len 0 n) ++ cond b (n ∷ []) []) (lt-ltb 0 (delay g n) late)

pub delayed_below-no : (g : Parts) (n : ℕ) → delay g n ≤ 0 → delayed_below g (n + 1) ≡ delayed_below g n
unfolding delayed_below
delayed_below-no g n none =
    ap (filter (λ a. nat_lt 0 (delay g a))) (range-more n)
    ∙ filter-append (λ a. nat_lt 0 (delay g a)) (range_with_len 0 n) (n ∷ [])
    ∙ ap (λ b. filter (λ a. nat_lt 0 (delay g a)) (range_with_len 0 n) ++ cond b (n ∷ []) []) (le-ltb 0 (delay g n) none)
    ∙ append-nil _

-- the words of the arcs with a delay below n, and of the next
pub delay_words-more : (g : Parts) (n : ℕ) → 0 < delay g n → flat_map (delay_words g) (delayed_below g (n + 1)) ≡ flat_map (delay_words g) (delayed_below g n) ++ delay_words g n
delay_words-more g n late =
    ap (flat_map (delay_words g)) (delayed_below-yes g n late)
    ∙ flat_map-append (delay_words g) (delayed_below g n) (n ∷ [])
    ∙ ap (λ l. flat_map (delay_words g) (delayed_below g n) ++ l) (append-nil (delay_words g n))

pub delay_words-same : (g : Parts) (n : ℕ) → delay g n ≤ 0 → flat_map (delay_words g) (delayed_below g (n + 1)) ≡ flat_map (delay_words g) (delayed_below g n)
delay_words-same g n none = ap (flat_map (delay_words g)) (delayed_below-no g n none)

-- the parts of the line of the delays
pub delays_written : (g : Parts) (start counted written : List ℕ) → counted ≡ start ++ (codes "delays " ++ decimal (length (delayed_arcs g))) → written ≡ counted ++ flat_map (delay_words g) (delayed_arcs g) → written ++ codes "\n" ≡ start ++ delays_line g
unfolding delays_line
delays_written g start counted written count words =
    let delays = flat_map (delay_words g) (delayed_arcs g) in
    let number = decimal (length (delayed_arcs g)) in
    ap (λ l. l ++ codes "\n") (words ∙ ap (λ l. l ++ delays) count)
    ∙ append_assoc (start ++ (codes "delays " ++ number)) delays (codes "\n")
    ∙ append_assoc start (codes "delays " ++ number) (delays ++ codes "\n")
    ∙ ap (λ l. start ++ l) (append_assoc (codes "delays ") number (delays ++ codes "\n"))

-- ---- the lines of stations and arcs

pub length-station_lines : (g : Parts) → length (station_lines g) ≡ stations g
unfolding station_lines
length-station_lines g = length-map-range_with_len (λ t. Dated (station_words g t)) 0 (stations g)

pub station_line_at : (g : Parts) (t : ℕ) → t < stations g → get_or (station_lines g) t (Fixed []) ≡ Dated (station_words g t)
unfolding station_lines
station_line_at g t there = get_or-map-range_with_len (λ k. Dated (station_words g k)) 0 (stations g) t t (Fixed []) there (omega arith)

pub length-place_lines : (g : Parts) → length (place_lines g) ≡ arc_count g
unfolding place_lines
length-place_lines g = length-map-range_with_len (λ a. Dated (place_words a)) 0 (arc_count g)

pub place_line_at : (g : Parts) (a : ℕ) → a < arc_count g → get_or (place_lines g) a (Fixed []) ≡ Dated (place_words a)
unfolding place_lines
place_line_at g a there = get_or-map-range_with_len (λ k. Dated (place_words k)) 0 (arc_count g) a a (Fixed []) there (omega arith)

pub station_words_written : (g : Parts) (t : ℕ) (start named labelled spaced label' : List ℕ) → named ≡ start ++ codes "station " → labelled ≡ named ++ label' → spaced ≡ labelled ++ codes " " → label' ≡ label g t → spaced ≡ start ++ station_words g t
unfolding station_words
station_words_written g t start named labelled spaced label' name text space is =
    space
    ∙ ap (λ l. l ++ codes " ") (text ∙ ap (λ l. l ++ label') name ∙ ap (λ l. (start ++ codes "station ") ++ l) is)
    ∙ append_assoc (start ++ codes "station ") (label g t) (codes " ")
    ∙ append_assoc start (codes "station ") (label g t ++ codes " ")

pub place_written : (a : ℕ) (start numbered spaced written dates : List ℕ) → numbered ≡ start ++ (codes "place " ++ decimal a) → spaced ≡ numbered ++ codes " " → written ≡ spaced ++ dates → written ≡ start ++ (place_words a ++ dates)
unfolding place_words
place_written a start numbered spaced written dates number space dated =
    let words = codes "place " ++ decimal a in
    dated
    ∙ ap (λ l. l ++ dates) (space ∙ ap (λ l. l ++ codes " ") number ∙ append_assoc start words (codes " ") ∙ ap (λ l. start ++ l) (append_assoc (codes "place ") (decimal a) (codes " ")))
    ∙ append_assoc start (codes "place " ++ (decimal a ++ codes " ")) dates

-- ---- the end of a function that writes

pub ok_appended : {E : Type 0} (r : Result ⊤ E) (new old tail want : List ℕ) → new ≡ cond (is_ok r) (old ++ tail) old → old ++ tail ≡ want → IfOk r (λ _. new ≡ want)
ok_appended (Ok x) new old tail want is h = is ∙ h
ok_appended (Err e) new old tail want is h = tt

pub ok_then : {E : Type 0} {P Q : Type 0} (r : Result ⊤ E) → IfOk r (λ _. P) → (P → Q) → IfOk r (λ _. Q)
ok_then (Ok x) holds f = f holds
ok_then (Err e) holds f = tt
