-- What contracts see of a `Reader`, and how far it has come.
use Rattle.std.specs.Prelude.{◌≡◌, ℕ, suc, ◌+◌, ◌*◌, ◌≤◌, ◌==◌, ◌||◌, not, Bool, true, false, List, [], ◌∷◌, ◌++◌, length, map, slice_index, slice_index_or, take, All, codes, decimal, Option, None, Some, Result, IfErr}
use Rattle.line_base.specs.Roomy.{RoomyLogs, dates_of}
use Rattle.event_graph.specs.Network.{stations, jobs, arc_count}
use Rattle.line_core.specs.declared.error.StateError.{StateError}
use Rattle.line_core.specs.declared.error.StateError.TheVariants.{PlaceDate}
use Rattle.line_core.specs.Consistent.{tokens_left}
use Rattle.line_core.specs.Parts.{LATEST_GIVEN, list_at, refuse_if, each_below, first, long_log, long_logs}
use Rattle.line_core.specs.Marked.{HaveCounts}
use Rattle.event_graph.specs.State.{State}
use Rattle.checkpoint.specs.Answers.{Says}
use Rattle.checkpoint.specs.declared.error.Stop.{Stop}
use Rattle.checkpoint.specs.declared.error.Stop.TheVariants.{Memory}
use Rattle.line_base.specs.declared.event.Parts.{Parts}
use Rattle.checkpoint.specs.declared.format.Format.{Format}
use Rattle.checkpoint.specs.declared.format.Format.TheVariants.{Dates, Differences}
use Rattle.checkpoint.specs.Text.{date_word, date_words, dates_text, place_words, Line, Fixed, Dated, lines, lines_text}
use Rattle.checkpoint.specs.Given.{AreGivenDates, AreGiven}

-- a text, and what of it is left to read
pub record Reading : Type 0 where
  pub text : List ℕ
  pub rest : List ℕ

-- a byte of a word: no space, and no line feed
abbrev pub is_word_byte : ℕ → Bool
is_word_byte byte = not (byte == 32 || byte == 10)

-- a word that stands before this ends there
abbrev pub EndsWord : List ℕ → Type 0
EndsWord rest = is_word_byte (slice_index_or rest 0 10) ≡ false

-- ---- what a reading gives: `before` is what was left to read, `left` what is left now

-- a text is passed over wherever it stands next
abbrev pub TellsPassing : List ℕ → List ℕ → Bool → List ℕ → Type 0
TellsPassing expected before passed left =
    (after : List ℕ) → before ≡ expected ++ after → (passed ≡ true) × (left ≡ after)

-- a word is read wherever it stands next, with its end behind it
abbrev pub TellsWord : List ℕ → List ℕ → List ℕ → Type 0
TellsWord before read left =
    (word after : List ℕ) → All (λ byte. is_word_byte byte ≡ true) word → EndsWord after
    → before ≡ word ++ after
    → (read ≡ word) × (left ≡ after)

-- a number of dates, which take two bytes each at least
abbrev pub TellsCount : List ℕ → Option ℕ → List ℕ → Type 0
TellsCount before read left =
    (count : ℕ) (after : List ℕ) → 2 * count ≤ length after → EndsWord after
    → before ≡ decimal count ++ after
    → (read ≡ Some count) × (left ≡ after)

-- a date that follows `last`, behind a space
abbrev pub TellsDate : Format → ℕ → List ℕ → Option ℕ → List ℕ → Type 0
TellsDate format last before read left =
    (date : ℕ) (after : List ℕ) → date ≤ LATEST_GIVEN → EndsWord after
    → before ≡ codes " " ++ (date_word format last date ++ after) → (read ≡ Some date)
    × (left ≡ after)

-- this many dates
abbrev pub TellsDates : Format → ℕ → List ℕ → Bool → List ℕ → Type 0
TellsDates format count before read left =
    (dates after : List ℕ) → AreGivenDates dates → length dates ≡ count → EndsWord after
    → before ≡ date_words format 0 dates ++ after → (read ≡ true) × (left ≡ after)

-- these words, and behind them a line's dates
abbrev pub ReadsLine : Format → List ℕ → List ℕ → List ℕ → List ℕ → Type 0
ReadsLine format words before dates left = before ≡ words ++ (dates_text format dates ++ left)

-- where such a line stands next, memory alone stops its reading
abbrev pub TellsLine : {A : Type 0} → Format → List ℕ → List ℕ → Result A Stop → Type 0
TellsLine format words before read =
    (dates after : List ℕ) → AreGivenDates dates → ReadsLine format words before dates after
    → IfErr read (λ stop. stop ≡ Memory)

-- `count` dates are read, of which the first `room` are kept
pub record KeepsDates (format : Format) (count room : ℕ) (before kept left : List ℕ) : Type 0 where
  pub dates : List ℕ
  pub given : AreGivenDates dates
  pub counted : length dates ≡ count
  pub is : before ≡ date_words format 0 dates ++ left
  pub kept_is : kept ≡ take room dates

-- and so the dates of a line, which begins with these words
pub record KeepsLine (format : Format) (words : List ℕ) (count room : ℕ) (before kept left : List ℕ)
    : Type 0 where
  pub dates : List ℕ
  pub given : AreGivenDates dates
  pub counted : length dates ≡ count
  pub is : ReadsLine format words before dates left
  pub kept_is : kept ≡ take room dates

-- ---- dates beside those that are left on an arc

-- the first refusal, where one may be noted already
abbrev pub or_first : Option StateError → List StateError → Option StateError
or_first None refusals = first refusals
or_first (Some noted) refusals = Some noted

-- the refusal of token k + 1 of arc a, where another date is left there; behind the last one 0 is
abbrev pub unlike_token : ℕ → List ℕ → List ℕ → ℕ → List StateError
unlike_token a dates left k =
    refuse_if (not (slice_index dates k == slice_index left k))
    (PlaceDate a (k + 1) (slice_index dates k) (slice_index left k))

unfoldable pub unlike_tokens : ℕ → List ℕ → List ℕ → List StateError
unlike_tokens a dates left = each_below (length dates) (unlike_token a dates left)

-- the refusals of the tokens of each of the first n arcs
unfoldable pub unlike_places : Parts → List (List ℕ) → ℕ → List (List ℕ) → List StateError
unlike_places g logs n places = each_below n (λ a. unlike_tokens a (list_at places a) (tokens_left g logs a))

-- `count` dates are read, and the first that is unlike what is left on arc a is noted
pub record Compares (format : Format) (a count : ℕ) (left before rest : List ℕ)
    (noted now : Option StateError) : Type 0 where
  pub dates : List ℕ
  pub given : AreGivenDates dates
  pub counted : length dates ≡ count
  pub is : before ≡ date_words format 0 dates ++ rest
  pub noted_is : now ≡ or_first noted (unlike_tokens a dates left)

-- and so the dates of the line of an arc
pub record ComparesLine (format : Format) (a count : ℕ) (left before rest : List ℕ)
    (noted now : Option StateError) : Type 0 where
  pub dates : List ℕ
  pub given : AreGivenDates dates
  pub counted : length dates ≡ count
  pub is : ReadsLine format (place_words a) before dates rest
  pub noted_is : now ≡ or_first noted (unlike_tokens a dates left)

-- ---- lines

-- how many of the lines have dates
abbrev pub dated_line_count : List Line → ℕ
dated_line_count [] = 0
dated_line_count (Fixed text ∷ rest) = dated_line_count rest
dated_line_count (Dated words ∷ rest) = suc (dated_line_count rest)

-- how many lines stand before those of the stations
abbrev pub head_count : Format → ℕ
head_count Dates = 1
head_count Differences = 2

-- how many lines stand before those of the arcs, and before the last
abbrev pub arcs_from : Format → Parts → ℕ
arcs_from format g = head_count format + stations g

abbrev pub end_from : Format → Parts → ℕ
end_from format g = head_count format + stations g + arc_count g

-- the first `number` lines of a checkpoint are read, and these are the lists of their dates
pub record HasRead (format : Format) (g : Parts) (number : ℕ) (lists : List (List ℕ))
    (r : Reading) : Type 0 where
  pub within : number ≤ length (lines format g)
  pub a_list_each : dated_line_count (take number (lines format g)) ≡ length lists
  pub given : AreGiven lists
  pub is : r.text ≡ lines_text format (take number (lines format g)) lists ++ r.rest

-- the lines of the first t stations are read: their logs, each up to its first dates, one a job, and the first log that
-- is too long
pub record HasReadLogs (format : Format) (g : Parts) (t : ℕ) (logs : RoomyLogs)
    (long : Option StateError) (r : Reading) : Type 0 where
  pub lists : List (List ℕ)
  pub read : HasRead format g (head_count format + t) lists r
  pub a_log_each : length lists ≡ t
  pub logs_are : dates_of logs ≡ map (take (jobs g)) lists
  pub long_is : long ≡ first (each_below t (long_log g lists))

-- the lines of the first a arcs are read behind those of the stations: how many tokens each has, and the first token
-- that is unlike what the logs leave
pub record HasReadPlaces (format : Format) (g : Parts) (logs : List (List ℕ)) (a : ℕ)
    (marking : List ℕ) (wrong : Option StateError) (before r : Reading) : Type 0 where
  pub places : List (List ℕ)
  pub a_place_each : length places ≡ a
  pub read : (lists : List (List ℕ)) → HasRead format g (arcs_from format g) lists before
      → HasRead format g (arcs_from format g + a) (lists ++ places) r
  pub counts : HaveCounts places marking
  pub wrong_is : wrong ≡ first (unlike_places g logs a places)

-- what is kept of a text of logs and places: the logs, each up to its first dates, one a job; the first log that is too
-- long; how many tokens each place has; the first token that is unlike what these logs leave
pub record IsReadOf (g : Parts) (bytes : List ℕ) (logs : RoomyLogs) (long : Option StateError)
    (marking : List ℕ) (wrong : Option StateError) : Type 0 where
  pub parts : State
  pub said : Says g bytes parts
  pub logs_are : dates_of logs ≡ map (take (jobs g)) parts.logs
  pub long_is : long ≡ first (long_logs g parts.logs)
  pub counts : HaveCounts parts.places marking
  pub wrong_is : wrong ≡ first (unlike_places g (dates_of logs) (arc_count g) parts.places)
