-- The text of a checkpoint: which lines it has, in order, and of what words they are. Stations and arcs count from 0.
use Rattle.std.specs.Prelude.{◌≡◌, ℕ, ◌-◌, nat_lt, if◌then◌else◌, List, [], ◌∷◌, ◌++◌, drop, filter, length, map, slice_index_or, codes, decimal, ⊤}
use Rattle.std.specs.List.{flat_map, range_with_len}
use Rattle.line_base.specs.declared.event.Parts.{Parts}
use Rattle.event_graph.specs.Network.{stations, arc_count, delay, label}
use Rattle.event_graph.specs.State.{State}
use Rattle.checkpoint.specs.declared.format.Format.{Format}
use Rattle.checkpoint.specs.declared.format.Format.TheVariants.{Dates, Differences}

-- the word of a date that follows another one: format 1 has the date, format 2 how much later it is, or `-` and how
-- much earlier
abbrev pub date_word : Format → ℕ → ℕ → List ℕ
date_word Dates before date = decimal date
date_word Differences before date =
    if nat_lt date before then codes "-" ++ decimal (before - date) else decimal (date - before)

-- a space and the word of each date, which the date `before` precedes
unfoldable pub date_words : Format → ℕ → List ℕ → List ℕ
date_words format before [] = []
date_words format before (date ∷ dates) =
    codes " " ++ (date_word format before date ++ date_words format date dates)

-- how many dates there are, the dates, and the end of the line; the first date follows 0
unfoldable pub dates_text : Format → List ℕ → List ℕ
dates_text format dates = decimal (length dates) ++ (date_words format 0 dates ++ codes "\n")

-- what a line says: this text, or dates behind this text
pub data Line : Type 0 where
  Fixed : List ℕ → Line
  Dated : List ℕ → Line

-- the arcs with a delay above 0, ascending
unfoldable pub delayed_arcs : Parts → List ℕ
delayed_arcs g = filter (λ a. nat_lt 0 (delay g a)) (range_with_len 0 (arc_count g))

-- the number of an arc, and its delay
abbrev pub two_words : ℕ → ℕ → List ℕ
two_words a delay = codes " " ++ (decimal a ++ (codes " " ++ decimal delay))

abbrev pub delay_words : Parts → ℕ → List ℕ
delay_words g a = two_words a (delay g a)

unfoldable pub delays_line : Parts → List ℕ
delays_line g =
    codes "delays " ++ (decimal (length (delayed_arcs g))
    ++ (flat_map (delay_words g) (delayed_arcs g) ++ codes "\n"))

-- the first lines: the number of the format, and in format 2 the delays
abbrev pub head_lines : Format → Parts → List Line
head_lines Dates g = Fixed (codes "pull-checkpoint 1\n") ∷ []
head_lines Differences g = Fixed (codes "pull-checkpoint 2\n") ∷ Fixed (delays_line g) ∷ []

-- how the lines of station t and of arc a begin
unfoldable pub station_words : Parts → ℕ → List ℕ
station_words g t = codes "station " ++ (label g t ++ codes " ")

unfoldable pub place_words : ℕ → List ℕ
place_words a = codes "place " ++ (decimal a ++ codes " ")

-- a line for each station, and one for each arc
unfoldable pub station_lines : Parts → List Line
station_lines g = map (λ t. Dated (station_words g t)) (range_with_len 0 (stations g))

unfoldable pub place_lines : Parts → List Line
place_lines g = map (λ a. Dated (place_words a)) (range_with_len 0 (arc_count g))

-- the lines of a checkpoint of this graph: the first ones, those of the stations and of the arcs, and the end
unfoldable pub lines : Format → Parts → List Line
lines format g = head_lines format g
    ++ (station_lines g ++ (place_lines g ++ Fixed (codes "end\n") ∷ []))

-- the text of lines, whose dates are those of the lists, one list after the other
unfoldable pub lines_text : Format → List Line → List (List ℕ) → List ℕ
lines_text format [] lists = []
lines_text format (Fixed text ∷ rest) lists = text ++ lines_text format rest lists
lines_text format (Dated words ∷ rest) lists =
    words ++ (dates_text format (slice_index_or lists 0 []) ++ lines_text format rest (drop 1 lists))

-- the text of a state: its logs stand in the lines of the stations, its places in those of the arcs
abbrev pub text : Format → Parts → State → List ℕ
text format g s = lines_text format (lines format g) (s.logs ++ s.places)

-- format 1 says nothing of delays, and is read where no arc has one
abbrev pub IsReadFor : Format → Parts → Type 0
IsReadFor Dates g = delayed_arcs g ≡ []
IsReadFor Differences g = ⊤

-- the bytes are a text of the state
pub record IsTextOf (g : Parts) (s : State) (bytes : List ℕ) : Type 0 where
  pub format : Format
  pub read : IsReadFor format g
  pub is : bytes ≡ text format g s
