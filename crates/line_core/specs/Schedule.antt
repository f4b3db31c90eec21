-- What a schedule gives: the firings that its lines name, one after the other, from the start.
use Rattle.std.specs.Prelude.{◌≡◌, ℕ, ◌+◌, ◌==◌, if◌then◌else◌, Bool, List, [], ◌∷◌, Option, None, Some, Result, Ok, Err, length, find, ⊤}
use Rattle.std.specs.List.{slice_split, range_with_len}
use Rattle.std.specs.Str.{bytes_eq}
use Rattle.std.specs.Str.Lines.{strip_carriage_return}
use Rattle.line_base.specs.declared.event.Parts.{Parts}
use Rattle.event_graph.specs.Network.{stations, jobs, label}
use Rattle.event_graph.specs.State.{State, log, start}
use Rattle.event_graph.specs.Firing.{after}
use Rattle.line_core.specs.declared.error.ReplayError.{ReplayError}
use Rattle.line_core.specs.declared.error.ReplayError.TheVariants.{NoStation, Done, Empty, Unfinished, NoMemory}
use Rattle.line_core.specs.Refusals.{first_empty, first_unfinished}
use Rattle.line_core.specs.Run.{Run}

-- a text that is cut at each line feed; after the last one stands a line too, which may be empty
abbrev pub lines_of : List ℕ → List (List ℕ)
lines_of text = slice_split (λ byte. byte == 10) text

-- the text is the label of station t
abbrev pub is_label_of : Parts → List ℕ → ℕ → Bool
is_label_of g text t = bytes_eq (label g t) text

-- the first station with this label
abbrev pub station_with : Parts → List ℕ → Option ℕ
station_with g text = find (is_label_of g text) (range_with_len 0 (stations g))

-- what a firing of t that line n names gives, where this is its first input place without a token
abbrev pub fire_from : Parts → ℕ → ℕ → State → Option ℕ → Result State ReplayError
fire_from g n t s None = Ok (after g s t)
fire_from g n t s (Some a) = Err (Empty n a)

-- what a line n that names this station gives
abbrev pub fire_named : Parts → ℕ → State → Option ℕ → Result State ReplayError
fire_named g n s None = Err (NoStation n)
fire_named g n s (Some t) =
    if length (log s t) == jobs g then Err (Done n t) else fire_from g n t s (first_empty g s t)

-- what line n gives: an empty one the same state, any other a firing of the station with this label
unfoldable pub follow_line : Parts → ℕ → List ℕ → State → Result State ReplayError
follow_line g n text s =
    if length text == 0 then Ok s else fire_named g n s (station_with g text)

-- a schedule ends where every station has fired once for each job
abbrev pub end_at : State → Option ℕ → Result State ReplayError
end_at s None = Ok s
end_at s (Some t) = Err (Unfinished t (length (log s t)))

-- what is next made of a state, where there was no refusal
abbrev pub and_then : Result State ReplayError → (State → Result State ReplayError) → Result State ReplayError
and_then (Ok s) next = next s
and_then (Err refusal) next = Err refusal

-- what the lines from number n on give
unfoldable pub follow_lines : Parts → List (List ℕ) → ℕ → State → Result State ReplayError
follow_lines g [] n s = end_at s (first_unfinished g s)
follow_lines g (line ∷ lines) n s =
    and_then (follow_line g n (strip_carriage_return line) s) (follow_lines g lines (n + 1))

-- this is what a line gives, or what all lines of a schedule give, in a run
abbrev pub LineGives : Run → ℕ → List ℕ → Result State ReplayError → Type 0
LineGives r n text end = follow_line r.graph n text r.state ≡ end

abbrev pub LinesGive : Run → List ℕ → Result State ReplayError → Type 0
LinesGive r schedule end = follow_lines r.graph (lines_of schedule) 1 r.state ≡ end

-- how a run ends when there are no more lines
abbrev pub run_end : Run → Result State ReplayError
run_end r = end_at r.state (first_unfinished r.graph r.state)

-- the state after the firings that the lines of a schedule name, or the first refusal
abbrev pub follow : Parts → List ℕ → Result State ReplayError
follow g schedule = follow_lines g (lines_of schedule) 1 (start g)

-- the error is the refusal of the schedule; running out of memory may come at any time
abbrev pub IsRefusal : Parts → List ℕ → ReplayError → Type 0
IsRefusal g schedule (NoStation n) = follow g schedule ≡ Err (NoStation n)
IsRefusal g schedule (Done n t) = follow g schedule ≡ Err (Done n t)
IsRefusal g schedule (Empty n a) = follow g schedule ≡ Err (Empty n a)
IsRefusal g schedule (Unfinished t have) = follow g schedule ≡ Err (Unfinished t have)
IsRefusal g schedule NoMemory = ⊤
