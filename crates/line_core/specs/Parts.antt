-- Which logs and places are those of a state that firings reach: what is wrong with others, class by class, each in the
-- order of the stations and jobs, or of the arcs and tokens.
use Rattle.std.specs.Prelude.{◌≡◌, ℕ, ◌+◌, ◌≤◌, ◌==◌, ◌↔◌, nat_lt, not, Bool, ℤ, pos, ◌-ℤ◌, if◌then◌else◌, List, [], ◌∷◌, ◌++◌, length, slice_index, slice_index_or, All, Option, None, Some, Result, MatchResult, ⊤}
use Rattle.std.specs.List.{flat_map, range_with_len}
use Rattle.line_base.specs.declared.event.Parts.{Parts}
use Rattle.line_base.specs.Roomy.{RoomyLogs, dates_of}
use Rattle.event_graph.specs.Network.{stations, jobs, arc_count, arc}
use Rattle.event_graph.specs.Reached.{Reached}
use Rattle.line_core.specs.declared.error.StateError.{StateError}
use Rattle.line_core.specs.declared.error.StateError.TheVariants.{Count, Marking, Date, PlaceDate, NoMemory}
use Rattle.line_core.specs.Consistent.{due_date, tokens_left}
use Rattle.line_core.specs.Run.{Run}

-- the latest date that a log may be given with
abbrev pub LATEST_GIVEN : ℕ
LATEST_GIVEN = 1_000_000_000_000_000_000

-- there is a log for each station, and no date is too late to be added to
pub record AreLogs (g : Parts) (logs : RoomyLogs) : Type 0 where
  pub a_log_each : length logs.logs ≡ stations g
  pub early : All (All (λ date. date ≤ LATEST_GIVEN)) (dates_of logs)

-- there is a log for each station and a place for each arc, and no date of a log is too late to be added to
pub record AreParts (g : Parts) (logs places : RoomyLogs) : Type 0 where
  pub a_log_each : length logs.logs ≡ stations g
  pub a_place_each : length places.logs ≡ arc_count g
  pub early : All (All (λ date. date ≤ LATEST_GIVEN)) (dates_of logs)

-- the run with these logs and these places
abbrev pub run_with : Parts → List (List ℕ) → List (List ℕ) → Run
run_with g logs places = record { graph = g; state = record { logs = logs; places = places } }

-- the list with number k, and an empty one past the end
abbrev pub list_at : List (List ℕ) → ℕ → List ℕ
list_at lists k = slice_index_or lists k []

-- the refusal, where the test gives true
abbrev pub refuse_if : Bool → StateError → List StateError
refuse_if test refusal = if test then refusal ∷ [] else []

-- what `f` gives for each number below n, in order
unfoldable pub each_below : ℕ → (ℕ → List StateError) → List StateError
each_below n f = flat_map f (range_with_len 0 n)

-- 1, of station t: its log is longer than there are jobs
unfoldable pub long_log : Parts → List (List ℕ) → ℕ → List StateError
long_log g logs t =
    let have = length (list_at logs t) in refuse_if (nat_lt (jobs g) have) (Count t have (jobs g))

abbrev pub long_logs : Parts → List (List ℕ) → List StateError
long_logs g logs = each_below (stations g) (long_log g logs)

-- how many tokens arc a needs: those of the start and one for each date of the log where it starts, less one for each
-- of the log where it ends
abbrev pub tokens_needed : Parts → List (List ℕ) → ℕ → ℤ
tokens_needed g logs a =
    pos ((arc g a).tokens + length (list_at logs (arc g a).from)) -ℤ pos (length (list_at logs (arc g a).to))

-- 2, of arc a: with this many tokens its place has another number than it needs
unfoldable pub wrong_count : Parts → List (List ℕ) → ℕ → ℕ → List StateError
wrong_count g logs a have =
    refuse_if
    (not (have + length (list_at logs (arc g a).to) == (arc g a).tokens + length (list_at logs (arc g a).from)))
    (Marking a have (tokens_needed g logs a))

unfoldable pub wrong_marking : Parts → List (List ℕ) → List (List ℕ) → ℕ → List StateError
wrong_marking g logs places a = wrong_count g logs a (length (list_at places a))

abbrev pub wrong_markings : Parts → List (List ℕ) → List (List ℕ) → List StateError
wrong_markings g logs places = each_below (arc_count g) (wrong_marking g logs places)

-- 3, of job k + 1 of station t: its date isn't the one that the equations give over the logs
unfoldable pub wrong_date : Parts → List (List ℕ) → ℕ → ℕ → List StateError
wrong_date g logs t k =
    let have = slice_index (list_at logs t) k in
    let need = due_date g logs t (k + 1) in
    refuse_if (not (have == need)) (Date t (k + 1) have need)

-- 3, of station t
unfoldable pub wrong_dates_at : Parts → List (List ℕ) → ℕ → List StateError
wrong_dates_at g logs t = each_below (length (list_at logs t)) (wrong_date g logs t)

abbrev pub wrong_dates : Parts → List (List ℕ) → List StateError
wrong_dates g logs = each_below (stations g) (wrong_dates_at g logs)

-- 4, of token k + 1 of arc a: its date isn't the one that the logs leave there
unfoldable pub wrong_token : Parts → List (List ℕ) → List (List ℕ) → ℕ → ℕ → List StateError
wrong_token g logs places a k =
    let have = slice_index (list_at places a) k in
    let need = slice_index (tokens_left g logs a) k in
    refuse_if (not (have == need)) (PlaceDate a (k + 1) have need)

-- 4, of arc a
unfoldable pub wrong_tokens_on : Parts → List (List ℕ) → List (List ℕ) → ℕ → List StateError
wrong_tokens_on g logs places a = each_below (length (list_at places a)) (wrong_token g logs places a)

abbrev pub wrong_tokens : Parts → List (List ℕ) → List (List ℕ) → List StateError
wrong_tokens g logs places = each_below (arc_count g) (wrong_tokens_on g logs places)

-- all that is wrong with logs and places, each class before the next
unfoldable pub state_refusals : Parts → List (List ℕ) → List (List ℕ) → List StateError
state_refusals g logs places =
    long_logs g logs ++ (wrong_markings g logs places ++ (wrong_dates g logs ++ wrong_tokens g logs places))

-- the first of a list
abbrev pub first : List StateError → Option StateError
first [] = None
first (refusal ∷ _) = Some refusal

-- the first thing that is wrong with logs and places, if there is one
abbrev pub state_refusal : Parts → List (List ℕ) → List (List ℕ) → Option StateError
state_refusal g logs places = first (state_refusals g logs places)

-- nothing is wrong exactly where firings lead to the state with these logs and these places
abbrev pub IsReachedExactly : Parts → List (List ℕ) → List (List ℕ) → Type 0
IsReachedExactly g logs places =
    (state_refusal g logs places ≡ None) ↔ Reached g (run_with g logs places).state

-- the answer to a list of refusals: Ok where there is none, else the first
abbrev pub AnswersFirst : Result ⊤ StateError → List StateError → Type 0
AnswersFirst r refusals = MatchResult r (λ _. refusals ≡ []) (λ refusal. first refusals ≡ Some refusal)

-- the error is the first refusal; running out of memory may come at any time
abbrev pub IsStateRefusal : Parts → List (List ℕ) → List (List ℕ) → StateError → Type 0
IsStateRefusal g logs places (Count t have limit) = state_refusal g logs places ≡ Some (Count t have limit)
IsStateRefusal g logs places (Marking a have need) = state_refusal g logs places ≡ Some (Marking a have need)
IsStateRefusal g logs places (Date t job have need) = state_refusal g logs places ≡ Some (Date t job have need)
IsStateRefusal g logs places (PlaceDate a token have need) =
    state_refusal g logs places ≡ Some (PlaceDate a token have need)
IsStateRefusal g logs places NoMemory = ⊤
