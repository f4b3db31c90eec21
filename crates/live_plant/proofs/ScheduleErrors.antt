-- The stations and arcs that the refusal of a schedule names are those of the graph.
use Rattle.std.proofs.Common.{◌≡◌, ℕ, ◌+◌, ◌<◌, Bool, true, false, cond, List, [], ◌∷◌, length, subst, eqb}
use Rattle.std.specs.Prelude.{Option, Some, None, Result, Ok, Err, IfErr, IfSome, find}
use Rattle.std.specs.List.{AllByRecursion, range_with_len}
use Rattle.std.specs.Str.Lines.{strip_carriage_return}
use Rattle.std.proofs.lemmas.List.Elements.{recursion_from_All}
use Rattle.line_base.specs.declared.event.Parts.{Parts}
use Rattle.event_graph.specs.Network.{stations, jobs, arc_count, ins}
use Rattle.event_graph.specs.State.{State, log, start}
use Rattle.event_graph.proofs.ArcNumbers.{All-ins}
use Rattle.line_base.proofs.RangeLists.{All-range}
use Rattle.line_core.specs.declared.error.ReplayError.{ReplayError}
use Rattle.line_core.specs.declared.error.ReplayError.TheVariants.{NoStation, Done, Empty, Unfinished, NoMemory}
use Rattle.line_core.specs.Refusals.{is_empty, first_empty, is_behind, first_unfinished}
use Rattle.line_core.specs.Schedule.{lines_of, is_label_of, station_with, fire_from, fire_named, follow_line, follow_lines, and_then, end_at, follow, IsRefusal}
use Rattle.live_plant.specs.Schedules.{NamesExisting}

-- a refusal, if it is one, names what is there
abbrev Names : Parts → Result State ReplayError → Type 0
Names g r = IfErr r (NamesExisting g)

first_or : (P : ℕ → Type 0) (b : Bool) (x : ℕ) (rest : Option ℕ) → P x → IfSome rest P → IfSome (cond b (Some x) rest) P
first_or P true x rest here later = here
first_or P false x rest here later = later

found_by : (P : ℕ → Type 0) (p : ℕ → Bool) (xs : List ℕ) → AllByRecursion P xs → IfSome (find p xs) P
found_by P p [] all = tt
found_by P p (x ∷ xs) all = first_or P (p x) x (find p xs) all.0 (found_by P p xs all.1)

-- the station of a label, the first unfinished one, and the first empty place are there
station_exists : (g : Parts) (p : ℕ → Bool) → IfSome (find p (range_with_len 0 (stations g))) (λ t. t < stations g)
station_exists g p =
    found_by (λ t. t < stations g) p (range_with_len 0 (stations g))
    (recursion_from_All (λ t. t < stations g) (range_with_len 0 (stations g)) (All-range (λ t. t < stations g) (stations g) (λ i low. low)))

place_exists : (g : Parts) (s : State) (t : ℕ) → IfSome (first_empty g s t) (λ a. a < arc_count g)
place_exists g s t =
    found_by (λ a. a < arc_count g) (is_empty s) (ins g t)
    (recursion_from_All (λ a. a < arc_count g) (ins g t) (λ k d low. (All-ins g t k d low).0))

from_names : (g : Parts) (n t : ℕ) (s : State) (empty : Option ℕ) → IfSome empty (λ a. a < arc_count g) → Names g (fire_from g n t s empty)
from_names g n t s None there = tt
from_names g n t s (Some a) there = there

named_names : (g : Parts) (n : ℕ) (s : State) (station : Option ℕ) → IfSome station (λ t. t < stations g) → Names g (fire_named g n s station)
named_names g n s None there = tt
named_names g n s (Some t) there = by_done (eqb (length (log s t)) (jobs g))
  where
    by_done : (b : Bool) → Names g (cond b (Err (Done n t)) (fire_from g n t s (first_empty g s t)))
    by_done true = there
    by_done false = from_names g n t s (first_empty g s t) (place_exists g s t)

line_names : (g : Parts) (n : ℕ) (text : List ℕ) (s : State) → Names g (follow_line g n text s)
unfolding follow_line
line_names g n text s = by_empty (eqb (length text) 0)
  where
    by_empty : (b : Bool) → Names g (cond b (Ok s) (fire_named g n s (station_with g text)))
    by_empty true = tt
    by_empty false = named_names g n s (station_with g text) (station_exists g (is_label_of g text))

end_names : (g : Parts) (s : State) (station : Option ℕ) → IfSome station (λ t. t < stations g) → Names g (end_at s station)
end_names g s None there = tt
end_names g s (Some t) there = there

then_names : (g : Parts) (first : Result State ReplayError) (next : State → Result State ReplayError) → Names g first → ((s : State) → Names g (next s)) → Names g (and_then first next)
then_names g (Ok s) next is later = later s
then_names g (Err error) next is later = is

lines_names : (g : Parts) (lines : List (List ℕ)) (n : ℕ) (s : State) → Names g (follow_lines g lines n s)
unfolding follow_lines
lines_names g [] n s = end_names g s (first_unfinished g s) (station_exists g (is_behind g s))
lines_names g (line ∷ lines) n s =
    then_names g (follow_line g n (strip_carriage_return line) s) (follow_lines g lines (n + 1)) (line_names g n (strip_carriage_return line) s) (λ next. lines_names g lines (n + 1) next)

refusal_names : (g : Parts) (bytes : List ℕ) (error : ReplayError) → follow g bytes ≡ Err error → NamesExisting g error
refusal_names g bytes error is = subst (Names g) is (lines_names g (lines_of bytes) 1 (start g))

-- the refusal of a schedule names stations and arcs of the graph
pub names_existing : (g : Parts) (bytes : List ℕ) (error : ReplayError) → IsRefusal g bytes error → NamesExisting g error
names_existing g bytes (NoStation n) is = tt
names_existing g bytes (Done n t) is = refusal_names g bytes (Done n t) is
names_existing g bytes (Empty n a) is = refusal_names g bytes (Empty n a) is
names_existing g bytes (Unfinished t have) is = refusal_names g bytes (Unfinished t have) is
names_existing g bytes NoMemory is = tt
