-- The station that the refusal of a checkpoint names is one of the graph.
use Rattle.std.proofs.Common.{ℕ, ◌<◌, Bool, true, false, List, [], ◌∷◌, length, subst}
use Rattle.std.specs.Prelude.{IfSome, ⊤}
use Rattle.std.specs.List.{All}
use Rattle.std.proofs.lemmas.List.Elements.{All-nil, All-append, All-head, All-from_recursion}
use Rattle.line_base.specs.declared.event.Parts.{Parts}
use Rattle.line_base.proofs.RangeLists.{All-flat_map-range}
use Rattle.event_graph.specs.Network.{stations, arc_count}
use Rattle.line_core.specs.declared.error.StateError.{StateError}
use Rattle.line_core.specs.declared.error.StateError.TheVariants.{Count, Marking, Date, PlaceDate, NoMemory}
use Rattle.line_core.specs.Parts.{list_at, refuse_if, each_below, long_log, wrong_count, wrong_marking, wrong_markings, wrong_date, wrong_dates_at, wrong_dates, wrong_token, wrong_tokens_on, state_refusals, first, long_logs}
use Rattle.checkpoint.specs.declared.error.CheckpointError.{CheckpointError}
use Rattle.checkpoint.specs.declared.error.CheckpointError.TheVariants as error
use Rattle.checkpoint.specs.Answers.{Tells, IsRefused}
use Rattle.live_plant.specs.Checkpoints.{NamesStation}

-- the station that a refusal of logs and places names is one of the graph
abbrev Names : Parts → StateError → Type 0
Names g (Count t have limit) = t < stations g
Names g (Marking a have need) = ⊤
Names g (Date t job have need) = t < stations g
Names g (PlaceDate a token have need) = ⊤
Names g NoMemory = ⊤

if_names : (g : Parts) (test : Bool) (refusal : StateError) → Names g refusal → All (Names g) (refuse_if test refusal)
if_names g true refusal names = All-from_recursion (Names g) (refusal ∷ []) (names, tt)
if_names g false refusal names = All-nil (Names g)

each_names : (g : Parts) (n : ℕ) (f : ℕ → List StateError) → ((k : ℕ) → k < n → All (Names g) (f k)) → All (Names g) (each_below n f)
unfolding each_below
each_names g n f each = All-flat_map-range (Names g) f n each

-- those of each class
log_names : (g : Parts) (logs : List (List ℕ)) (t : ℕ) → t < stations g → All (Names g) (long_log g logs t)
unfolding long_log
log_names g logs t low = if_names g _ _ low

count_names : (g : Parts) (logs : List (List ℕ)) (a have : ℕ) → All (Names g) (wrong_count g logs a have)
unfolding wrong_count
count_names g logs a have = if_names g _ _ tt

marking_names : (g : Parts) (logs places : List (List ℕ)) (a : ℕ) → All (Names g) (wrong_marking g logs places a)
unfolding wrong_marking
marking_names g logs places a = count_names g logs a (length (list_at places a))

date_names : (g : Parts) (logs : List (List ℕ)) (t k : ℕ) → t < stations g → All (Names g) (wrong_date g logs t k)
unfolding wrong_date
date_names g logs t k low = if_names g _ _ low

dates_name : (g : Parts) (logs : List (List ℕ)) (t : ℕ) → t < stations g → All (Names g) (wrong_dates_at g logs t)
unfolding wrong_dates_at
dates_name g logs t low = each_names g (length (list_at logs t)) (wrong_date g logs t) (λ k _. date_names g logs t k low)

token_names : (g : Parts) (logs places : List (List ℕ)) (a k : ℕ) → All (Names g) (wrong_token g logs places a k)
unfolding wrong_token
token_names g logs places a k = if_names g _ _ tt

tokens_name : (g : Parts) (logs places : List (List ℕ)) (a : ℕ) → All (Names g) (wrong_tokens_on g logs places a)
unfolding wrong_tokens_on
tokens_name g logs places a = each_names g (length (list_at places a)) (wrong_token g logs places a) (λ k _. token_names g logs places a k)

all_name : (g : Parts) (logs places : List (List ℕ)) → All (Names g) (state_refusals g logs places)
unfolding state_refusals
all_name g logs places =
    All-append (Names g) (long_logs g logs) _ (each_names g (stations g) (long_log g logs) (log_names g logs))
    (All-append (Names g) (wrong_markings g logs places) _ (each_names g (arc_count g) (wrong_marking g logs places) (λ a _. marking_names g logs places a))
    (All-append (Names g) (wrong_dates g logs) _ (each_names g (stations g) (wrong_dates_at g logs) (dates_name g logs))
    (each_names g (arc_count g) (wrong_tokens_on g logs places) (λ a _. tokens_name g logs places a))))

first_names : (g : Parts) (refusals : List StateError) → All (Names g) refusals → IfSome (first refusals) (Names g)
first_names g [] all = tt
first_names g (refusal ∷ refusals) all = All-head (Names g) refusal refusals all

refused_names : (g : Parts) (bytes : List ℕ) (refusal : StateError) → IsRefused g bytes refusal → Names g refusal
refused_names g bytes refusal is =
    subst (λ found. IfSome found (Names g)) is.refusal_is
    (first_names g (state_refusals g is.parts.logs is.parts.places) (all_name g is.parts.logs is.parts.places))

-- the refusal of a checkpoint names a station of the graph
pub names_station : (g : Parts) (bytes : List ℕ) (error : CheckpointError) → Tells g bytes error → NamesStation g error
names_station g bytes (error.Line number) is = tt
names_station g bytes (error.Count t have limit) is = refused_names g bytes _ is
names_station g bytes (error.Marking a have need) is = tt
names_station g bytes (error.Date t job have need) is = refused_names g bytes _ is
names_station g bytes (error.PlaceDate a token have need) is = tt
names_station g bytes error.NoMemory is = tt
