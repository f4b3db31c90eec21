-- What a station notes of its graph beside its inputs and its outlets, so that no step looks it up: only the station
-- itself reads these words.
use Rattle.std.specs.Prelude.{◌≡◌, ℕ, Bool, List, IsTrue, if◌then◌else◌, map}
use Rattle.std.specs.List.{list_any}
use Rattle.line_base.specs.declared.event.Parts.{Parts}
use Rattle.line_base.specs.Roomy.{RoomyLog}
use Rattle.event_graph.specs.Network.{arc, ins, outs, delay}
use Rattle.event_graph.specs.Term.{work}
use Rattle.station_step.specs.declared.ends.Inlet.{Inlet}
use Rattle.station_step.specs.declared.ends.Outlet.{Outlet}
use Rattle.station_step.specs.declared.input.Input.{Input}
use Rattle.station_step.specs.declared.noted.NotedInput.{NotedInput}
use Rattle.station_step.specs.declared.noted.NotedOutlet.{NotedOutlet}
use Rattle.station_step.specs.Ends.{is_bounded, is_ring}
use Rattle.station_step.specs.Input.{empty_handed}
use Rattle.station_step.specs.Station.{WorkStation}

-- the inputs, and what stands beside each: what the time of the job adds to its token
abbrev pub inputs_of : List NotedInput → List Input
inputs_of inputs = map (λ (n : NotedInput). n.input) inputs

abbrev pub extras_of : List NotedInput → List ℕ
extras_of inputs = map (λ (n : NotedInput). n.extra) inputs

-- an input with an empty hand, beside which nothing is noted yet
abbrev pub unnoted_input : Inlet → NotedInput
unnoted_input inlet = record { input = empty_handed inlet; extra = 0 }

-- the outlets, and what stands beside each: the delay of its arc
abbrev pub outlets_of : List NotedOutlet → List Outlet
outlets_of outlets = map (λ (n : NotedOutlet). n.outlet) outlets

abbrev pub delays_of : List NotedOutlet → List ℕ
delays_of outlets = map (λ (n : NotedOutlet). n.delay) outlets

-- of each arc into a station, whether it is worked
abbrev pub worked_into : Parts → ℕ → List Bool
worked_into g t = map (λ a. (arc g a).worked) (ins g t)

-- what a job that takes so long adds to a token, by whether its arc is worked
abbrev pub extras_for : List Bool → ℕ → List ℕ
extras_for worked takes = map (λ (is_worked : Bool). if is_worked then takes else 0) worked

-- what a job adds to the token on each arc into a station
abbrev pub extras_into : Parts → ℕ → ℕ → List ℕ
extras_into g t job = map (λ a. work g a job) (ins g t)

-- the delay of each arc into a station, and of each out of it
abbrev pub delays_into : Parts → ℕ → List ℕ
delays_into g t = map (delay g) (ins g t)

abbrev pub delays_from : Parts → ℕ → List ℕ
delays_from g t = map (delay g) (outs g t)

-- what the station with this number notes: beside its inputs, where it takes one time for every job, what that adds;
-- beside its outlets their delays; which arcs into it are worked, whether one of its outlets can lack space, and
-- whether one is over a ring
pub record IsNoted (g : Parts) (t : ℕ) (inputs : List NotedInput) (outlets : List NotedOutlet)
    (fixed : Bool) (worked : List Bool) (bounded rings : Bool) : Type 0 where
  pub extras_are : IsTrue fixed → (job : ℕ) → extras_of inputs ≡ extras_into g t job
  pub worked_is : worked ≡ worked_into g t
  pub delays_are : delays_of outlets ≡ delays_from g t
  pub bounded_is : bounded ≡ list_any is_bounded (outlets_of outlets)
  pub rings_are : rings ≡ list_any is_ring (outlets_of outlets)

-- what contracts see of a station that notes this beside its inputs and its outlets
abbrev pub seen_station : Parts → ℕ → List NotedInput → List NotedOutlet → RoomyLog → ℕ → ℕ → WorkStation
seen_station g t inputs outlets log made turns = record {
  graph = g;
  number = t;
  inputs = inputs_of inputs;
  outlets = outlets_of outlets;
  log = log;
  made = made;
  turns = turns;
}
