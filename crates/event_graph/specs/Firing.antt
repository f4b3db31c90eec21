-- Source: Baccelli, Cohen, Olsder, Quadrat, Synchronization and Linearity, firing of a transition.
use Rattle.std.specs.Prelude.{◌≡◌, ℕ, ◌+◌, ◌<◌, ◌==◌, if◌then◌else◌, List, [], ◌∷◌, ◌++◌, map, drop, length, slice_index, slice_set}
use Rattle.std.specs.List.{range_with_len}
use Rattle.line_base.specs.declared.event.Parts.{Parts}
use Rattle.event_graph.specs.Network.{stations, jobs, arc_count, arc, demand, delay, ins}
use Rattle.event_graph.specs.GreatestValue.{greatest}
use Rattle.event_graph.specs.Term.{work}
use Rattle.event_graph.specs.State.{State, log, place}

-- station t's log is not full, and each of its input places has a token
pub record CanFire (g : Parts) (s : State) (t : ℕ) : Type 0 where
  pub exists : t < stations g
  pub more : length (log s t) < jobs g
  pub tokens : (a : ℕ) → a < arc_count g → (arc g a).to ≡ t → 0 < length (place s a)

-- the date that the front token of arc a asks of job n
abbrev pub asked_date : Parts → State → ℕ → ℕ → ℕ
asked_date g s n a = work g a n + slice_index (place s a) 0

-- the date of job n at station t: the feed's is the demand date, and every other station's is the
-- greatest of the dates that go away, each with the time for the job where its arc is worked
abbrev pub date_of : Parts → State → ℕ → ℕ → ℕ
date_of g s t n = if t == 0 then demand g n else greatest (asked_date g s n) (ins g t)

-- the date of station t's next job
unfoldable pub new_date : Parts → State → ℕ → ℕ
new_date g s t = date_of g s t (length (log s t) + 1)

-- place a where the front token has gone away if arc a enters t
abbrev pub place_before_put : Parts → State → ℕ → ℕ → List ℕ
place_before_put g s t a = if (arc g a).to == t then drop 1 (place s a) else place s a

-- place a after a firing of t at this date: arc a gains a token if it starts at t
abbrev pub place_after : Parts → State → ℕ → ℕ → ℕ → List ℕ
place_after g s t date a =
    if (arc g a).from == t then place_before_put g s t a ++ (date + delay g a) ∷ [] else place_before_put g s t a

-- the state after a firing of t
unfoldable pub after : Parts → State → ℕ → State
after g s t = record {
  logs = slice_set s.logs t (log s t ++ new_date g s t ∷ []);
  places = map (place_after g s t (new_date g s t)) (range_with_len 0 (arc_count g));
}
