-- A worked example, in which a graph with delays is computed by hand: a feed, and a station that takes 3 for each job.
use Rattle.std.proofs.Common.{◌≡◌, ℕ, List, [], ◌∷◌, refl, false, true}
use Rattle.line_base.specs.declared.event.Parts.{Parts}
use Rattle.line_base.specs.declared.times.Times.TheVariants.{Fixed}
use Rattle.event_graph.specs.Network.{time, demand, delay, ins, outs}
use Rattle.event_graph.specs.Table.{date_in}
use Rattle.event_graph.specs.Term.{term, work}
use Rattle.event_graph.specs.State.{State, start}
use Rattle.event_graph.specs.Firing.{new_date, after}
use Rattle.event_graph.specs.GreatestValue.{greatest}

-- an arc from the feed to the station with delay 4, and one from the station to itself with one token
graph : ℕ → Parts
graph own_delay = record {
  labels = (102 ∷ 101 ∷ 101 ∷ 100 ∷ []) ∷ (97 ∷ []) ∷ [];
  times = Fixed 0 ∷ Fixed 3 ∷ [];
  dates = 0 ∷ 0 ∷ [];
  arcs = record { from = 0; to = 1; tokens = 0; worked = false } ∷ record { from = 1; to = 1; tokens = 1; worked = true } ∷ [];
  delays = 4 ∷ own_delay ∷ [];
}

-- the station's dates where a part needs 2 before the next can begin: 4, and 4 + 2 + 3
slow : List (List ℕ)
slow = (0 ∷ 0 ∷ []) ∷ (4 ∷ 9 ∷ []) ∷ []

-- its dates where a part doesn't: 4, and 4 + 3
quick : List (List ℕ)
quick = (0 ∷ 0 ∷ []) ∷ (4 ∷ 7 ∷ []) ∷ []

-- what each arc asks of both jobs
terms : Parts → List (List ℕ) → List ℕ
terms g rows =
    term g (date_in rows) 0 1 ∷ term g (date_in rows) 1 1 ∷ term g (date_in rows) 0 2 ∷ term g (date_in rows) 1 2 ∷ []

terms-slow : terms (graph 2) slow ≡ 4 ∷ 3 ∷ 4 ∷ 9 ∷ []
unfolding graph slow terms work time delay
terms-slow = refl

terms-quick : terms (graph 0) quick ≡ 4 ∷ 3 ∷ 4 ∷ 7 ∷ []
unfolding graph quick terms work time delay
terms-quick = refl

-- both arcs enter the station, and the second leaves it
ends-station : ins (graph 2) 1 ∷ outs (graph 2) 1 ∷ [] ≡ (0 ∷ 1 ∷ []) ∷ (1 ∷ []) ∷ []
unfolding graph ins outs
ends-station = refl

-- the state after one firing of the feed and one of the station
fired : State
fired = after (graph 2) (after (graph 2) (start (graph 2)) 0) 1

logs-fired : fired.logs ≡ (0 ∷ []) ∷ (4 ∷ []) ∷ []
unfolding graph fired after start new_date greatest work time demand delay ins
logs-fired = refl

places-fired : fired.places ≡ [] ∷ (6 ∷ []) ∷ []
unfolding graph fired after start new_date greatest work time demand delay ins
places-fired = refl
