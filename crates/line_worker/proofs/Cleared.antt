-- A worker whose stations count their turns from 0 again is a worker still.
use Rattle.std.proofs.Common.{◌≡◌, ℕ, zero, suc, ◌+◌, List, [], ◌∷◌, map, refl, sym, subst, arith}
use Rattle.std.proofs.lemmas.List.{length-map}
use Rattle.line_base.specs.declared.event.Parts.{Parts}
use Rattle.card_queue.specs.Plain.{PlainQueue}
use Rattle.event_graph.specs.State.{State}
use Rattle.station_step.specs.Station.{WorkStation, IsStation, AreApart}
use Rattle.line_worker.specs.Team.{WorkTeam, IsMember, IsTeam, member}
use Rattle.line_worker.specs.Worker.{LineWorker, IsWorker}
use Rattle.line_worker.specs.Cleared.{cleared_station, cleared_team, cleared_worker}
use Rattle.line_worker.proofs.TeamSteps.{worker-with_team}

-- ---- one station

station_cleared : (s : WorkStation) → IsStation s → IsStation (cleared_station s)
station_cleared s is = search

member_cleared : (g : Parts) (begun : State) (t : ℕ) (shelf : List PlainQueue) (s : WorkStation) → IsMember g begun t shelf s → IsMember g begun t shelf (cleared_station s)
member_cleared g begun t shelf s is = record {
  graph = is.graph;
  number = is.number;
  station = station_cleared s is.station;
  seated = record {
    takes_within = is.seated.takes_within;
    takes_apart = is.seated.takes_apart;
    puts_within = is.seated.puts_within;
    puts_apart = is.seated.puts_apart;
  };
  kept = record { held = is.kept.held; dates = is.kept.dates; added = is.kept.added; room = is.kept.room };
  made = is.made;
  begins = is.begins;
}

-- ---- a team

pub member-cleared : (xs : List WorkStation) (i : ℕ) → member (map cleared_station xs) i ≡ cleared_station (member xs i)
member-cleared [] i = refl
member-cleared (s ∷ xs) zero = refl
member-cleared (s ∷ xs) (suc i) = member-cleared xs i

pub team_cleared : (g : Parts) (begun : State) (first : ℕ) (team : WorkTeam) → IsTeam g begun first team → IsTeam g begun first (cleared_team team)
team_cleared g begun first team is =
    let many = length-map team.stations cleared_station in
    let Apart : WorkStation → WorkStation → Type 0 = AreApart in
    record {
      members = λ i low.
          let s = member team.stations i in
          subst (IsMember g begun (first + i) team.shelf) (sym (member-cleared team.stations i)) (
          member_cleared g begun (first + i) team.shelf s (is.members i (omega (arith, low, many))));
      apart = λ i j low_i low_j differ.
          let was = is.apart i j (omega (arith, low_i, many)) (omega (arith, low_j, many)) differ in
          let here : AreApart (cleared_station (member team.stations i)) (cleared_station (member team.stations j)) = record { takes = was.takes; puts = was.puts } in
          subst (λ (s : WorkStation). AreApart s (member (map cleared_station team.stations) j)) (sym (member-cleared team.stations i)) (
          subst (λ (s : WorkStation). AreApart (cleared_station (member team.stations i)) s) (sym (member-cleared team.stations j)) here);
    }

-- ---- a worker

pub worker_cleared : (c : LineWorker) → IsWorker c → IsWorker (cleared_worker c)
worker_cleared c is =
    worker-with_team c (cleared_team c.team) is (team_cleared c.live.graph c.begun c.first c.team is.members) (length-map c.team.stations cleared_station)
