-- What stations do at work: the dates of a log stay, and more come behind them.
use Rattle.std.specs.Prelude.{◌≡◌, ◌≢◌, ℕ, suc, ◌+◌, ◌<◌, ◌≤◌, ◌⊎◌, min, List, [], ◌∷◌, take, length, slice_set, sum_by}
use Rattle.card_queue.specs.Plain.{PlainQueue}
use Rattle.event_graph.specs.Network.{arc_count}
use Rattle.station_step.specs.Shelf.{queue_at, unused_queue}
use Rattle.station_step.specs.Kept.{IsKept}
use Rattle.station_step.specs.Station.{WorkStation, bare_station}
use Rattle.station_step.specs.Step.{IsReady, MovesItsOwn}
use Rattle.line_worker.specs.Sweeps.{most_sweeps}
use Rattle.line_worker.specs.Team.{WorkTeam, member}
use Rattle.line_worker.specs.Teams.{index_in, team_at, IsJoined}
use Rattle.line_worker.specs.Worker.{LineWorker, IsWorker, with_team}

-- how many dates a station has made
abbrev pub dates_of : WorkStation → ℕ
dates_of s = length s.log.dates

-- how many turns a station has made
abbrev pub turns_of : WorkStation → ℕ
turns_of s = s.turns

-- how many dates the stations of a team have made together
abbrev pub dates_made : WorkTeam → ℕ
dates_made team = sum_by dates_of team.stations

-- it is the same station of the same line; its dates stay, and it made at least one turn for each that came
pub record HasWorked (before after : WorkStation) : Type 0 where
  pub same : bare_station after ≡ bare_station before
  pub kept : take (dates_of before) after.log.dates ≡ before.log.dates
  pub turned : before.turns ≤ after.turns
  pub steps : dates_of after + before.turns ≤ dates_of before + after.turns

-- the queues of a shelf are those that they were, but for what was put and taken
pub record IsSameShelf (old new : List PlainQueue) : Type 0 where
  pub count : length new ≡ length old
  pub queues : (q : ℕ) → unused_queue (queue_at new q) ≡ unused_queue (queue_at old q)

-- each station of the team has worked
pub record TeamWorked (old new : WorkTeam) : Type 0 where
  pub count : length new.stations ≡ length old.stations
  pub shelf : IsSameShelf old.shelf new.shelf
  pub each : (i : ℕ) → i < length old.stations → HasWorked (member old.stations i) (member new.stations i)

-- station i has made one turn, and no other any; it fired if it was ready, and every other station that was ready is;
-- it moved tokens of its own queues alone, and each station keeps what it kept
pub record SteppedAt (i : ℕ) (old new : WorkTeam) : Type 0 where
  pub only : new.stations ≡ slice_set old.stations i (member new.stations i)
  pub shelf : IsSameShelf old.shelf new.shelf
  pub worked : HasWorked (member old.stations i) (member new.stations i)
  pub turn : (member new.stations i).turns ≡ (member old.stations i).turns + 1
  pub fires : IsReady old.shelf (member old.stations i) →
      dates_of (member new.stations i) ≡ dates_of (member old.stations i) + 1
  pub ready : (j : ℕ) → j < length old.stations → j ≢ i → IsReady old.shelf (member old.stations j) →
      IsReady new.shelf (member old.stations j)
  pub moves : MovesItsOwn (member old.stations i) old.shelf new.shelf
  pub kept : (j : ℕ) → j < length old.stations → IsKept old.shelf (member old.stations j) →
      IsKept new.shelf (member new.stations j)

-- the stations with these numbers have made one turn each, one after the other
abbrev pub SteppedInOrder : List ℕ → WorkTeam → WorkTeam → Type 0
SteppedInOrder [] old new = new ≡ old
SteppedInOrder (i ∷ order) old new = (next : WorkTeam) × (SteppedAt i old next × SteppedInOrder order next new)

-- the first p stations of the order have made one turn each, and those that were ready fired
pub record IsSweeping (order : List ℕ) (old now : WorkTeam) (p : ℕ) : Type 0 where
  pub worked : TeamWorked old now
  pub turned : (i : ℕ) → i < length old.stations → index_in order i < p →
      (member now.stations i).turns ≡ (member old.stations i).turns + 1
  pub fired : (i : ℕ) → i < length old.stations → index_in order i < p → IsReady old.shelf (member old.stations i) →
      dates_of (member now.stations i) ≡ dates_of (member old.stations i) + 1
  pub waiting : (i : ℕ) → i < length old.stations → p ≤ index_in order i → member now.stations i ≡ member old.stations i
  pub ready : (i : ℕ) → i < length old.stations → p ≤ index_in order i → IsReady old.shelf (member old.stations i) →
      IsReady now.shelf (member old.stations i)

-- each station has made one turn, and those that were ready fired
pub record HasSwept (old new : WorkTeam) : Type 0 where
  pub worked : TeamWorked old new
  pub turned : (i : ℕ) → i < length old.stations → (member new.stations i).turns ≡ (member old.stations i).turns + 1
  pub fired : (i : ℕ) → i < length old.stations → IsReady old.shelf (member old.stations i) →
      dates_of (member new.stations i) ≡ dates_of (member old.stations i) + 1

-- each team of the line has worked
pub record TeamsWorked (old new : List WorkTeam) : Type 0 where
  pub count : length new ≡ length old
  pub each : (w : ℕ) → w < length old → TeamWorked (team_at old w) (team_at new w)

-- no station of the team has made this many turns
abbrev pub TurnsBelow : ℕ → WorkTeam → Type 0
TurnsBelow most team = (i : ℕ) → i < length team.stations → (member team.stations i).turns < most

-- the worker is the only one of its line, and each of its stations has made this many dates
pub record IsAlone (c : LineWorker) (times : ℕ) : Type 0 where
  pub one : c.worker_count ≡ 1
  pub joined : (a : ℕ) → a < arc_count c.live.graph → IsJoined c.live.graph c.begun (c.team ∷ []) a
  pub fired : (i : ℕ) → i < length c.team.stations → dates_of (member c.team.stations i) ≡ times

-- how many turns the stations of a team have made together
abbrev pub turns_made : WorkTeam → ℕ
turns_made team = sum_by turns_of team.stations

-- each station of the team has made this many dates
abbrev pub AllDone : ℕ → WorkTeam → Type 0
AllDone target team = (i : ℕ) → i < length team.stations → dates_of (member team.stations i) ≡ target

-- one sweep in this order, before which some station had not made this many dates
pub record HasSweptOn (order : List ℕ) (target : ℕ) (old new : WorkTeam) : Type 0 where
  pub undone : ¬ AllDone target old
  pub in_order : SteppedInOrder order old new

-- this many such sweeps lead from the first team to the other
pub data SweepsLead (order : List ℕ) (target : ℕ) (old : WorkTeam) : ℕ → WorkTeam → Type 0 where
  none : SweepsLead order target old 0 old
  more : (sweeps : ℕ) (now new : WorkTeam) → SweepsLead order target old sweeps now → HasSweptOn order target now new →
      SweepsLead order target old (suc sweeps) new

-- this many sweeps are those of a burst: they end where all stations are done, and else are as many as a burst has
pub record AreOfBurst (order : List ℕ) (target : ℕ) (old new : WorkTeam) (sweeps : ℕ) : Type 0 where
  pub few : sweeps ≤ most_sweeps
  pub lead : SweepsLead order target old sweeps new
  pub ended : AllDone target new ⊎ (sweeps ≡ most_sweeps)

-- each station has made as many turns as a burst has sweeps, or fewer where all are done, and none where all were, and
-- all of them as many; each that was ready fired
pub record HasBurst (target : ℕ) (old new : WorkTeam) : Type 0 where
  pub worked : TeamWorked old new
  pub few : (i : ℕ) → i < length old.stations →
      (member new.stations i).turns ≤ (member old.stations i).turns + most_sweeps
  pub even : (i j : ℕ) → i < length old.stations → j < length old.stations →
      (member new.stations i).turns + (member old.stations j).turns ≡
      (member new.stations j).turns + (member old.stations i).turns
  pub ended : AllDone target new ⊎
      ((i : ℕ) → i < length old.stations → (member new.stations i).turns ≡ (member old.stations i).turns + most_sweeps)
  pub fired : (i : ℕ) → i < length old.stations → IsReady old.shelf (member old.stations i) →
      dates_of (member old.stations i) < dates_of (member new.stations i)
  pub idle : AllDone target old → (i : ℕ) → i < length old.stations →
      (member new.stations i).turns ≡ (member old.stations i).turns

-- the one worker of its line, where each station had made this many dates: each has fired as often as a burst has
-- sweeps, or as dates were left, and made as many turns
pub record HasBurstAlone (times : ℕ) (old new : LineWorker) : Type 0 where
  pub alone : IsAlone new (min (times + most_sweeps) old.target)
  pub turns : (i : ℕ) → i < length old.team.stations →
      (member new.team.stations i).turns + times ≡
      (member old.team.stations i).turns + min (times + most_sweeps) old.target

-- this many sweeps of a burst were made, and before each some station was not done
pub record IsBursting (old now : LineWorker) (sweeps : ℕ) : Type 0 where
  pub begins : sweeps ≡ 0 → now ≡ old
  pub worker : 0 < sweeps → IsWorker now
  pub frame : now ≡ with_team old now.team
  pub worked : TeamWorked old.team now.team
  pub turned : (i : ℕ) → i < length old.team.stations →
      (member now.team.stations i).turns ≡ (member old.team.stations i).turns + sweeps
  pub fired : 0 < sweeps → (i : ℕ) → i < length old.team.stations →
      IsReady old.team.shelf (member old.team.stations i) →
      dates_of (member old.team.stations i) < dates_of (member now.team.stations i)
  pub undone : 0 < sweeps → ¬ AllDone old.target old.team
  pub few : (times : ℕ) → IsAlone old times → times ≤ old.target → times + sweeps ≤ old.target
  pub alone : (times : ℕ) → IsAlone old times → times ≤ old.target → IsAlone now (times + sweeps)
  pub lead : SweepsLead old.order old.target old.team sweeps now.team
