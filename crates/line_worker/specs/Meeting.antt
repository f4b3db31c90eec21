-- What the meeting of the two ends of a ring does to the two teams: it makes known what was put, and changes nothing
-- else.
use Rattle.std.specs.Prelude.{◌≡◌, ℕ, slice_set}
use Rattle.station_step.specs.Ends.{unseen_inlet, unseen_outlet}
use Rattle.station_step.specs.Input.{input_at}
use Rattle.station_step.specs.Station.{bare_station, outlet_at, with_inlet, with_outlet}
use Rattle.line_worker.specs.Team.{WorkTeam, member}

-- output k of station i met an input: nothing has changed but what that output has seen
pub record OutletMet (i k : ℕ) (old new : WorkTeam) : Type 0 where
  pub only : new ≡ record { stations = slice_set old.stations i (member new.stations i); shelf = old.shelf }
  pub outlet : member new.stations i ≡
      with_outlet (member old.stations i) k (outlet_at (member new.stations i).outlets k)
  pub unseen : unseen_outlet (outlet_at (member new.stations i).outlets k) ≡
      unseen_outlet (outlet_at (member old.stations i).outlets k)
  pub bare : bare_station (member new.stations i) ≡ bare_station (member old.stations i)

-- input l of station j met an output: nothing has changed but what that input has seen
pub record InletMet (j l : ℕ) (old new : WorkTeam) : Type 0 where
  pub only : new ≡ record { stations = slice_set old.stations j (member new.stations j); shelf = old.shelf }
  pub inlet : member new.stations j ≡
      with_inlet (member old.stations j) l (input_at (member new.stations j).inputs l).inlet
  pub unseen : unseen_inlet (input_at (member new.stations j).inputs l).inlet ≡
      unseen_inlet (input_at (member old.stations j).inputs l).inlet
  pub bare : bare_station (member new.stations j) ≡ bare_station (member old.stations j)
