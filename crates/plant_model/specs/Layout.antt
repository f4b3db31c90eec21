-- The numbers of a line as lists: of its stations and of its arcs, by stage.
use Rattle.std.specs.Prelude.{◌≡◌, ℕ, ◌+◌, Bool, List, length, map}
use Rattle.std.specs.List.{range_with_len}
use Rattle.plant_model.specs.declared.plant.Plant.{Plant}
use Rattle.plant_model.specs.Line.{release}
use Rattle.plant_model.specs.ArcNumbers.{entry_arc}
use Rattle.plant_model.specs.Paths.{AreFedMarks}
use Rattle.plant_model.specs.Sound.{IsSound}

-- the station of each release, then that of the delivery, which stands where a further release would
abbrev pub releases : Plant → List ℕ
releases p = map (release p) (range_with_len 0 (length p.stages + 1))

-- the arc into the first machine of each stage, then that to the delivery, which stands where a further one would
abbrev pub entries : Plant → List ℕ
entries p = map (entry_arc p) (range_with_len 0 (length p.stages + 1))

-- the plant is sound, these are its releases and the arcs into its stages, and these marks say which stages are fed
pub record IsLaidOut (p : Plant) (stations arcs : List ℕ) (fed : List Bool) : Type 0 where
  pub sound : IsSound p
  pub all_stations : stations ≡ releases p
  pub all_arcs : arcs ≡ entries p
  pub marks : AreFedMarks p fed

-- the plant is sound, and the numbers are of this plant
pub record IsLayout (p numbers : Plant) : Type 0 where
  pub sound : IsSound p
  pub same : numbers ≡ p
