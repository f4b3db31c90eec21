-- What writing a curve puts into a sink, for callers of `write_curve`.
use Rattle.std.specs.Prelude.{◌≡◌, ℕ, ◌+◌, ◌<◌, ◌≤◌, List, length, slice_index_or, Option, None, IfSome}
use Rattle.plant_model.specs.declared.plant.Plant.{Plant}
use Rattle.outside_io.specs.Faults.{Rose}
use Rattle.outside_io.specs.SinkView.{SinkView, PutsAll, PutsPrefix}
use Rattle.line_summary.specs.CurveText.{rows_from}
use Rattle.line_summary.specs.Points.{IsPoint, ArePoints}
use Rattle.line_summary.specs.declared.curve.CurveError.{CurveError}
use Rattle.line_summary.specs.declared.curve.CurveError.TheVariants.{NoMemory, Failed}
use Rattle.line_summary.specs.declared.point.Point.{Point}

-- each of these is what its count gives, from c on, or memory ran out before it was found
abbrev pub HavePoints : Plant → ℕ → List (Option Point) → Type 0
HavePoints p c points =
    (i : ℕ) → i < length points → IfSome (slice_index_or points i None) (IsPoint p (c + i))

-- exactly the rows of this many counts, from c on, were put
pub record PutsRows (p : Plant) (c count : ℕ) (old new : SinkView) : Type 0 where
  pub points : List Point
  pub number : length points ≡ count
  pub each : ArePoints p c points
  pub puts : PutsAll old new (rows_from c points)
  pub faults_stay_or_rise : old.faults ≤ new.faults

-- a prefix of the rows of at most this many counts, from c on, was put, as the sink refused a piece
pub record PutsPrefixOfRows (p : Plant) (c count : ℕ) (old new : SinkView) : Type 0 where
  pub points : List Point
  pub few : length points ≤ count
  pub each : ArePoints p c points
  pub puts : PutsPrefix old new (rows_from c points)
  pub cause : Rose old.faults new.faults

-- exactly the rows of fewer counts, from c on, were put
pub record PutsFewerRows (p : Plant) (c count : ℕ) (old new : SinkView) : Type 0 where
  pub done : ℕ
  pub fewer : done < count
  pub rows : PutsRows p c done old new

-- where the rows of this many counts, from c on, end early: whole rows stand where memory ran out, and a prefix of rows
-- where the sink failed
abbrev pub EndsEarly : Plant → ℕ → ℕ → SinkView → SinkView → CurveError → Type 0
EndsEarly p c count old new NoMemory = PutsFewerRows p c count old new
EndsEarly p c count old new Failed = PutsPrefixOfRows p c count old new

-- whatever rows these counts have, from c on, a prefix of them was put
abbrev pub PutsPrefixOfCurve : Plant → ℕ → ℕ → SinkView → SinkView → Type 0
PutsPrefixOfCurve p c count old new =
    (points : List Point) → length points ≡ count → ArePoints p c points → PutsPrefix old new (rows_from c points)
