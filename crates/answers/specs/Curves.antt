-- What contracts see of a curve that is asked for, and what writing it puts into a sink.
use Rattle.std.specs.Prelude.{◌≡◌, ℕ, ◌+◌, ◌-◌, ◌≤◌, true, Result, Ok, Err}
use Rattle.line_summary.specs.Curve.{PutsRows, EndsEarly}
use Rattle.line_summary.specs.declared.curve.CurveError.{CurveError}
use Rattle.line_summary.specs.declared.curve.CurveError.TheVariants as curve
use Rattle.answers.specs.declared.unwritten.Unwritten.{Unwritten}
use Rattle.answers.specs.declared.unwritten.Unwritten.TheVariants.{Failed, NoMemory}
use Rattle.card_sizing.specs.Sized.{has_single_count}
use Rattle.line_base.specs.Limits.{most_cards}
use Rattle.outside_io.specs.SinkView.{SinkView}
use Rattle.plant_model.specs.declared.plant.Plant.{Plant}
use Rattle.plant_model.specs.Sound.{IsSound}

-- a plant, and the counts from one to another
pub record Counts : Type 0 where
  pub plant : Plant
  pub from : ℕ
  pub to : ℕ

-- a sound plant with a single count of cards, and counts in order, none too large
pub record IsAsked (p : Plant) (from to : ℕ) : Type 0 where
  pub sound : IsSound p
  pub single : has_single_count p ≡ true
  pub ordered : from ≤ to
  pub within : to ≤ most_cards

-- why a curve isn't written whole
abbrev pub unwritten_of : CurveError → Unwritten
unwritten_of curve.Failed = Failed
unwritten_of curve.NoMemory = NoMemory

-- exactly the rows of all counts were put, or, where that ends early, those of some first ones
abbrev pub CurveIsPut : Counts → SinkView → SinkView → Result (Unit {0}) Unwritten → Type 0
CurveIsPut c old new (Ok done) = PutsRows c.plant c.from (c.to + 1 - c.from) old new
CurveIsPut c old new (Err Failed) = EndsEarly c.plant c.from (c.to + 1 - c.from) old new curve.Failed
CurveIsPut c old new (Err NoMemory) = EndsEarly c.plant c.from (c.to + 1 - c.from) old new curve.NoMemory
