use Rattle.std.proofs.Common.{refl}
use Rattle.plant_file.proofs.build.demands_of.Goals as goal

pub returns-then-has : goal.returns-then-has
returns-then-has c = rw (← c.has.ensures, c.if-has.true, c.in_ok-dates.ensures) refl

pub returns : goal.returns
returns c = rw (← c.has.ensures, c.if-has.false, c.in_ok-name.ensures, c.column_at.ensures) refl
