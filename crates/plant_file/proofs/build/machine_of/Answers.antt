use Rattle.std.proofs.Common.{refl}
use Rattle.plant_file.proofs.build.machine_of.Goals as goal

pub returns : goal.returns
returns c = rw (c.in_ok-name.ensures, c.in_ok-times.ensures, c.count_at.ensures) refl
