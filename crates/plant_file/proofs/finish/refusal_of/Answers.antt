use Rattle.std.proofs.Common.{refl}
use Rattle.plant_file.proofs.finish.refusal_of.Goals as goal

pub returns-in-Ok : goal.returns-in-Ok
returns-in-Ok c = λ _. rw (c.from_string.ensures, c.in-Ok.ensures.ok, c.in-BadRecord.is) refl
