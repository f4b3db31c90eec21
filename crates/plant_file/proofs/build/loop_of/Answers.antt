use Rattle.std.proofs.Common.{refl}
use Rattle.plant_file.proofs.build.loop_of.Goals as goal

pub returns : goal.returns
returns c =
    rw
    (c.in_ok-first.ensures, c.in_ok-last.ensures, c.text_at.ensures, c.text_at-2.ensures, c.count_at.ensures, c.time_at.ensures)
    refl
