use Rattle.std.proofs.Common.{sym, subst, arith}
use Rattle.std.proofs.lemmas.Result.{IfOk-weaker}
use Rattle.plant_model.specs.Sound.{IsSound}
use Rattle.card_sizing.proofs.SizedSound.{sound_sized}
use Rattle.line_summary.proofs.GivenPoints.{given_point}
use Rattle.line_summary.proofs.trying.point_at.Goals as goal

pub point_of-point-requires : goal.point_of-point-requires
point_of-point-requires c =
    subst IsSound (sym c.in_ok-sized.ensures)
    (sound_sized c.args.plant.now c.args.count c.requires.sound c.requires.single (omega (arith, c.requires.least)) c.requires.within)

pub returns : goal.returns
returns c =
    IfOk-weaker c.point_of-point.result _ _
    (λ point is. given_point c.args.plant.now c.in_ok-sized.sized c.args.count point (omega (arith, c.requires.least)) c.in_ok-sized.ensures is)
    c.point_of-point.ensures
