use Rattle.std.proofs.Common.{◌≡◌, ◌+◌, ap, arith}
use Rattle.plant_lint.proofs.position.line_at.Goals as goal

pub returns : goal.returns
returns c =
    let n : c.loop-n.n ≡ c.args.at = omega arith in
    ap (λ ended. ended + 1) (rw n at c.loop-n.invariant)
