use Rattle.std.proofs.Common.{◌≡◌, ◌-◌, Some, ap, ◌∙◌, arith}
use Rattle.std.specs.Prelude.{decimal}
use Rattle.checkpoint.proofs.words.earlier_date.Goals as goal

pub returns-clause-read : goal.returns-clause-read
returns-clause-read c =
    let less = c.in_ok-less.less in
    let same : less ≡ c.args.before - (c.args.before - less) = omega (arith, c.in_ok-less.ensures.small) in
    c.in_ok-less.ensures.read ∙ ap decimal same

pub returns-clause-earlier : goal.returns-clause-earlier
returns-clause-earlier c = omega (arith, c.in_ok-less.ensures.small, c.if-less-eq0.false)

pub returns-clause-tells : goal.returns-clause-tells
returns-clause-tells c date below is =
    let before = c.args.before in
    let less : c.in_ok-less.less ≡ before - date = cc (c.in_ok-less.ensures.tells (before - date) (omega arith) is) in
    let same : before - c.in_ok-less.less ≡ date = omega (arith, less, below) in
    ap Some same
