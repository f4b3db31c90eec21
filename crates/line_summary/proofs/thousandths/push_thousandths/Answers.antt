use Rattle.std.proofs.Common.{◌<◌, refl, arith}
use Rattle.outside_io.proofs.OutgoingLemmas.{◌⨟◌}
use Rattle.line_summary.proofs.Ratios.{thousandths-parts}
use Rattle.line_summary.proofs.thousandths.push_thousandths.Goals as goal

pub returns : goal.returns
returns g c =
    let some : 0 < c.args.whole = omega arith in
    rw (thousandths-parts c.args.part c.args.whole _ some refl)
    (c.push_wide_number.ensures ⨟ c.push-2.ensures ⨟ c.push_three_digits.ensures)
