use Rattle.std.proofs.Common.{◌≤◌, ◌*◌, ◌^◌, arith}
use Rattle.std.proofs.Math.Nat.{mul-le-mul}
use Rattle.outside_io.proofs.OutgoingLemmas.{◌⨟◌}
use Rattle.line_summary.specs.SummaryText.{machine_line}
use Rattle.line_summary.proofs.texts.write_machine.Goals as goal

pub overflow_mul-from : goal.overflow_mul-from
overflow_mul-from g c =
    let servers : c.from-2.result ≤ 2 ^ 32 = omega arith in
    let last : c.from-3.result ≤ 2 ^ 64 = omega arith in
    let both : c.from-2.result * c.from-3.result ≤ 2 ^ 32 * 2 ^ 64 = mul-le-mul servers last in
    omega (arith, both)

pub returns : goal.returns
unfolding machine_line
returns g c =
    let share = rw (c.from.ensures, c.from-2.ensures, c.from-3.ensures) at c.write_ratio.ensures in
    c.push.ensures ⨟ c.write_label.ensures ⨟ c.write_number_behind.ensures ⨟ share ⨟ c.push-2.ensures
