use Rattle.std.proofs.Common.{length, length-take, ap, arith}
use Rattle.outside_io.specs.Outgoing.{Pending}
use Rattle.outside_io.proofs.outgoing.Outgoing.push_prefix.Goals as goal

pub push_part-requires : goal.push_part-requires
push_part-requires g c =
    let waits = ap (λ (out : Pending). length out.bytes) c.self.view_is in
    let part = length-take c.min-count.result c.args.bytes.now in
    omega (arith, part, c.min-count.ensures, c.len-waits.ensures.count, waits, c.self.invariant)
