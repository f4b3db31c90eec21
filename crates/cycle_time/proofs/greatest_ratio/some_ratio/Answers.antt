use Rattle.std.proofs.Common.{refl}
use Rattle.cycle_time.proofs.Certified.{without_ratio}
use Rattle.cycle_time.proofs.greatest_ratio.some_ratio.Goals as goal

pub returns : goal.returns
returns c =
    without_ratio c.args.live.now.graph c.in-Potentials.field-0.items _ (rw c.in-Potentials.is at c.in_ok-circuit.ensures) refl refl c.new.ensures.items
