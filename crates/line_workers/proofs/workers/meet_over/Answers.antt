use Rattle.std.proofs.Common.{◌<◌, arith}
use Rattle.line_workers.proofs.SplitLists.{met_up, met_down, ring_up, ring_down}
use Rattle.line_workers.proofs.workers.meet_over.Goals as goal

pub meet-requires : goal.meet-requires
meet-requires c =
    let parts = c.split_at_mut-low in
    let ring = ring_up c.args.workers.now parts.result.0.now parts.result.1.now c.args.link.now parts.ensures.value c.requires c.index-low-from.result c.index-high-0.result parts.ensures.front_len c.if-from-to.true in
    record { from = ring.from; output = ring.output; to = ring.to; input = ring.input; ends = ring.ends }

pub meet-requires-else-from-to : goal.meet-requires-else-from-to
meet-requires-else-from-to c =
    let parts = c.split_at_mut-low-else-from-to in
    let order : c.args.link.now.to.worker_number < c.args.link.now.from.worker_number = omega (arith, c.if-from-to.false, c.requires.apart) in
    let ring = ring_down c.args.workers.now parts.result.0.now parts.result.1.now c.args.link.now parts.ensures.value c.requires c.index-high-0-else-from-to.result c.index-low-to.result parts.ensures.front_len order in
    record { from = ring.from; output = ring.output; to = ring.to; input = ring.input; ends = ring.ends }

pub returns-then-from-to : goal.returns-then-from-to
returns-then-from-to c =
    let parts = c.split_at_mut-low in
    let met = c.meet.ensures in
    met_up c.args.workers.now parts.result.0.now parts.result.1.now c.args.link.now parts.ensures.value c.requires c.index-low-from.result c.index-high-0.result c.meet.new.self c.meet.new.to parts.ensures.front_len c.if-from-to.true met.from_same met.to_same met.from met.to met.met

pub returns-else-from-to : goal.returns-else-from-to
returns-else-from-to c =
    let parts = c.split_at_mut-low-else-from-to in
    let met = c.meet-else-from-to.ensures in
    let order : c.args.link.now.to.worker_number < c.args.link.now.from.worker_number = omega (arith, c.if-from-to.false, c.requires.apart) in
    met_down c.args.workers.now parts.result.0.now parts.result.1.now c.args.link.now parts.ensures.value c.requires c.index-high-0-else-from-to.result c.index-low-to.result c.meet-else-from-to.new.self c.meet-else-from-to.new.to parts.ensures.front_len order met.from_same met.to_same met.from met.to met.met
