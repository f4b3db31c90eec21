use Rattle.std.proofs.Common.{◌∙◌, arith}
use Rattle.card_queue.proofs.queue.Goals as goal

pub returns-clause-room : goal.returns-clause-room
returns-clause-room c =
    omega (
      arith,
      c.slots_beside.ensures.producer.0.1 ∙ c.push_entire_slice.ensures.ring.1,
      c.in_ok-producer.ensures.producer.2,
    )
