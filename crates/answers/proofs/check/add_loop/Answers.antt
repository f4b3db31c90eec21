use Rattle.std.proofs.Common.{append_assoc}
use Rattle.answers.proofs.check.add_loop.Goals as goal

pub returns : goal.returns
returns c =
    rw (
      c.in_ok-extend_from_slice-3.ensures.items,
      c.in_ok-push.ensures.items,
      c.in_ok-extend_from_slice-2.ensures.items,
      c.in_ok-extend_from_slice.ensures.items,
      c.name_of.ensures,
      c.name_of-2.ensures,
      c.loop_ends-first.ensures.first,
      c.loop_ends-first.ensures.last,
    ) (simp append_assoc)
