use Rattle.std.proofs.Common.{append_assoc}
use Rattle.answers.proofs.cards.cards_text.Goals as goal

pub returns : goal.returns
returns c =
    rw (
      c.from_vec.ensures,
      c.in_ok-push.ensures.items,
      c.in_ok-add_below.ensures,
      c.in_ok-extend_from_slice.ensures.items,
      c.in_ok-add_number.ensures,
      c.new-text.ensures.items,
    ) (simp append_assoc)
