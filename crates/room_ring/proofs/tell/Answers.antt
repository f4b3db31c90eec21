use Rattle.std.proofs.Common.{ap, ◌∙◌}
use Rattle.room_ring.proofs.Moves.{may_note, may_join}
use Rattle.room_ring.proofs.tell.Goals as goal

pub split_seat-note-requires : goal.split_seat-note-requires
split_seat-note-requires c = (c.requires.from, c.requires.some_words, may_note _ _ _ c.requires.may_note)

pub join_seat-requires : goal.join_seat-requires
join_seat-requires c =
    let made = c.split_seat-note.ensures in (
      c.requires.to,
      made.3 ∙ c.requires.from,
      ap (λ m. m.1) made.4,
      c.requires.some_words,
      may_join _ _ _ _ _ (ap (λ m. m.0.role) made.4) c.requires.may_hear,
    )
