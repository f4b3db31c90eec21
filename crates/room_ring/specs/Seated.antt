-- What holds of what either end of a ring holds.
use Rattle.std.specs.Arc.{arc_value}
use Rattle.std.specs.Prelude.{◌≡◌, ◌+◌, ◌≤◌, [], length}
use Rattle.room_ring.specs.declared.end.End.{End}
use Rattle.room_ring.specs.Ring.{most_room}
use Rattle.room_ring.specs.Rule.{first_cell}

-- the seat is one of the table that the end shares, which is that of a ring of this room, and the counts are what it
-- knows
pub record IsSeated (end : End) : Type 0 where
  pub table : end.seat.table_id ≡ (arc_value end.words).shared.table_id
  pub key : (arc_value end.words).shared.key ≡ end.room
  pub words : (arc_value end.words).shared.table_id.words ≡ end.room + first_cell
  pub some_room : 1 ≤ end.room
  pub most_room : end.room ≤ most_room
  pub no_slot : end.seat.me.1 ≡ []
  pub count : end.count ≡ length end.seat.me.0.list
  pub seen : end.seen ≡ end.seat.me.0.seen
