-- What two ends have in common.
use Rattle.std.specs.Prelude.{◌≡◌, ◌+◌, ◌≤◌, length}
use mathlib.Core.List.{IsPrefix}
use Rattle.room_ring.specs.Put.{RoomPutEnd, room_tokens, room_space}
use Rattle.room_ring.specs.Take.{RoomTakeEnd, room_known}

-- the two ends of one ring
abbrev pub IsRoomRing : RoomPutEnd → RoomTakeEnd → Type 0
IsRoomRing put take = take.ring ≡ put.ring

-- first in, first out: what was taken begins what was put
abbrev pub IsInOrder : RoomPutEnd → RoomTakeEnd → Type 0
IsInOrder put take = IsPrefix take.taken (room_tokens put)

-- no more tokens wait than there is room for
abbrev pub IsWithinRoom : RoomPutEnd → RoomTakeEnd → Type 0
IsWithinRoom put take = length (room_tokens put) ≤ length take.taken + put.ring.room

-- all tokens that wait are known
abbrev pub IsAllKnown : RoomPutEnd → RoomTakeEnd → Type 0
IsAllKnown put take = length (room_tokens put) ≤ length take.taken + room_known take

-- the space is at least the room less the tokens that wait
abbrev pub IsAllSpace : RoomPutEnd → RoomTakeEnd → Type 0
IsAllSpace put take = put.ring.room + length take.taken ≤ room_space put + length (room_tokens put)
