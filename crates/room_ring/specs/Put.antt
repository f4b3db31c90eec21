-- What contracts see of the end at which tokens are put.
use Rattle.std.specs.Prelude.{◌≡◌, ℕ, List, ◌++◌, ◌+◌, ◌-◌, length}
use Rattle.room_ring.specs.Ring.{Ring}

-- the end of a ring at which tokens are put
pub record RoomPutEnd : Type 0 where
  pub initial : List ℕ  -- the tokens that the ring began with
  pub added : List ℕ  -- the tokens that were put since, oldest first
  pub head : ℕ  -- how many tokens were taken, as far as this end has seen
  pub loads : ℕ  -- how often this end looked
  pub ring : Ring  -- the ring whose end this is

-- every token of the ring in order of putting, the initial ones first
abbrev pub room_tokens : RoomPutEnd → List ℕ
room_tokens put = put.initial ++ put.added

-- how many tokens this end may put before it has to look
abbrev pub room_space : RoomPutEnd → ℕ
room_space put = put.ring.room + put.head - length (room_tokens put)

-- the tokens and the space behind them reach as far as the room does from the head on
abbrev pub SpaceFills : RoomPutEnd → Type 0
SpaceFills put = length (room_tokens put) + room_space put ≡ put.head + put.ring.room
