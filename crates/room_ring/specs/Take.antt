-- What contracts see of the end at which tokens are taken.
use Rattle.std.specs.Prelude.{◌≡◌, ℕ, List, ◌+◌, ◌-◌, ◌≤◌, length}
use Rattle.room_ring.specs.Ring.{Ring}

-- the end of a ring at which tokens are taken
pub record RoomTakeEnd : Type 0 where
  pub taken : List ℕ  -- the tokens that were taken, oldest first
  pub tail : ℕ  -- how many tokens were put, as far as this end has seen
  pub loads : ℕ  -- how often this end looked
  pub ring : Ring  -- the ring whose end this is

-- how many tokens this end may take before it has to look
abbrev pub room_known : RoomTakeEnd → ℕ
room_known take = take.tail - length take.taken

-- the end looked once, and sees no less; nothing else of it changed
pub record TakeLooks (old new : RoomTakeEnd) : Type 0 where
  pub same : new ≡ record old { tail = new.tail; loads = new.loads }
  pub later : old.tail ≤ new.tail
  pub counted : new.loads ≡ old.loads + 1
