-- What the seat that makes a step learns from it, for each kind of step.
use Rattle.std.specs.Prelude.{◌≡◌, ℕ, ◌+◌, ◌≤◌, length}
use mathlib.Core.List.{IsPrefix}
use Rattle.atomic_table.specs.Table.{Step, Me}
use Rattle.room_ring.specs.declared.view.View.{View}
use Rattle.room_ring.specs.View.{cell_stored, tail_stored, other_seen, cell_loaded, head_stored}

-- a seat's view, and the slots that it holds, of which the table of a ring has none
abbrev pub Mine : Type 0
Mine = Me (Unit {0}) View

-- what a step of each kind does to the seat that makes it; a load has found this number
abbrev pub StoresCell : Step (Unit {0}) → Mine → ℕ → Mine → Type 0
StoresCell step before _ after = after ≡ (cell_stored step.first before.0, before.1)

abbrev pub StoresTail : Step (Unit {0}) → Mine → ℕ → Mine → Type 0
StoresTail _ before _ after = after ≡ (tail_stored before.0, before.1)

abbrev pub LoadsCell : Step (Unit {0}) → Mine → ℕ → Mine → Type 0
LoadsCell _ before found after = after ≡ (cell_loaded found before.0, before.1)

abbrev pub StoresHead : Step (Unit {0}) → Mine → ℕ → Mine → Type 0
StoresHead _ before _ after = after ≡ (head_stored before.0, before.1)

-- the head was found: no token was taken that wasn't put, and what the putter has heard of was taken
pub record SeesHead (before : Mine) (found : ℕ) (after : Mine) : Type 0 where
  pub changed : after ≡ (other_seen found before.0, before.1)
  pub later : before.0.seen ≤ found
  pub most : found ≤ length before.0.list
  pub heard : IsPrefix before.0.heard before.0.list
  pub count : before.0.count ≤ found

-- the tail was found: what the taker has heard of was put, and no more tokens wait than there is room for
pub record SeesTail (before : Mine) (found : ℕ) (after : Mine) : Type 0 where
  pub changed : after ≡ (other_seen found before.0, before.1)
  pub later : before.0.seen ≤ found
  pub most : found ≤ length before.0.list + before.0.room
  pub heard : length before.0.heard ≤ found

abbrev pub LoadsHead : Step (Unit {0}) → Mine → ℕ → Mine → Type 0
LoadsHead _ before found after = SeesHead before found after

abbrev pub LoadsTail : Step (Unit {0}) → Mine → ℕ → Mine → Type 0
LoadsTail _ before found after = SeesTail before found after
