-- Which ring it is.
use Rattle.std.specs.Prelude.{ℕ}
use Rattle.atomic_table.specs.Seated.{TableId}

-- the most tokens for which a ring may have room: the 10,000 with which an arc may start, and the 10,000 more that a
-- run may ask for
abbrev pub most_room : ℕ
most_room = 20_000

-- what tells one ring from another, and how many tokens may wait in it at once
pub record Ring : Type 0 where
  pub table : TableId
  pub room : ℕ
