-- The end of a disk, as a number. The constant of the code is shown equal to it in `limits.rt`, and that of a slot's room
-- to the most bytes of a checkpoint.
use Rattle.std.specs.Prelude.{ℕ, ◌^◌}

-- every byte that is read or written lies below it
abbrev pub disk_end : ℕ
disk_end = 2 ^ 40
