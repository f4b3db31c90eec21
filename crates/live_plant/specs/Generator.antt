-- The draws behind a big plant: a linear congruential generator with a state of 64 bits.
-- Source: Knuth, The Art of Computer Programming, volume 2, section 3.3.4: the constants of MMIX.
use Rattle.std.specs.Prelude.{ℕ, zero, suc, ◌+◌, ◌*◌, ◌/◌, ◌%◌, ◌^◌}

abbrev pub multiplier : ℕ
multiplier = 6_364_136_223_846_793_005

abbrev pub increment : ℕ
increment = 1_442_695_040_888_963_407

-- the state that follows a state
unfoldable pub next_state : ℕ → ℕ
next_state s = (s * multiplier + increment) % 2 ^ 64

-- the state after n draws from state s
unfoldable pub state_after : ℕ → ℕ → ℕ
state_after zero s = s
state_after (suc n) s = next_state (state_after n s)

-- draw number k from state s, counted from 1: the upper 31 bits of the state that it leaves
unfoldable pub draw : ℕ → ℕ → ℕ
draw s k = state_after k s / 2 ^ 33

-- that draw modulo m
abbrev pub draw_below : ℕ → ℕ → ℕ → ℕ
draw_below s k m = draw s k % m
