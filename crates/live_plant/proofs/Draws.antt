-- Draws made one after the other: each call of the generator goes on from the state that the last one left.
use Rattle.std.proofs.Common.{◌≡◌, ℕ, zero, suc, ◌+◌, ◌*◌, ◌/◌, ◌%◌, ◌^◌, ◌<◌, refl, ap, ◌∙◌, arith}
use Rattle.std.proofs.Math.Nat.{mod-add-mod, mod-lt}
use Rattle.live_plant.specs.Generator.{multiplier, increment, next_state, state_after, draw, draw_below}

-- two steps that each keep the lowest 64 bits give the next state
pub next_state-wraps : (s : ℕ) → (s * multiplier % 2 ^ 64 + increment) % 2 ^ 64 ≡ state_after 1 s
unfolding state_after next_state
next_state-wraps s = mod-add-mod (s * multiplier) (2 ^ 64) increment

pub draw-wraps : (s : ℕ) → (s * multiplier % 2 ^ 64 + increment) % 2 ^ 64 / 2 ^ 33 ≡ draw s 1
unfolding draw
draw-wraps s = ap (λ x. x / 2 ^ 33) (next_state-wraps s)

-- m draws after n draws are n + m draws
pub state_after-add : (m n k s : ℕ) → n + m ≡ k → state_after m (state_after n s) ≡ state_after k s
unfolding state_after
state_after-add zero n k s is = let e : n ≡ k = omega arith in ap (λ j. state_after j s) e
state_after-add (suc m) n k s is =
    let e : suc (n + m) ≡ k = omega arith in
    ap next_state (state_after-add m n (n + m) s refl) ∙ ap (λ j. state_after j s) e

-- draw k after n draws is draw n + k
pub draw_below-after : (k n j s m : ℕ) → n + k ≡ j → draw_below (state_after n s) k m ≡ draw_below s j m
unfolding draw
draw_below-after k n j s m is = ap (λ x. x / 2 ^ 33 % m) (state_after-add k n j s is)

-- no draw reaches its bound
pub draw_below-lt : (s k m : ℕ) → 0 < m → draw_below s k m < m
draw_below-lt s k m some = mod-lt (draw s k) some
