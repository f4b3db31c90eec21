use Rattle.std.proofs.Common.{◌≡◌, ℕ, ◌-◌, ◌<◌, ◌≤◌, List, length, take, drop, ap, ◌∙◌, length-take, arith}
use Rattle.std.proofs.lemmas.List.{with_items_is}
use Rattle.outside_io.proofs.piece_buffer.PieceBuffer.remove_piece.Goals as goal

-- what waits behind a piece is shorter than one
is_short : (filled over : ℕ) (bytes : List ℕ) → filled ≤ 4160 → over ≡ filled - 4096 → length (take over bytes) < 4096
is_short filled over bytes few is = omega (arith, length-take over bytes)

pub invariant_of-self : goal.invariant_of-self
invariant_of-self c =
    let moved = c.move_over-self-inside in
    let same = with_items_is c.self.inside.room moved.new.room (omega (arith, moved.auto.room, c.deref_mut.ensures.len)) in
    let size = moved.auto.room ∙ ap (λ (xs : List ℕ). length xs) c.deref_mut.ensures.value ∙ c.self.invariant.1 in
    (omega (arith, moved.ensures.over, c.self.invariant.0), ap (λ (xs : List ℕ). length xs) same ∙ size)

pub returns-clause-rest : goal.returns-clause-rest
returns-clause-rest c =
    let moved = c.move_over-self-inside in
    ap (λ (xs : List ℕ). take moved.result xs) (with_items_is c.self.inside.room moved.new.room (omega (arith, moved.auto.room, c.deref_mut.ensures.len)))
    ∙ moved.ensures.moved
    ∙ ap (λ (xs : List ℕ). drop 4096 (take c.self.inside.filled xs)) c.deref_mut.ensures.value
    ∙ ap (λ (xs : List ℕ). drop 4096 xs) c.self.view_is

pub returns-clause-short : goal.returns-clause-short
returns-clause-short c = is_short c.self.inside.filled _ _ c.self.invariant.0 c.move_over-self-inside.ensures.over
