use Rattle.std.proofs.Common.{◌≡◌, ◌≤◌, ℕ, List, length, take, min, sym, ap, arith}
use Rattle.std.proofs.lemmas.List.{take-take, length-take, length-take-le}
use Rattle.outside_io.proofs.piece_buffer.PieceBuffer.piece.Goals as goal

-- a prefix of what waits is a prefix of the room
front_of_room : (room bytes waits : List ℕ) (piece filled : ℕ) → take filled room ≡ waits → bytes ≡ room → piece ≤ length waits → (take piece bytes ≡ take piece waits) × (length (take piece bytes) ≡ piece)
front_of_room room bytes waits piece filled view value long =
    let short : piece ≤ min filled (length room) = omega (arith, length-take filled room, ap length view) in
    rw (value, ← view) (sym (take-take piece filled room (omega arith)), length-take-le piece room (omega arith))

pub slice_bounds-result-end : goal.slice_bounds-result-end
slice_bounds-result-end c = sym (front_of_room _ _ _ 4096 _ c.self.view_is c.as_slice.ensures.value c.requires).1

pub returns : goal.returns
returns c =
    let front = front_of_room _ _ _ 4096 _ c.self.view_is c.as_slice.ensures.value c.requires in
    record { bytes = front.0; size = front.1 }
