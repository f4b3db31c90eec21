-- What two ends have in common.
use Rattle.std.specs.Prelude.{◌≡◌, ◌++◌}
use Rattle.card_queue.specs.Put.{PutEnd, put_tokens}
use Rattle.card_queue.specs.Take.{TakeEnd}

-- the two ends of one queue
abbrev pub IsQueue : PutEnd → TakeEnd → Type 0
IsQueue put take = take.ring ≡ put.ring

-- first in, first out: what was taken, followed by what is known, is all that was put, in order
abbrev pub IsMet : PutEnd → TakeEnd → Type 0
IsMet put take = take.taken ++ take.known ≡ put_tokens put
