-- What contracts see of a shelf: the logs of a worker's stations, and the list of the queues between them. And how its
-- queues may change.
use Rattle.std.specs.Prelude.{◌≡◌, ℕ, ◌+◌, ◌-◌, ◌^◌, min, List, [], length, slice_index_or}
use Rattle.line_base.specs.Roomy.{RoomyLog}
use Rattle.card_queue.specs.Plain.{PlainQueue, plain_taken}
use Rattle.station_step.specs.declared.source.Source.{Source}

-- what contracts see of a `Shelf`
pub record WorkShelf : Type 0 where
  pub logs : List RoomyLog  -- those of the worker's stations, by their numbers among them
  pub sources : List Source  -- from which station's log the tokens of each queue come, and how much later
  pub queues : List PlainQueue

-- the log of station i
abbrev pub log_on : List RoomyLog → ℕ → RoomyLog
log_on logs i = slice_index_or logs i (record { dates = []; room = 0 })

-- where the tokens of queue q come from
abbrev pub source_at : List Source → ℕ → Source
source_at sources q = slice_index_or sources q (record { station = 0; delay = 0 })

-- a date, later by a delay; the sum saturates
abbrev pub later_by : ℕ → ℕ → ℕ
later_by delay date = min (date + delay) (2 ^ 64 - 1)

-- the queue with this number
abbrev pub queue_at : List PlainQueue → ℕ → PlainQueue
queue_at shelf k = slice_index_or shelf k (record { initial = []; added = []; room = 0; takes = 0 })

-- a queue that begins with these tokens, on which this many may be put
abbrev pub new_queue : ℕ → List ℕ → PlainQueue
new_queue room tokens = record { initial = tokens; added = []; room = room; takes = 0 }

-- a queue without the number of its takes: what was put into it, and its room
abbrev pub without_takes : PlainQueue → PlainQueue
without_takes queue = record queue { takes = 0 }

-- a queue of which one token more was taken
abbrev pub with_take : PlainQueue → PlainQueue
with_take queue = record queue { takes = queue.takes + 1 }

-- a queue without the tokens that were put since it was made
abbrev pub without_added : PlainQueue → PlainQueue
without_added queue = record queue { added = [] }

-- a queue as it was made
abbrev pub unused_queue : PlainQueue → PlainQueue
unused_queue queue = record queue { added = []; takes = 0 }

-- nothing was put on any queue
pub record OnlyTakes (old new : List PlainQueue) : Type 0 where
  pub count : length new ≡ length old
  pub puts : (q : ℕ) → without_takes (queue_at new q) ≡ without_takes (queue_at old q)

-- nothing was taken from any queue
pub record OnlyPuts (old new : List PlainQueue) : Type 0 where
  pub count : length new ≡ length old
  pub takes : (q : ℕ) → without_added (queue_at new q) ≡ without_added (queue_at old q)
  pub taken : (q : ℕ) → plain_taken (queue_at new q) ≡ plain_taken (queue_at old q)
