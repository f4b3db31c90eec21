-- How a shelf keeps its queues: the tokens that they began with stand queue after queue in one list. Those that were
-- put since stand nowhere: they are the dates of their source's log, later by a delay. Of each queue it is counted how
-- many tokens were taken. Only the shelf itself and the take at its fronts read these words.
use Rattle.std.specs.Prelude.{◌≡◌, ℕ, ◌+◌, ◌-◌, ◌^◌, ◌≤◌, ◌<◌, List, map, take, drop, length, slice_index_or}
use Rattle.card_queue.specs.Plain.{PlainQueue}
use Rattle.line_base.specs.Roomy.{RoomyLog}
use Rattle.station_step.specs.declared.source.Source.{Source}
use Rattle.station_step.specs.declared.tally.Origin.{Origin}
use Rattle.station_step.specs.Shelf.{WorkShelf, log_on, later_by}

-- what contracts see of a `Tally`
pub record QueueTally : Type 0 where
  pub taken : ℕ  -- how many tokens were taken: first those that the queue began with
  pub initial : ℕ  -- how many tokens it began with
  pub source : Source  -- where the tokens come from that were put since
  pub made : ℕ  -- how many dates that log had when the queue was made
  pub start : ℕ  -- where its first token stands among those that the queues began with

-- the tally of a queue of this origin, whose further tokens come from this station and which begins with this many
abbrev pub new_tally : Origin → ℕ → ℕ → QueueTally
new_tally origin station initial = record {
  taken = 0;
  initial = initial;
  source = record { station = station; delay = origin.delay };
  made = origin.made;
  start = origin.end - initial;
}

-- where there is no queue
abbrev pub no_tally : QueueTally
no_tally = new_tally (record { delay = 0; made = 0; end = 0 }) 0 0

-- what stands of a queue with this tally in the other list of the shelf
abbrev pub origin_of : QueueTally → Origin
origin_of tally = record { delay = tally.source.delay; made = tally.made; end = tally.start + tally.initial }

abbrev pub origins_of : List QueueTally → List Origin
origins_of tallies = map origin_of tallies

-- the tally of queue q
abbrev pub tally_at : List QueueTally → ℕ → QueueTally
tally_at tallies q = slice_index_or tallies q no_tally

-- the dates of the log from which the tokens of a queue come
abbrev pub dates_for : List RoomyLog → QueueTally → List ℕ
dates_for logs tally = (log_on logs tally.source.station).dates

-- the tokens that the queue began with
abbrev pub firsts_of : List ℕ → QueueTally → List ℕ
firsts_of firsts tally = take tally.initial (drop tally.start firsts)

-- the place in that log of the next date to be taken, where none is left of the tokens that the queue began with
abbrev pub next_place : QueueTally → ℕ
next_place tally = tally.made + (tally.taken - tally.initial)

-- the queue with this tally
abbrev pub seen_queue : List ℕ → ℕ → List RoomyLog → QueueTally → PlainQueue
seen_queue firsts room logs tally = record {
  initial = firsts_of firsts tally;
  added = map (later_by tally.source.delay) (drop tally.made (dates_for logs tally));
  room = room;
  takes = tally.taken;
}

-- the queues with these tallies
abbrev pub seen_queues : List ℕ → ℕ → List RoomyLog → List QueueTally → List PlainQueue
seen_queues firsts room logs tallies = map (seen_queue firsts room logs) tallies

-- and where their further tokens come from
abbrev pub sources_of : List QueueTally → List Source
sources_of tallies = map (λ (tally : QueueTally). tally.source) tallies

-- the shelf with these tallies
abbrev pub seen_shelf : List ℕ → ℕ → List RoomyLog → List QueueTally → WorkShelf
seen_shelf firsts room logs tallies = record {
  logs = logs;
  sources = sources_of tallies;
  queues = seen_queues firsts room logs tallies;
}

-- the first tokens of a queue stand in the list, and its source's log is there. No more was taken than is there,
-- and no more were put than there is room for
pub record IsTally (firsts : List ℕ) (room : ℕ) (logs : List RoomyLog) (tally : QueueTally) : Type 0 where
  pub began : tally.start + tally.initial ≤ length firsts
  pub counted : tally.initial + room < 2 ^ 32
  pub few : tally.made ≤ room
  pub there : tally.source.station < length logs
  pub made_there : tally.made ≤ length (dates_for logs tally)
  pub taken_there : tally.taken ≤ tally.initial + (length (dates_for logs tally) - tally.made)
  pub fits : length (dates_for logs tally) ≤ tally.made + room

-- each of these is such a tally
abbrev pub AreTallies : List ℕ → ℕ → List RoomyLog → List QueueTally → Type 0
AreTallies firsts room logs tallies = (q : ℕ) → q < length tallies → IsTally firsts room logs (tally_at tallies q)

-- and the other list of the shelf has the origins of these queues
pub record IsShelf (firsts : List ℕ) (room : ℕ) (logs : List RoomyLog) (tallies : List QueueTally)
    (origins : List Origin) : Type 0 where
  pub sound : AreTallies firsts room logs tallies
  pub origins_are : origins ≡ origins_of tallies

-- the tally after one token more was taken
abbrev pub one_taken : QueueTally → QueueTally
one_taken tally = record tally { taken = tally.taken + 1 }

-- the tally after the token that was taken last was put back
abbrev pub one_returned : QueueTally → QueueTally
one_returned tally = record tally { taken = tally.taken - 1 }
