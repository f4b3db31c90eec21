use Rattle.std.proofs.Common.{◌≡◌, List, length, sym, ap, ◌∙◌, subst}
use Rattle.line_base.specs.Roomy.{RoomyLog}
use Rattle.card_queue.specs.Plain.{PlainQueue, plain_waiting}
use Rattle.station_step.specs.Shelf.{WorkShelf, queue_at}
use Rattle.station_step.specs.Counts.{QueueTally, tally_at, origin_of, seen_queue, IsTally}
use Rattle.station_step.proofs.Queues.{IsLent, tally-lent, origin-lent, queue-seen, length-waiting}
use Rattle.station_step.proofs.shelf.Shelf.waiting.Goals as goal
use Rattle.station_step.proofs.shelf.Shelf.waiting.Goals.{After-index, After-as_slice}

lent : (c : After-index) → IsLent c.self.inside.firsts.items c.self.inside.room.value c.self.inside.logs.items c.self.inside.queues.items c.args.k c.index.result.now
lent c =
    tally-lent c.self.inside.firsts.items c.self.inside.room.value c.self.inside.logs.items c.self.inside.queues.items c.args.self.now.queues c.args.k c.index.result.now (ap (λ (w : WorkShelf). w.queues) c.self.view_is) c.requires c.index.ensures c.self.invariant.sound

-- its origin
origin_is : (c : After-index) → c.index-origin.result.now ≡ origin_of (tally_at c.self.inside.queues.items c.args.k)
origin_is c =
    let s = c.self.inside in
    origin-lent s.queues.items s.origins.items c.args.k c.index-origin.result.now c.self.invariant.origins_are (lent c).there c.index-origin.ensures

pub waiting-requires-clause-origin : goal.waiting-requires-clause-origin
waiting-requires-clause-origin c =
    let from = (goal.at.waiting-requires-clause-origin c).After-index in
    origin_is from ∙ ap origin_of (sym (lent from).at)

-- it is sound over the slice of the logs, which is lent with it
sound : (c : After-as_slice) → IsLent c.self.inside.firsts.items c.self.inside.room.value c.self.inside.logs.items c.self.inside.queues.items c.args.k c.index.result.now → IsTally c.self.inside.firsts.items c.self.inside.room.value c.as_slice.result.now c.index.result.now
sound c is = subst (λ (l : List RoomyLog). IsTally c.self.inside.firsts.items c.self.inside.room.value l c.index.result.now) (sym c.as_slice.ensures.value) is.sound

pub returns : goal.returns
returns c =
    let s = c.self.inside in
    let from = goal.at.returns c in
    let is = lent from.After-index in
    let tally = c.index.result.now in
    c.waiting.ensures
    ∙ sym (length-waiting s.firsts.items s.room.value c.as_slice.result.now tally (sound from.After-as_slice is))
    ∙ ap (λ (l : List RoomyLog). length (plain_waiting (seen_queue s.firsts.items s.room.value l tally))) c.as_slice.ensures.value
    ∙ ap (λ (t : QueueTally). length (plain_waiting (seen_queue s.firsts.items s.room.value s.logs.items t))) is.at
    ∙ ap (λ (queue : PlainQueue). length (plain_waiting queue)) (sym (queue-seen s.firsts.items s.room.value s.logs.items s.queues.items c.args.k is.there))
    ∙ ap (λ (w : WorkShelf). length (plain_waiting (queue_at w.queues c.args.k))) c.self.view_is
