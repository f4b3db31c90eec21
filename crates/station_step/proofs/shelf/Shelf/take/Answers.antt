use Rattle.std.proofs.Common.{◌≡◌, ℕ, List, set, take, sym, ap, ◌∙◌, subst}
use Rattle.std.specs.Prelude.{option_to_list}
use Rattle.line_base.specs.Roomy.{RoomyLog}
use Rattle.card_queue.specs.Plain.{PlainQueue, plain_waiting}
use Rattle.station_step.specs.Shelf.{WorkShelf}
use Rattle.station_step.specs.Counts.{origin_of, seen_queue, seen_queues, IsTally}
use Rattle.station_step.proofs.Queues.{IsLent, tally-lent, origin-lent, TakenFrom, ShelfTook, shelf-took}
use Rattle.station_step.proofs.shelf.Shelf.take.Goals as goal
use Rattle.station_step.proofs.shelf.Shelf.take.Goals.{After-index_mut-tally, After-take}

lent : (c : After-index_mut-tally) → IsLent c.self.inside.firsts.items c.self.inside.room.value c.self.inside.logs.items c.self.inside.queues.items c.args.k c.index_mut-tally.result.now
lent c =
    tally-lent c.self.inside.firsts.items c.self.inside.room.value c.self.inside.logs.items c.self.inside.queues.items c.args.self.now.queues c.args.k c.index_mut-tally.result.now (ap (λ (w : WorkShelf). w.queues) c.self.view_is) c.requires c.index_mut-tally.ensures.value c.self.invariant.sound

-- its origin
pub take-requires-clause-origin : goal.take-requires-clause-origin
take-requires-clause-origin c =
    let from = (goal.at.take-requires-clause-origin c).After-index_mut-tally in
    let s = c.self.inside in
    origin-lent s.queues.items s.origins.items c.args.k c.index-origin.result.now c.self.invariant.origins_are (lent from).there c.index-origin.ensures
    ∙ ap origin_of (sym (lent from).at)

-- what the tally tells of the front
front : (c : After-take) → IsLent c.self.inside.firsts.items c.self.inside.room.value c.self.inside.logs.items c.self.inside.queues.items c.args.k c.index_mut-tally.result.now → option_to_list c.take.result ≡ take 1 (plain_waiting (seen_queue c.self.inside.firsts.items c.self.inside.room.value c.self.inside.logs.items c.index_mut-tally.result.now))
front c is =
    let s = c.self.inside in
    let tally = c.index_mut-tally.result.now in
    subst (λ (l : List RoomyLog). IsTally s.firsts.items s.room.value l tally → option_to_list c.take.result ≡ take 1 (plain_waiting (seen_queue s.firsts.items s.room.value l tally))) c.as_slice-2.ensures.value
    (subst (λ (l : List ℕ). IsTally l s.room.value c.as_slice-2.result.now tally → option_to_list c.take.result ≡ take 1 (plain_waiting (seen_queue l s.room.value c.as_slice-2.result.now tally))) c.as_slice.ensures.value (c.take.ensures.front s.room.value))
    is.sound

took : (c : After-take) → IsLent c.self.inside.firsts.items c.self.inside.room.value c.self.inside.logs.items c.self.inside.queues.items c.args.k c.index_mut-tally.result.now → ShelfTook c.self.inside.firsts.items c.self.inside.room.value c.self.inside.logs.items c.self.inside.queues.items (set c.self.inside.queues.items c.args.k c.take.new.self) c.args.k c.take.result
took c is =
    let s = c.self.inside in
    shelf-took s.firsts.items s.room.value s.logs.items s.queues.items c.args.k c.index_mut-tally.result.now c.take.new.self c.take.result c.self.invariant.sound is (front c is) c.take.ensures.counted c.take.ensures.stays

pub invariant_of-self : goal.invariant_of-self
invariant_of-self c =
    let from = goal.at.invariant_of-self c in
    let did = took from.After-take (lent from.After-index_mut-tally) in
    record { sound = did.sound; origins_are = c.self.invariant.origins_are ∙ sym did.origins }

pub returns : goal.returns
returns c =
    let s = c.self.inside in
    let k = c.args.k in
    let from = goal.at.returns c in
    let did = took from.After-take (lent from.After-index_mut-tally) in
    let taken = subst (λ (old : List PlainQueue). TakenFrom old (seen_queues s.firsts.items s.room.value s.logs.items (set s.queues.items k c.take.new.self)) k c.take.result) (ap (λ (w : WorkShelf). w.queues) c.self.view_is) did.took in
    record {
      front = taken.front;
      counted = taken.counted;
      stays = taken.stays;
      only = taken.only;
      taken = taken.taken;
      none = taken.none;
      puts = taken.puts;
      logs = ap (λ (w : WorkShelf). w.logs) c.self.view_is;
      sources = did.sources ∙ ap (λ (w : WorkShelf). w.sources) c.self.view_is;
    }
