use Rattle.std.proofs.Common.{◌≡◌, ℕ, ◌∷◌, [], ◌++◌, ◌<◌, List, length, set, sym, ap, ◌∙◌, arith, subst}
use Rattle.std.proofs.lemmas.List.{get_or_default}
use Rattle.line_base.specs.Roomy.{RoomyLog, with_date}
use Rattle.card_queue.specs.Plain.{PlainQueue, plain_taken}
use Rattle.station_step.specs.declared.source.Source.{Source}
use Rattle.station_step.specs.Shelf.{WorkShelf, queue_at, log_on, source_at, later_by}
use Rattle.station_step.specs.Counts.{tally_at, seen_shelf, seen_queues, AreTallies}
use Rattle.station_step.proofs.Queues.{length-seen, queue-seen, source-seen, add-here, add-else, add-taken, add-sound}
use Rattle.station_step.proofs.shelf.Shelf.add.Goals as goal
use Rattle.station_step.proofs.shelf.Shelf.add.Goals.{After-add}

low : (c : After-add) → c.args.i < length c.self.inside.logs.items
low c = omega (arith, c.requires.there, ap (λ (w : WorkShelf). length w.logs) c.self.view_is)

-- the log after it
log_is : (c : After-add) → c.add.new.self ≡ with_date (log_on c.self.inside.logs.items c.args.i) c.args.date
log_is c =
    c.add.ensures
    ∙ ap (λ (l : RoomyLog). with_date l c.args.date) (c.index_mut.ensures.value ∙ get_or_default c.self.inside.logs.items c.args.i _ _ (low c))

-- a queue, and its source, as the shelf shows them
source_is : (c : After-add) (q : ℕ) → source_at c.args.self.now.sources q ≡ (tally_at c.self.inside.queues.items q).source
source_is c q = ap (λ (w : WorkShelf). source_at w.sources q) (sym c.self.view_is) ∙ source-seen c.self.inside.queues.items q

count : (c : After-add) → length c.args.self.now.queues ≡ length c.self.inside.queues.items
count c =
    let s = c.self.inside in
    ap (λ (w : WorkShelf). length w.queues) (sym c.self.view_is) ∙ length-seen s.firsts.items s.room.value s.logs.items s.queues.items

-- the queues, before and after
abbrev now : (c : After-add) → RoomyLog → List PlainQueue
now c log = seen_queues c.self.inside.firsts.items c.self.inside.room.value (set c.self.inside.logs.items c.args.i log) c.self.inside.queues.items

pub invariant_of-self : goal.invariant_of-self
invariant_of-self c =
    let s = c.self.inside in
    let from = (goal.at.invariant_of-self c).After-add in
    let sound =
    subst (λ (log : RoomyLog). AreTallies s.firsts.items s.room.value (set s.logs.items c.args.i log) s.queues.items) (sym (log_is from))
    (add-sound s.firsts.items s.room.value s.logs.items s.queues.items c.args.i c.args.date c.self.invariant.sound (low from)
    (λ q there e.
    let was : queue_at c.args.self.now.queues q ≡ queue_at (seen_queues s.firsts.items s.room.value s.logs.items s.queues.items) q =
    ap (λ (w : WorkShelf). queue_at w.queues q) (sym c.self.view_is) in
    omega (arith, c.requires.room q (omega (arith, there, count from)) (ap (λ (u : Source). u.station) (source_is from q) ∙ e), ap (λ (p : PlainQueue). length p.added) was, ap (λ (p : PlainQueue). p.room) (was ∙ queue-seen s.firsts.items s.room.value s.logs.items s.queues.items q there)))) in
    record { sound = sound; origins_are = c.self.invariant.origins_are }

pub returns : goal.returns
returns c =
    let s = c.self.inside in
    let from = (goal.at.returns c).After-add in
    let i = c.args.i in
    let date = c.args.date in
    let view : seen_shelf s.firsts.items s.room.value s.logs.items s.queues.items ≡ c.args.self.now = c.self.view_is in
    let at : (q : ℕ) → queue_at (seen_queues s.firsts.items s.room.value s.logs.items s.queues.items) q ≡ queue_at c.args.self.now.queues q =
    λ q. ap (λ (w : WorkShelf). queue_at w.queues q) view in
    record {
      logs = ap (set s.logs.items i) (log_is from) ∙ ap (λ (w : WorkShelf). set w.logs i (with_date (log_on w.logs i) date)) view;
      sources = ap (λ (w : WorkShelf). w.sources) view;
      count = length-seen s.firsts.items s.room.value (set s.logs.items i c.add.new.self) s.queues.items ∙ sym (count from);
      added = λ q there e.
          let source = (tally_at s.queues.items q).source in
          let is = source_is from q in
          ap (λ (log : RoomyLog). queue_at (now from log) q) (log_is from)
          ∙ add-here s.firsts.items s.room.value s.logs.items s.queues.items i date c.self.invariant.sound (low from) q (omega (arith, there, count from)) (ap (λ (u : Source). u.station) (sym is) ∙ e)
          ∙ ap (λ (p : PlainQueue). (let r : PlainQueue = record p { added = p.added ++ later_by source.delay date ∷ [] } in r)) (at q)
          ∙ ap (λ (u : Source). (let p : PlainQueue = queue_at c.args.self.now.queues q in let r : PlainQueue = record p { added = p.added ++ later_by u.delay date ∷ [] } in r)) (sym is);
      others = λ q other.
          ap (λ (log : RoomyLog). queue_at (now from log) q) (log_is from)
          ∙ add-else s.firsts.items s.room.value s.logs.items s.queues.items i date c.self.invariant.sound (low from) q (λ there e. other (omega (arith, there, count from)) (ap (λ (u : Source). u.station) (source_is from q) ∙ e))
          ∙ at q;
      taken = λ q.
          ap (λ (log : RoomyLog). plain_taken (queue_at (now from log) q)) (log_is from)
          ∙ add-taken s.firsts.items s.room.value s.logs.items s.queues.items i date c.self.invariant.sound (low from) q
          ∙ ap plain_taken (at q);
    }
