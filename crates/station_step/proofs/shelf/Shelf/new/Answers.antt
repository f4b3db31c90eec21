use Rattle.std.proofs.Common.{◌≡◌, ◌<◌, ◌≤◌, ℕ, ◌+◌, ◌^◌, ◌∷◌, ◌++◌, List, [], get_or, length, map, refl, sym, ap, ◌∙◌, arith, subst}
use Rattle.std.specs.Prelude.{Vec, slice_index_or}
use Rattle.std.specs.declared.alloc.Global.{Global}
use Rattle.std.proofs.lemmas.List.{get_or-map, get_or_default, length-map}
use Rattle.std.proofs.lemmas.Result.{err_from_is_err_and}
use Rattle.line_base.specs.Roomy.{RoomyLog}
use Rattle.station_step.specs.declared.source.Source.{Source}
use Rattle.station_step.specs.declared.tally.Origin.{Origin}
use Rattle.station_step.specs.Counts.{QueueTally}
use Rattle.station_step.specs.Shelf.{source_at, log_on}
use Rattle.station_step.specs.Counts.{new_tally, origins_of, seen_queue, AreTallies}
use Rattle.station_step.proofs.LaidTallies.{LaidUpTo, items_of, laid_none, laid_more, origins_more, seen-laid, sources-laid, tallies-laid, new-queues}
use Rattle.station_step.proofs.shelf.Shelf.new.Goals as goal
use Rattle.station_step.proofs.shelf.Shelf.new.Goals.{After-index-source}

pub returns-in_err-queues : goal.returns-in_err-queues
returns-in_err-queues c = rw (err_from_is_err_and c.from_residual.result c.from_residual.ensures.1).1 (record { logs = tt; sources = tt; queues = tt })

pub loop-first-init : goal.loop-first-init
loop-first-init c =
    let none = c.in_ok-queues.ensures.items in
    record {
      laid = laid_none c.args.logs.items (items_of c.args.firsts.items) c.args.sources.items c.new-tokens.result.items c.in_ok-queues.queues.items none;
      origins_are = c.in_ok-origins.ensures.items ∙ ap origins_of (sym none);
    }

pub returns-clause-sources : goal.returns-clause-sources
returns-clause-sources c =
    let firsts = c.args.firsts.items in
    let tokens = c.loop-first.tokens.items in
    let tallies = c.loop-first.queues.items in
    let count = length-map firsts (λ (w : Vec ℕ Global). w.items) in
    let all : c.loop-first.first-index ≡ length (items_of firsts) =
    omega (arith, c.loop-first-test.false, c.loop-first.auto.first-index-end, ap length c.deref-first-items.ensures.value, count) in
    sources-laid c.args.logs.items (items_of firsts) c.args.sources.items tokens tallies (omega (arith, c.requires.a_source_each, count)) (subst (λ (m : ℕ). LaidUpTo m c.args.logs.items (items_of firsts) c.args.sources.items tokens tallies) all c.loop-first.invariant.laid)

pub returns-clause-queues : goal.returns-clause-queues
returns-clause-queues c =
    let firsts = c.args.firsts.items in
    let tokens = c.loop-first.tokens.items in
    let tallies = c.loop-first.queues.items in
    let all : c.loop-first.first-index ≡ length (items_of firsts) =
    omega (arith, c.loop-first-test.false, c.loop-first.auto.first-index-end, ap length c.deref-first-items.ensures.value, length-map firsts (λ (w : Vec ℕ Global). w.items)) in
    let laid = subst (λ (m : ℕ). LaidUpTo m c.args.logs.items (items_of firsts) c.args.sources.items tokens tallies) all c.loop-first.invariant.laid in
    ap (λ (r : ℕ). map (seen_queue tokens r c.args.logs.items) tallies) c.of.ensures
    ∙ seen-laid c.args.logs.items (items_of firsts) c.args.sources.items tokens c.args.room tallies laid
    ∙ new-queues c.args.room firsts

pub invariant_of-result : goal.invariant_of-result
invariant_of-result c =
    let firsts = c.args.firsts.items in
    let logs = c.args.logs.items in
    let sources = c.args.sources.items in
    let tokens = c.loop-first.tokens.items in
    let tallies = c.loop-first.queues.items in
    let count : length (items_of firsts) ≡ length firsts = length-map firsts (λ (w : Vec ℕ Global). w.items) in
    let all : c.loop-first.first-index ≡ length (items_of firsts) =
    omega (arith, c.loop-first-test.false, c.loop-first.auto.first-index-end, ap length c.deref-first-items.ensures.value, count) in
    let small : (q : ℕ) → q < length (items_of firsts) → length (slice_index_or (items_of firsts) q []) + c.args.room < 2 ^ 32 =
    λ q less.
    let low : q < length firsts = omega (arith, less, count) in
    omega (arith, c.requires.small q c.loop-first.tokens low, ap length (get_or-map (λ (w : Vec ℕ Global). w.items) firsts q c.loop-first.tokens [] low)) in
    let there : (q : ℕ) → q < length (items_of firsts) → (source_at sources q).station < length logs =
    λ q less. c.requires.logs_there q (record { station = 0; delay = 0 }) (omega (arith, less, count, c.requires.a_source_each)) in
    let few : (i : ℕ) → i < length logs → length (log_on logs i).dates ≤ c.args.room =
    λ i less. c.requires.few_dates i (record { dates = []; room = 0 }) less in
    let sound : AreTallies tokens c.of.result.value logs tallies =
    subst (λ (r : ℕ). AreTallies tokens r logs tallies) (sym c.of.ensures)
    (tallies-laid logs (items_of firsts) sources tokens c.args.room tallies small there few (subst (λ (m : ℕ). LaidUpTo m logs (items_of firsts) sources tokens tallies) all c.loop-first.invariant.laid)) in
    record { sound = sound; origins_are = c.loop-first.invariant.origins_are }

pub offset_bounds-first-items-first-index : goal.offset_bounds-first-items-first-index
offset_bounds-first-items-first-index c =
    omega (arith, c.loop-first-test.true, ap length c.deref-first-items.ensures.value, c.args.firsts.ok.0, c.args.firsts.small)

pub bounds-first-items-first-index : goal.bounds-first-items-first-index
bounds-first-items-first-index c = c.loop-first-test.true

pub index-source-requires : goal.index-source-requires
index-source-requires c =
    omega (arith, c.loop-first-test.true, ap length c.deref-first-items.ensures.value, c.requires.a_source_each, c.len-in-loop-first.ensures, c.loop-first.queues.ok.0, c.loop-first.invariant.laid.count, c.args.sources.ok.0)

-- the source of this queue, and its log
at : (c : After-index-source) → c.len-in-loop-first.result ≡ c.loop-first.first-index
at c = omega (arith, c.len-in-loop-first.ensures, c.loop-first.queues.ok.0, c.loop-first.invariant.laid.count)

low : (c : After-index-source) → c.len-in-loop-first.result < length c.args.sources.items
low c = omega (arith, c.loop-first-test.true, ap length c.deref-first-items.ensures.value, c.requires.a_source_each, at c)

there : (c : After-index-source) → c.index-source.result.now.station < length c.args.logs.items
there c =
    omega (arith, c.requires.logs_there c.len-in-loop-first.result c.index-source.result.now (low c), ap (λ (s : Source). s.station) c.index-source.ensures)

pub index-requires : goal.index-requires
index-requires c = omega (arith, there (goal.at.index-requires c).After-index-source, c.args.logs.ok.0)

-- the tokens with which it begins
first_is : (c : After-index-source) → c.first-item.result ≡ get_or c.args.firsts.items c.loop-first.first-index c.first-item.result
first_is c =
    c.first-item.is
    ∙ ap (λ (l : List (Vec ℕ Global)). get_or l c.loop-first.first-index c.first-item.result) c.deref-first-items.ensures.value

pub overflow_cast-len : goal.overflow_cast-len
overflow_cast-len c =
    let from = (goal.at.overflow_cast-len c).After-index-source in
    omega (arith, c.requires.small c.loop-first.first-index c.first-item.result (omega (arith, c.loop-first-test.true, ap length c.deref-first-items.ensures.value)), ap (λ (v : Vec ℕ Global). length v.items) (first_is from), c.len-in-loop-first-3.ensures, c.first-item.result.ok.0)

pub loop-first-smaller : goal.loop-first-smaller
loop-first-smaller c = omega (arith, c.loop-first-test.true)

pub loop-first-preserved : goal.loop-first-preserved
loop-first-preserved c =
    let from = (goal.at.loop-first-preserved c).After-index-source in
    let firsts = c.args.firsts.items in
    let logs = c.args.logs.items in
    let sources = c.args.sources.items in
    let tokens = c.loop-first.tokens.items in
    let tallies = c.loop-first.queues.items in
    let n = c.loop-first.first-index in
    let first = c.deref.result.now in
    let source = c.index-source.result.now in
    let made = length c.dates.result.now in
    let end = c.len-in-loop-first-2.result + c.len-in-loop-first-3.result in
    let origin : Origin = record { delay = source.delay; made = made; end = end } in
    let in_firsts : n < length firsts = omega (arith, c.loop-first-test.true, ap length c.deref-first-items.ensures.value) in
    let first_at : first ≡ slice_index_or (items_of firsts) n [] =
    c.deref.ensures.value
    ∙ ap (λ (v : Vec ℕ Global). v.items) (first_is from)
    ∙ sym (get_or-map (λ (v : Vec ℕ Global). v.items) firsts n c.first-item.result [] in_firsts) in
    let source_is : source ≡ source_at sources n =
    c.index-source.ensures
    ∙ get_or_default sources c.len-in-loop-first.result _ _ (low from)
    ∙ ap (source_at sources) (at from) in
    let made_is : made ≡ length (log_on logs source.station).dates =
    ap length c.dates.ensures
    ∙ ap (λ (l : RoomyLog). length l.dates) (c.index.ensures ∙ get_or_default logs source.station _ _ (there from)) in
    let start : c.len-in-loop-first-2.result ≡ length tokens = omega (arith, c.len-in-loop-first-2.ensures, c.loop-first.tokens.ok.0) in
    let many : length first ≡ length c.first-item.result.items = ap length c.deref.ensures.value in
    let initial : c.len-in-loop-first-3.result ≡ length first = omega (arith, c.len-in-loop-first-3.ensures, c.first-item.result.ok.0, many) in
    let initial_is : c.len-in-loop-first-4.result ≡ length first = omega (arith, c.len-in-loop-first-4.ensures, c.first-item.result.ok.0, many) in
    let end_is : end ≡ length tokens + length first = omega (arith, start, initial) in
    let tally : c.new.result ≡ new_tally origin source.station (length first) =
    c.new.ensures ∙ ap (new_tally origin source.station) initial_is in
    let pushed : c.push.new.self.items ≡ tallies ++ new_tally origin source.station (length first) ∷ [] =
    c.in_ok-push.ensures.items ∙ ap (λ (t : QueueTally). tallies ++ t ∷ []) tally in
    let laid : LaidUpTo (n + 1) logs (items_of firsts) sources (tokens ++ first) c.push.new.self.items =
    subst (LaidUpTo (n + 1) logs (items_of firsts) sources (tokens ++ first)) (sym pushed)
    (laid_more n logs (items_of firsts) sources tokens first source origin tallies first_at source_is refl made_is end_is c.loop-first.invariant.laid) in
    record {
      laid = subst (λ (l : List ℕ). LaidUpTo (n + 1) logs (items_of firsts) sources l c.push.new.self.items) (sym c.in_ok-extend_from_slice.ensures.items) laid;
      origins_are = c.in_ok-push-2.ensures.items
          ∙ origins_more tallies c.loop-first.origins.items origin source.station (length first) (omega (arith, end_is)) c.loop-first.invariant.origins_are
          ∙ ap origins_of (sym pushed);
    }

pub returns-clause-logs : goal.returns-clause-logs
returns-clause-logs c = refl

pub returns-in_err-push : goal.returns-in_err-push
returns-in_err-push c = rw (err_from_is_err_and c.from_residual-in_err-push.result c.from_residual-in_err-push.ensures.1).1 (record { logs = tt; sources = tt; queues = tt })

pub returns-in_err-extend_from_slice : goal.returns-in_err-extend_from_slice
returns-in_err-extend_from_slice c = rw (err_from_is_err_and c.from_residual-in_err-extend_from_slice.result c.from_residual-in_err-extend_from_slice.ensures.1).1 (record { logs = tt; sources = tt; queues = tt })
