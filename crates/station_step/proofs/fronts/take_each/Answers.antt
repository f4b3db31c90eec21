use Rattle.std.proofs.Common.{◌≡◌, ◌≢◌, ◌+◌, ◌<◌, ◌≤◌, List, [], ◌∷◌, length, get_or, map, set, take, sym, ap, subst, ◌∙◌, arith, ⊎_elim}
use Rattle.std.specs.Prelude.{None}
use Rattle.std.specs.List.{range_with_len}
use Rattle.std.proofs.lemmas.Bool.{cases_lt}
use Rattle.std.proofs.lemmas.List.{get_or_default, set-get_or, length-take-le}
use Rattle.event_graph.specs.GreatestValue.{greatest}
use Rattle.station_step.specs.declared.fronts.Front.{Front}
use Rattle.station_step.specs.Shelf.{later_by}
use Rattle.station_step.specs.Counts.{QueueTally, no_tally, tally_at, seen_queues, sources_of, origins_of, AreTallies, one_taken, one_returned}
use Rattle.station_step.specs.Fronts.{front_at, waiting_at, front_asks, AreAllThere, TakesEach}
use Rattle.station_step.proofs.TakenFronts.{ChangedUpTo, changed_none, changed_more, not-yet, first-changed, all-returned, taken-sound, taken-sources, taken-origins, takes-all, takes-none, front-among, asks-date, dates-seen, lacks-date, some-there, front-none, latest-front_more}
use Rattle.station_step.proofs.fronts.take_each.Goals as goal
use Rattle.station_step.proofs.fronts.take_each.Goals.{After-loop-k, After-index-tallies-front, After-give_back}

pub loop-k-init : goal.loop-k-init
loop-k-init c = record {
  counted = changed_none one_taken c.args.fronts.now c.args.tallies.now;
  dates = λ j low. absurd (omega (arith, low));
  there = λ j low. absurd (omega (arith, low));
  date = front-none (seen_queues c.args.firsts.now c.args.room.now.value c.args.logs.now c.args.tallies.now) c.args.fronts.now;
}

front_is : (c : After-index-tallies-front) → c.index-fronts-k.result ≡ front_at c.args.fronts.now c.loop-k.k
front_is c =
    c.index-fronts-k.is ∙ get_or_default c.args.fronts.now c.loop-k.k c.index-fronts-k.result (front_at [] 0) (omega (arith, c.loop-k-test.true))

-- the tally of the front, as the walk finds it: it is as it was
lent : (c : After-index-tallies-front) → get_or c.loop-k.tallies c.index-fronts-k.result.queue c.index-tallies-front.result ≡ tally_at c.args.tallies.now (front_at c.args.fronts.now c.loop-k.k).queue
lent c =
    let k = c.loop-k.k in
    let q = (front_at c.args.fronts.now k).queue in
    let low : k < length c.args.fronts.now = omega (arith, c.loop-k-test.true) in
    let there : q < length c.loop-k.tallies = omega (arith, c.requires.within k low, c.loop-k.invariant.counted.count) in
    ap (λ (f : Front). get_or c.loop-k.tallies f.queue c.index-tallies-front.result) (front_is c)
    ∙ get_or_default c.loop-k.tallies q c.index-tallies-front.result no_tally there
    ∙ not-yet one_taken k c.args.fronts.now c.args.tallies.now c.loop-k.tallies c.requires.apart low c.loop-k.invariant.counted

pub loop-k-preserved : goal.loop-k-preserved
loop-k-preserved c =
    let queues = seen_queues c.args.firsts.now c.args.room.now.value c.args.logs.now c.args.tallies.now in
    let fronts = c.args.fronts.now in
    let k = c.loop-k.k in
    let was = c.loop-k.invariant in
    let low : k < length fronts = omega (arith, c.loop-k-test.true) in
    let date = c.saturating_add.result in
    let extra = (front_at fronts k).extra.value in
    let from = goal.at.loop-k-preserved c in
    let tally = get_or c.loop-k.tallies c.index-fronts-k.result.queue c.index-tallies-front.result in
    let is : tally ≡ tally_at c.args.tallies.now (front_at fronts k).queue = lent from.After-index-tallies-front in
    let front : date ∷ [] ≡ map (later_by extra) (take 1 (waiting_at queues fronts k)) =
    ap (λ n. n ∷ []) (c.saturating_add.ensures ∙ ap (λ (f : Front). later_by f.later c.in-Some.date) (front_is from.After-index-tallies-front))
    ∙ asks-date c.args.firsts.now c.args.room.now.value c.args.logs.now c.args.tallies.now fronts k c.in-Some.date tally c.requires.sound c.requires.within c.requires.later low is c.in-Some.ensures.past c.in-Some.ensures.more c.in-Some.ensures.date in
    record {
      counted = subst (λ (f : Front). ChangedUpTo one_taken (k + 1) fronts c.args.tallies.now (set c.loop-k.tallies f.queue c.take_date.new.self)) (sym (front_is from.After-index-tallies-front))
          (changed_more one_taken k fronts c.args.tallies.now c.loop-k.tallies c.take_date.new.self c.requires.apart low (c.requires.within k low) (c.in-Some.ensures.counted ∙ ap one_taken is) was.counted);
      dates = λ j less.
          ⊎_elim
          (λ (before : j < k). was.dates j before)
          (λ (past : k ≤ j).
          let e : j ≡ k = omega (arith, less, past) in
          subst (λ n. (tally_at c.args.tallies.now (front_at fronts n).queue).initial ≤ (tally_at c.args.tallies.now (front_at fronts n).queue).taken) (sym e)
          (subst (λ (t : QueueTally). t.initial ≤ t.taken) is c.in-Some.ensures.past))
          (cases_lt j k);
      there = λ j less.
          ⊎_elim
          (λ (before : j < k). was.there j before)
          (λ (past : k ≤ j).
          let e : j ≡ k = omega (arith, less, past) in
          subst (λ n. waiting_at queues fronts n ≢ []) (sym e) (some-there (waiting_at queues fronts k) extra date front))
          (cases_lt j k);
      date = c.max-latest.ensures
          ∙ latest-front_more queues fronts k c.loop-k.latest date was.date front;
    }

-- ---- where one lacks

-- dates were taken before it
pub give_back-requires-clause-taken : goal.give_back-requires-clause-taken
give_back-requires-clause-taken c j less =
    let fronts = c.args.fronts.now in
    let k = c.loop-k.k in
    let few : k ≤ length fronts = omega (arith, c.loop-k-test.true) in
    let low : j < k = omega (arith, less, length-take-le k fronts few) in
    let mid = c.loop-k.tallies in
    let q = c.index-fronts-k.result.queue in
    let same : set mid q c.take_date.new.self ≡ mid = ap (set mid q) c.in_default.ensures.stays ∙ set-get_or mid q c.index-tallies-front.result in
    let r = (front_at fronts j).queue in
    let old = tally_at c.args.tallies.now r in
    let is : tally_at (set mid q c.take_date.new.self) (front_at (take k fronts) j).queue ≡ one_taken old =
    ap (λ (l : List QueueTally). tally_at l (front_at (take k fronts) j).queue) same
    ∙ ap (λ (f : Front). tally_at mid f.queue) (front-among k fronts j low)
    ∙ c.loop-k.invariant.counted.done j low in
    subst (λ (t : QueueTally). t.initial < t.taken) (sym is) (omega (arith, c.loop-k.invariant.dates j low))

-- the tallies are as they were
as_it_was : (c : After-give_back) → c.give_back.new.tallies ≡ c.args.tallies.now
as_it_was c =
    let fronts = c.args.fronts.now in
    let k = c.loop-k.k in
    let q = c.index-fronts-k.result.queue in
    let few : k ≤ length fronts = omega (arith, c.loop-k-test.true) in
    let mid = c.loop-k.tallies in
    let new = c.give_back.new.tallies in
    let left = set mid q c.take_date.new.self in
    let same : left ≡ mid = ap (set mid q) c.in_default.ensures.stays ∙ set-get_or mid q c.index-tallies-front.result in
    all-returned k fronts c.args.tallies.now mid new c.loop-k.invariant.counted
    (subst (λ (l : List QueueTally). ChangedUpTo one_returned k fronts l new) same
    (first-changed one_returned k fronts left new few c.give_back.ensures.count c.give_back.ensures.each c.give_back.ensures.others))

pub returns-in_default-clause-sound : goal.returns-in_default-clause-sound
returns-in_default-clause-sound c =
    subst (AreTallies c.args.firsts.now c.args.room.now.value c.args.logs.now) (sym (as_it_was (goal.at.returns-in_default-clause-sound c).After-give_back)) c.requires.sound

pub returns-in_default-clause-sources : goal.returns-in_default-clause-sources
returns-in_default-clause-sources c = ap sources_of (as_it_was (goal.at.returns-in_default-clause-sources c).After-give_back)

pub returns-in_default-clause-origins : goal.returns-in_default-clause-origins
returns-in_default-clause-origins c = ap origins_of (as_it_was (goal.at.returns-in_default-clause-origins c).After-give_back)

pub returns-in_default-clause-takes : goal.returns-in_default-clause-takes
returns-in_default-clause-takes c =
    let seen = seen_queues c.args.firsts.now c.args.room.now.value c.args.logs.now in
    let queues = seen c.args.tallies.now in
    let fronts = c.args.fronts.now in
    let k = c.loop-k.k in
    let from = goal.at.returns-in_default-clause-takes c in
    let tally = get_or c.loop-k.tallies c.index-fronts-k.result.queue c.index-tallies-front.result in
    subst (λ (new : List QueueTally). TakesEach fronts queues (seen new) None) (sym (as_it_was from.After-give_back))
    (takes-none fronts queues (lacks-date c.args.firsts.now c.args.room.now.value c.args.logs.now c.args.tallies.now fronts k tally c.requires.sound c.requires.within (omega (arith, c.loop-k-test.true)) (lent from.After-index-tallies-front) c.in_default.ensures.none))

-- ---- where none lacks

-- the walk went over all of them
over : (c : After-loop-k) → c.loop-k.k ≡ length c.args.fronts.now
over c = omega (arith, c.loop-k-test.false, c.loop-k.auto.k-end)

all : (c : After-loop-k) → ChangedUpTo one_taken (length c.args.fronts.now) c.args.fronts.now c.args.tallies.now c.loop-k.tallies
all c = subst (λ n. ChangedUpTo one_taken n c.args.fronts.now c.args.tallies.now c.loop-k.tallies) (over c) c.loop-k.invariant.counted

all_there : (c : After-loop-k) → AreAllThere (seen_queues c.args.firsts.now c.args.room.now.value c.args.logs.now c.args.tallies.now) c.args.fronts.now
all_there c k low = c.loop-k.invariant.there k (omega (arith, low, over c))

pub returns-clause-sound : goal.returns-clause-sound
returns-clause-sound c =
    taken-sound c.args.firsts.now c.args.room.now.value c.args.logs.now c.args.fronts.now c.args.tallies.now c.loop-k.tallies c.requires.sound c.requires.within (all c) (all_there c)

pub returns-clause-sources : goal.returns-clause-sources
returns-clause-sources c =
    taken-sources c.args.firsts.now c.args.room.now.value c.args.logs.now c.args.fronts.now c.args.tallies.now c.loop-k.tallies c.requires.sound c.requires.within (all c) (all_there c)

pub returns-clause-origins : goal.returns-clause-origins
returns-clause-origins c =
    taken-origins c.args.firsts.now c.args.room.now.value c.args.logs.now c.args.fronts.now c.args.tallies.now c.loop-k.tallies c.requires.sound c.requires.within (all c) (all_there c)

pub returns-clause-takes : goal.returns-clause-takes
returns-clause-takes c =
    let queues = seen_queues c.args.firsts.now c.args.room.now.value c.args.logs.now c.args.tallies.now in
    takes-all c.args.firsts.now c.args.room.now.value c.args.logs.now c.args.fronts.now c.args.tallies.now c.loop-k.tallies c.requires.sound c.requires.within (all c) (all_there c)
    (dates-seen c.args.firsts.now c.args.room.now.value c.args.logs.now c.args.tallies.now c.args.fronts.now c.requires.sound c.requires.within (λ k low. c.loop-k.invariant.dates k (omega (arith, low, over c))))
    c.loop-k.latest
    (c.loop-k.invariant.date ∙ ap (λ n. greatest (front_asks queues c.args.fronts.now) (range_with_len 0 n)) (over c))
