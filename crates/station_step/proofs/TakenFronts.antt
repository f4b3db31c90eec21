-- The tallies of the fronts: one token more is taken of each, or put back at each, and what is seen of the queues then.
use Rattle.std.proofs.Common.{◌≡◌, ◌≢◌, ℕ, zero, suc, ◌+◌, ◌<◌, ◌≤◌, max, List, [], ◌∷◌, length, map, get_or, set, take, refl, sym, ap, ◌∙◌, subst, arith, ⊎_elim, get_or-set_same, get_or-set_other}
use Rattle.std.specs.Prelude.{None, Some, slice_index}
use Rattle.std.specs.List.{range_with_len}
use Rattle.std.specs.Ordering.{ord_max, nat_cmp}
use Rattle.std.proofs.lemmas.List.{length-map, length-set, get_or-take, length-take-le, get_or_past, ext_get_or}
use Rattle.std.proofs.Math.ListN.{get_or-map as at_map}
use Rattle.std.proofs.lemmas.Bool.{cases_eq, cases_lt}
use Rattle.line_base.specs.Roomy.{RoomyLog}
use Rattle.card_queue.specs.Plain.{PlainQueue, plain_waiting}
use Rattle.event_graph.specs.GreatestValue.{greatest}
use Rattle.station_step.specs.declared.source.Source.{Source}
use Rattle.station_step.specs.declared.tally.Origin.{Origin}
use Rattle.station_step.specs.declared.fronts.Front.{Front}
use Rattle.station_step.specs.Shelf.{queue_at, later_by, with_take, without_takes, OnlyTakes}
use Rattle.station_step.specs.Counts.{QueueTally, no_tally, tally_at, next_place, dates_for, seen_queue, seen_queues, sources_of, origin_of, origins_of, IsTally, AreTallies, one_taken, one_returned}
use Rattle.station_step.specs.Fronts.{front_at, waiting_at, front_asks, FrontsWithin, FrontsApart, NoneAt, AreAllThere, AreDates, AreLaterBy, TakesEach}
use Rattle.station_step.specs.Kept.{saturating}
use Rattle.station_step.proofs.Queues.{length-seen, queue-seen, source-seen, length-firsts, length-waiting, later-twice, front-date, tally-one_taken}
use Rattle.station_step.proofs.Dates.{greatest-more, ord_max-nat, latest-none}

-- ---- the walk that changes the tally of each front

pub record ChangedUpTo (change : QueueTally → QueueTally) (k : ℕ) (fronts : List Front) (old new : List QueueTally) : Type 0 where
  pub count : length new ≡ length old
  pub done : (j : ℕ) → j < k → tally_at new (front_at fronts j).queue ≡ change (tally_at old (front_at fronts j).queue)
  pub rest : (q : ℕ) → ((j : ℕ) → j < k → (front_at fronts j).queue ≢ q) → tally_at new q ≡ tally_at old q

pub changed_none : (change : QueueTally → QueueTally) (fronts : List Front) (tallies : List QueueTally) → ChangedUpTo change 0 fronts tallies tallies
changed_none change fronts tallies = record {
  count = refl;
  done = λ j low. absurd (omega (arith, low));
  rest = λ q none. refl;
}

-- the tally of the next front is as it was
pub not-yet : (change : QueueTally → QueueTally) (k : ℕ) (fronts : List Front) (old mid : List QueueTally) → FrontsApart fronts → k < length fronts → ChangedUpTo change k fronts old mid → tally_at mid (front_at fronts k).queue ≡ tally_at old (front_at fronts k).queue
not-yet change k fronts old mid apart low up_to = up_to.rest (front_at fronts k).queue (λ j less. apart j k less low)

pub changed_more : (change : QueueTally → QueueTally) (k : ℕ) (fronts : List Front) (old mid : List QueueTally) (next : QueueTally) → FrontsApart fronts → k < length fronts → (front_at fronts k).queue < length old → next ≡ change (tally_at old (front_at fronts k).queue) → ChangedUpTo change k fronts old mid → ChangedUpTo change (k + 1) fronts old (set mid (front_at fronts k).queue next)
changed_more change k fronts old mid next apart low there is up_to =
    let q = (front_at fronts k).queue in
    let here : tally_at (set mid q next) q ≡ change (tally_at old q) =
    get_or-set_same mid q next no_tally (omega (arith, there, up_to.count)) ∙ is in
    record {
      count = length-set mid q next ∙ up_to.count;
      done = λ j less.
          ⊎_elim
          (λ (before : j < k). get_or-set_other mid q (front_at fronts j).queue next no_tally (apart j k before low) ∙ up_to.done j before)
          (λ (past : k ≤ j).
          let e : j ≡ k = omega (arith, less, past) in
          ap (λ n. tally_at (set mid q next) (front_at fronts n).queue) e
          ∙ here
          ∙ ap (λ n. change (tally_at old (front_at fronts n).queue)) (sym e))
          (cases_lt j k);
      rest = λ r none.
          get_or-set_other mid q r next no_tally (λ e. none k (omega arith) (sym e))
          ∙ up_to.rest r (λ j less. none j (omega (arith, less)));
    }

-- what is so of each queue where its front is among the first k, and where no front is, is so
at-front : (P : ℕ → Type 0) (k : ℕ) (fronts : List Front) (q : ℕ) → ((j : ℕ) → j < k → P (front_at fronts j).queue) → (((j : ℕ) → j < k → (front_at fronts j).queue ≢ q) → P q) → P q
at-front P zero fronts q among else = else (λ j low. absurd (omega (arith, low)))
at-front P (suc k) fronts q among else =
    ⊎_elim
    (λ (e : q ≡ (front_at fronts k).queue). subst P (sym e) (among k (omega arith)))
    (λ (ne : q ≢ (front_at fronts k).queue).
    at-front P k fronts q (λ j low. among j (omega (arith, low)))
    (λ none.
    else (λ j less.
    ⊎_elim
    (λ (before : j < k). none j before)
    (λ (past : k ≤ j).
    let at : j ≡ k = omega (arith, less, past) in
    λ e. ne (sym e ∙ ap (λ n. (front_at fronts n).queue) at))
    (cases_lt j k))))
    (cases_eq q (front_at fronts k).queue)

-- among the first fronts, a front is the same
pub front-among : (k : ℕ) (fronts : List Front) (j : ℕ) → j < k → front_at (take k fronts) j ≡ front_at fronts j
front-among k fronts j low = get_or-take k fronts j (front_at [] 0) low

-- the tallies of the first k alone change
pub first-changed : (change : QueueTally → QueueTally) (k : ℕ) (fronts : List Front) (old new : List QueueTally) → k ≤ length fronts → length new ≡ length old → ((j : ℕ) → j < length (take k fronts) → tally_at new (front_at (take k fronts) j).queue ≡ change (tally_at old (front_at (take k fronts) j).queue)) → ((q : ℕ) → NoneAt q (take k fronts) → tally_at new q ≡ tally_at old q) → ChangedUpTo change k fronts old new
first-changed change k fronts old new few count each others =
    let many : length (take k fronts) ≡ k = length-take-le k fronts few in
    record {
      count = count;
      done = λ j low.
          subst (λ (f : Front). tally_at new f.queue ≡ change (tally_at old f.queue)) (front-among k fronts j low)
          (each j (omega (arith, low, many)));
      rest = λ q none.
          others q
          (λ j low e.
          let below : j < k = omega (arith, low, many) in
          none j below (ap (λ (f : Front). f.queue) (sym (front-among k fronts j below)) ∙ e));
    }

-- the token is counted no more
returned-taken : (tally : QueueTally) → one_returned (one_taken tally) ≡ tally
returned-taken tally = ap (λ n. (let same : QueueTally = record tally { taken = n } in same)) (omega arith)

-- where each token is put back that was taken, the tallies are as they were
pub all-returned : (k : ℕ) (fronts : List Front) (old mid new : List QueueTally) → ChangedUpTo one_taken k fronts old mid → ChangedUpTo one_returned k fronts mid new → new ≡ old
all-returned k fronts old mid new taken given =
    ext_get_or no_tally new old (given.count ∙ taken.count)
    (λ q there.
    at-front (λ r. tally_at new r ≡ tally_at old r) k fronts q
    (λ j low. given.done j low ∙ ap one_returned (taken.done j low) ∙ returned-taken (tally_at old (front_at fronts j).queue))
    (λ none. given.rest q none ∙ taken.rest q none))

-- ---- what is seen of the queues

abbrev no_queue : PlainQueue
no_queue = record { initial = []; added = []; room = 0; takes = 0 }

some-length : (tokens : List ℕ) → tokens ≢ [] → 0 < length tokens
some-length [] some = absurd (some refl)
some-length (x ∷ xs) some = omega arith

-- of a tally that is as it was
seen-same : (firsts : List ℕ) (room : ℕ) (logs : List RoomyLog) (old new : List QueueTally) (q : ℕ) → length new ≡ length old → tally_at new q ≡ tally_at old q → queue_at (seen_queues firsts room logs new) q ≡ queue_at (seen_queues firsts room logs old) q
seen-same firsts room logs old new q count same =
    ⊎_elim
    (λ (there : q < length old).
    queue-seen firsts room logs new q (omega (arith, there, count))
    ∙ ap (seen_queue firsts room logs) same
    ∙ sym (queue-seen firsts room logs old q there))
    (λ (past : length old ≤ q).
    get_or_past (seen_queues firsts room logs new) q no_queue (omega (arith, past, count, length-seen firsts room logs new))
    ∙ sym (get_or_past (seen_queues firsts room logs old) q no_queue (omega (arith, past, length-seen firsts room logs old))))
    (cases_lt q (length old))

-- where one token more was taken at each front, and one waited there
module _ (firsts : List ℕ) (room : ℕ) (logs : List RoomyLog) (fronts : List Front) (old new : List QueueTally) (are : AreTallies firsts room logs old) (within : FrontsWithin (length old) fronts) (changed : ChangedUpTo one_taken (length fronts) fronts old new) (there : AreAllThere (seen_queues firsts room logs old) fronts) where
  abbrev before : List PlainQueue
  before = seen_queues firsts room logs old

  abbrev after : List PlainQueue
  after = seen_queues firsts room logs new

  -- the tally of a front is sound
  taken-at : (k : ℕ) → k < length fronts → IsTally firsts room logs (tally_at new (front_at fronts k).queue)
  taken-at k low =
      let q = (front_at fronts k).queue in
      let tally = tally_at old q in
      let is = are q (within k low) in
      let waits : 0 < length (plain_waiting (seen_queue firsts room logs tally)) =
      omega (arith, some-length (waiting_at before fronts k) (there k low), ap (λ (queue : PlainQueue). length (plain_waiting queue)) (queue-seen firsts room logs old q (within k low))) in
      subst (IsTally firsts room logs) (sym (changed.done k low))
      (tally-one_taken firsts room logs tally is (omega (arith, waits, length-waiting firsts room logs tally is)))

  -- and so are all
  pub taken-sound : AreTallies firsts room logs new
  taken-sound q low =
      at-front (λ r. IsTally firsts room logs (tally_at new r)) (length fronts) fronts q taken-at
      (λ none. subst (IsTally firsts room logs) (sym (changed.rest q none)) (are q (omega (arith, low, changed.count))))

  pub taken-sources : sources_of new ≡ sources_of old
  taken-sources =
      let source : QueueTally → Source = λ tally. tally.source in
      ext_get_or (record { station = 0; delay = 0 }) (sources_of new) (sources_of old)
      (length-map new source ∙ changed.count ∙ sym (length-map old source))
      (λ q low.
      source-seen new q
      ∙ at-front (λ r. source (tally_at new r) ≡ source (tally_at old r)) (length fronts) fronts q
      (λ j less. ap source (changed.done j less))
      (λ none. ap source (changed.rest q none))
      ∙ sym (source-seen old q))

  pub taken-origins : origins_of new ≡ origins_of old
  taken-origins =
      let none : Origin = origin_of no_tally in
      let seen : (tallies : List QueueTally) (q : ℕ) → get_or (origins_of tallies) q none ≡ origin_of (tally_at tallies q) =
      λ tallies q. at_map origin_of tallies q no_tally in
      ext_get_or none (origins_of new) (origins_of old)
      (length-map new origin_of ∙ changed.count ∙ sym (length-map old origin_of))
      (λ q low.
      seen new q
      ∙ at-front (λ r. origin_of (tally_at new r) ≡ origin_of (tally_at old r)) (length fronts) fronts q
      (λ j less. ap origin_of (changed.done j less))
      (λ none. ap origin_of (changed.rest q none))
      ∙ sym (seen old q))

  taken-each : (k : ℕ) → k < length fronts → queue_at after (front_at fronts k).queue ≡ with_take (queue_at before (front_at fronts k).queue)
  taken-each k low =
      let q = (front_at fronts k).queue in
      queue-seen firsts room logs new q (omega (arith, within k low, changed.count))
      ∙ ap (seen_queue firsts room logs) (changed.done k low)
      ∙ ap with_take (sym (queue-seen firsts room logs old q (within k low)))

  taken-others : (q : ℕ) → NoneAt q fronts → queue_at after q ≡ queue_at before q
  taken-others q none = seen-same firsts room logs old new q changed.count (changed.rest q none)

  taken-only : OnlyTakes before after
  taken-only = record {
    count = length-seen firsts room logs new ∙ changed.count ∙ sym (length-seen firsts room logs old);
    puts = λ q.
        at-front (λ r. without_takes (queue_at after r) ≡ without_takes (queue_at before r)) (length fronts) fronts q
        (λ j less. ap without_takes (taken-each j less))
        (λ none. ap without_takes (taken-others q none));
  }

  pub takes-all : AreDates before fronts → (date : ℕ) → date ≡ greatest (front_asks before fronts) (range_with_len 0 (length fronts)) → TakesEach fronts before after (Some date)
  takes-all dates date is = record {
    there = there;
    dates = dates;
    date = is;
    each = taken-each;
    lacks = tt;
    stays = tt;
    only_takes = taken-only;
    others = taken-others;
  }

-- where one lacks
pub takes-none : (fronts : List Front) (queues : List PlainQueue) → (AreAllThere queues fronts → AreDates queues fronts → ⊥) → TakesEach fronts queues queues None
takes-none fronts queues lacks = record {
  there = tt;
  dates = tt;
  date = tt;
  each = tt;
  lacks = lacks;
  stays = refl;
  only_takes = record { count = refl; puts = λ q. refl };
  others = λ q none. refl;
}

-- ---- the date that they ask for

-- what the next front asks for, where its tally, as the walk lends it, gives a date
pub asks-date : (firsts : List ℕ) (room : ℕ) (logs : List RoomyLog) (tallies : List QueueTally) (fronts : List Front) (k date : ℕ) (lent : QueueTally) → AreTallies firsts room logs tallies → FrontsWithin (length tallies) fronts → AreLaterBy (sources_of tallies) fronts → k < length fronts → lent ≡ tally_at tallies (front_at fronts k).queue → lent.initial ≤ lent.taken → next_place lent < length (dates_for logs lent) → date ≡ slice_index (dates_for logs lent) (next_place lent) → later_by (front_at fronts k).later date ∷ [] ≡ map (later_by (front_at fronts k).extra.value) (take 1 (waiting_at (seen_queues firsts room logs tallies) fronts k))
asks-date firsts room logs tallies fronts k date lent are within later low is past more date_is =
    let q = (front_at fronts k).queue in
    let extra = (front_at fronts k).extra.value in
    let there = within k low in
    let sound : IsTally firsts room logs lent = subst (IsTally firsts room logs) (sym is) (are q there) in
    let delay : (front_at fronts k).later ≡ later_by extra lent.source.delay =
    later k low
    ∙ ap (λ (source : Source). later_by extra source.delay) (source-seen tallies q)
    ∙ ap (λ (t : QueueTally). later_by extra t.source.delay) (sym is) in
    ap (λ n. n ∷ []) (ap (λ n. later_by n date) delay
    ∙ sym (later-twice extra lent.source.delay date)
    ∙ ap (λ n. later_by extra (later_by lent.source.delay n)) date_is)
    ∙ ap (map (later_by extra)) (front-date firsts room logs lent sound past more
    ∙ ap (λ (t : QueueTally). take 1 (plain_waiting (seen_queue firsts room logs t))) is
    ∙ ap (λ (queue : PlainQueue). take 1 (plain_waiting queue)) (sym (queue-seen firsts room logs tallies q there)))

-- the tally of a front past the tokens with which its queue began
pub past-seen : (firsts : List ℕ) (room : ℕ) (logs : List RoomyLog) (tallies : List QueueTally) (q : ℕ) → AreTallies firsts room logs tallies → q < length tallies → length (queue_at (seen_queues firsts room logs tallies) q).initial ≡ (tally_at tallies q).initial
past-seen firsts room logs tallies q are there =
    ap (λ (queue : PlainQueue). length queue.initial) (queue-seen firsts room logs tallies q there)
    ∙ length-firsts firsts room logs (tally_at tallies q) (are q there)

pub dates-seen : (firsts : List ℕ) (room : ℕ) (logs : List RoomyLog) (tallies : List QueueTally) (fronts : List Front) → AreTallies firsts room logs tallies → FrontsWithin (length tallies) fronts → ((k : ℕ) → k < length fronts → (tally_at tallies (front_at fronts k).queue).initial ≤ (tally_at tallies (front_at fronts k).queue).taken) → AreDates (seen_queues firsts room logs tallies) fronts
dates-seen firsts room logs tallies fronts are within past k low =
    let q = (front_at fronts k).queue in
    omega (arith, past k low, past-seen firsts room logs tallies q are (within k low), ap (λ (queue : PlainQueue). queue.takes) (queue-seen firsts room logs tallies q (within k low)))

-- where it gives none, no token waits there that is a date
pub lacks-date : (firsts : List ℕ) (room : ℕ) (logs : List RoomyLog) (tallies : List QueueTally) (fronts : List Front) (k : ℕ) (lent : QueueTally) → AreTallies firsts room logs tallies → FrontsWithin (length tallies) fronts → k < length fronts → lent ≡ tally_at tallies (front_at fronts k).queue → (lent.initial ≤ lent.taken → length (dates_for logs lent) ≤ next_place lent) → AreAllThere (seen_queues firsts room logs tallies) fronts → AreDates (seen_queues firsts room logs tallies) fronts → ⊥
lacks-date firsts room logs tallies fronts k lent are within low is none there dates =
    let q = (front_at fronts k).queue in
    let tally = tally_at tallies q in
    let at = within k low in
    let queue = queue-seen firsts room logs tallies q at in
    let past : tally.initial ≤ tally.taken =
    omega (arith, dates k low, past-seen firsts room logs tallies q are at, ap (λ (p : PlainQueue). p.takes) queue) in
    let over : length (dates_for logs tally) ≤ next_place tally =
    subst (λ (t : QueueTally). t.initial ≤ t.taken → length (dates_for logs t) ≤ next_place t) is none past in
    omega (arith, over, past, some-length _ (there k low), ap (λ (p : PlainQueue). length (plain_waiting p)) queue, length-waiting firsts room logs tally (are q at), (are q at).made_there)

-- the date that the first token asks for, where one waits
first-is : (waiting : List ℕ) (extra date : ℕ) → date ∷ [] ≡ map (later_by extra) (take 1 waiting) → date ≡ saturating (slice_index waiting 0) extra
first-is [] extra date front = absurd (omega (arith, ap length front))
first-is (x ∷ xs) extra date front = ap (λ (l : List ℕ). slice_index l 0) front

pub some-there : (waiting : List ℕ) (extra date : ℕ) → date ∷ [] ≡ map (later_by extra) (take 1 waiting) → waiting ≢ []
some-there waiting extra date front none =
    absurd (omega (arith, ap length front, ap (λ (l : List ℕ). length (map (later_by extra) (take 1 l))) none))

-- one front more asks
pub front-none : (shelf : List PlainQueue) (fronts : List Front) → 0 ≡ greatest (front_asks shelf fronts) (range_with_len 0 0)
front-none shelf fronts = latest-none (front_asks shelf fronts)

pub latest-front_more : (shelf : List PlainQueue) (fronts : List Front) (k latest date : ℕ) → latest ≡ greatest (front_asks shelf fronts) (range_with_len 0 k) → date ∷ [] ≡ map (later_by (front_at fronts k).extra.value) (take 1 (waiting_at shelf fronts k)) → ord_max nat_cmp latest date ≡ greatest (front_asks shelf fronts) (range_with_len 0 (k + 1))
latest-front_more shelf fronts k latest date is front =
    let asks = front_asks shelf fronts in
    let at : k ≡ 0 + k = omega arith in
    let here : date ≡ asks (0 + k) =
    first-is (waiting_at shelf fronts k) (front_at fronts k).extra.value date front ∙ ap asks at in
    let next : suc k ≡ k + 1 = omega arith in
    ord_max-nat latest date
    ∙ ap (λ m. max m date) is
    ∙ ap (max (greatest asks (range_with_len 0 k))) here
    ∙ sym (greatest-more asks 0 k)
    ∙ ap (λ m. greatest asks (range_with_len 0 m)) next
