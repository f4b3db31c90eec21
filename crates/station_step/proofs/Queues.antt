-- The queues of a shelf by their counts and the logs: what is read there, and what a take or a date more changes.
use Rattle.std.proofs.Common.{◌≡◌, ◌≢◌, ℕ, ◌+◌, ◌-◌, ◌<◌, ◌≤◌, List, [], ◌∷◌, ◌++◌, length, get_or, set, take, drop, map, refl, sym, ap, ◌∙◌, subst, arith, ⊎_elim, append_assoc, length-append, length-drop, get_or-set_same, get_or-set_other}
use Rattle.std.specs.Prelude.{Option, None, Some, IsNone, IfSome, IfNone, ◌↔◌, option_to_list, slice_index}
use Rattle.std.proofs.lemmas.List.{append-nil, length-map, length-set, map-set, map_push, get_or-map, set-get_or, length-take-le, get_or-take, get_or-drop, get_or_append_left, get_or-append_right, drop_more, drop_all, drop-append-le, take_more, take-append-le, get_or_past, get_or_read}
use Rattle.std.proofs.Math.Seq.{map-set_same}
use Rattle.std.proofs.Math.ListN.{get_or-map as at_map}
use Rattle.std.proofs.lemmas.Bool.{cases_lt, cases_eq}
use Rattle.line_base.specs.Roomy.{RoomyLog, with_date}
use Rattle.card_queue.specs.Plain.{PlainQueue, plain_tokens, plain_taken, plain_waiting}
use Rattle.station_step.specs.declared.tally.Origin.{Origin}
use Rattle.station_step.specs.Counts.{QueueTally}
use Rattle.station_step.specs.Shelf.{log_on, source_at, later_by, queue_at, without_takes, with_take}
use Rattle.station_step.specs.Counts.{no_tally, tally_at, dates_for, firsts_of, seen_queue, seen_queues, sources_of, origin_of, origins_of, IsTally, AreTallies, one_taken}

abbrev no_queue : PlainQueue
no_queue = record { initial = []; added = []; room = 0; takes = 0 }

-- ---- what is seen

pub length-seen : (firsts : List ℕ) (room : ℕ) (logs : List RoomyLog) (tallies : List QueueTally) → length (seen_queues firsts room logs tallies) ≡ length tallies
length-seen firsts room logs tallies = length-map tallies (seen_queue firsts room logs)

pub queue-seen : (firsts : List ℕ) (room : ℕ) (logs : List RoomyLog) (tallies : List QueueTally) (k : ℕ) → k < length tallies → queue_at (seen_queues firsts room logs tallies) k ≡ seen_queue firsts room logs (tally_at tallies k)
queue-seen firsts room logs tallies k low = get_or-map (seen_queue firsts room logs) tallies k no_tally no_queue low

pub source-seen : (tallies : List QueueTally) (k : ℕ) → source_at (sources_of tallies) k ≡ (tally_at tallies k).source
source-seen tallies k = at_map (λ (tally : QueueTally). tally.source) tallies k no_tally

-- the origin of queue k, as the shelf lends it
pub origin-lent : (tallies : List QueueTally) (origins : List Origin) (k : ℕ) (lent : Origin) → origins ≡ origins_of tallies → k < length tallies → lent ≡ get_or origins k lent → lent ≡ origin_of (tally_at tallies k)
origin-lent tallies origins k lent are low read =
    read
    ∙ ap (λ (l : List Origin). get_or l k lent) are
    ∙ get_or-map origin_of tallies k no_tally lent low

-- a queue of the shelf has a tally
pub tally_there : (firsts : List ℕ) (room : ℕ) (logs : List RoomyLog) (tallies : List QueueTally) (queues : List PlainQueue) (k : ℕ) → seen_queues firsts room logs tallies ≡ queues → k < length queues → k < length tallies
tally_there firsts room logs tallies queues k is low = omega (arith, low, ap length is, length-seen firsts room logs tallies)

-- the tally of queue k, as the shelf lends it
pub record IsLent (firsts : List ℕ) (room : ℕ) (logs : List RoomyLog) (tallies : List QueueTally) (k : ℕ) (lent : QueueTally) : Type 0 where
  pub there : k < length tallies
  pub at : lent ≡ tally_at tallies k
  pub sound : IsTally firsts room logs lent

pub tally-lent : (firsts : List ℕ) (room : ℕ) (logs : List RoomyLog) (tallies : List QueueTally) (queues : List PlainQueue) (k : ℕ) (lent : QueueTally) → seen_queues firsts room logs tallies ≡ queues → k < length queues → lent ≡ get_or tallies k lent → AreTallies firsts room logs tallies → IsLent firsts room logs tallies k lent
tally-lent firsts room logs tallies queues k lent is low read are =
    let there = tally_there firsts room logs tallies queues k is low in
    let at : lent ≡ tally_at tallies k = get_or_read tallies k lent there read no_tally in
    record { there = there; at = at; sound = subst (IsTally firsts room logs) (sym at) (are k there) }

-- ---- one queue

-- two delays, one after the other
pub later-twice : (extra delay date : ℕ) → later_by extra (later_by delay date) ≡ later_by (later_by extra delay) date
later-twice extra delay date = omega (arith)

front-there : (tokens : List ℕ) (i token : ℕ) → i < length tokens → get_or tokens i 0 ≡ token → token ∷ [] ≡ take 1 (drop i tokens)
front-there tokens i token low is =
    ap (λ n. n ∷ []) (sym is) ∙ sym (ap (take 1) (drop_more tokens i 0 low))

module _ (firsts : List ℕ) (room : ℕ) (logs : List RoomyLog) (tally : QueueTally) (is : IsTally firsts room logs tally) where
  abbrev initial : List ℕ
  initial = firsts_of firsts tally

  abbrev source_dates : List ℕ
  source_dates = dates_for logs tally

  abbrev later : ℕ → ℕ
  later = later_by tally.source.delay

  abbrev added : List ℕ
  added = map later (drop tally.made source_dates)

  pub length-firsts : length initial ≡ tally.initial
  length-firsts = length-take-le tally.initial (drop tally.start firsts) (omega (arith, is.began, length-drop tally.start firsts))

  length-added : length added ≡ length source_dates - tally.made
  length-added = length-map (drop tally.made source_dates) later ∙ length-drop tally.made source_dates

  -- how many tokens it was given
  pub length-tokens : length (plain_tokens (seen_queue firsts room logs tally)) ≡ tally.initial + (length source_dates - tally.made)
  length-tokens = omega (arith, length-append initial added, length-firsts, length-added)

  -- how many of them wait
  pub length-waiting : length (plain_waiting (seen_queue firsts room logs tally)) ≡ tally.initial + (length source_dates - tally.made) - tally.taken
  length-waiting = length-drop tally.taken (initial ++ added) ∙ ap (λ n. n - tally.taken) length-tokens

  -- the front token: one that the queue began with, or a date of its source
  pub front-initial : tally.taken < tally.initial → slice_index firsts (tally.start + tally.taken) ∷ [] ≡ take 1 (plain_waiting (seen_queue firsts room logs tally))
  front-initial less =
      front-there (initial ++ added) tally.taken _ (omega (arith, length-append initial added, length-firsts, less))
      (get_or_append_left initial added 0 tally.taken (omega (arith, length-firsts, less))
      ∙ get_or-take tally.initial (drop tally.start firsts) tally.taken 0 less
      ∙ get_or-drop tally.start firsts tally.taken 0)

  pub front-date : tally.initial ≤ tally.taken → tally.made + (tally.taken - tally.initial) < length source_dates → later (slice_index source_dates (tally.made + (tally.taken - tally.initial))) ∷ [] ≡ take 1 (plain_waiting (seen_queue firsts room logs tally))
  front-date past more =
      let index = tally.taken - tally.initial in
      front-there (initial ++ added) tally.taken _ (omega (arith, length-append initial added, length-firsts, length-added, more, past))
      (get_or-append_right initial added tally.initial tally.taken 0 length-firsts past
      ∙ get_or-map later (drop tally.made source_dates) index 0 0 (omega (arith, length-drop tally.made source_dates, more))
      ∙ ap later (get_or-drop tally.made source_dates index 0))

  -- and none where as many were taken as it was given
  front-none : tally.initial ≤ tally.taken → length source_dates ≤ tally.made + (tally.taken - tally.initial) → [] ≡ take 1 (plain_waiting (seen_queue firsts room logs tally))
  front-none past all =
      ap (take 1) (sym (drop_all tally.taken (initial ++ added) (omega (arith, length-tokens, past, all, is.made_there))))

  -- what is taken of those that the queue began with, where no date was
  pub front-first : (token : Option ℕ) (rest : QueueTally) → rest ≡ tally → IfSome token (λ _. rest.taken < rest.initial) → IfSome token (λ n. n ≡ slice_index firsts (rest.start + rest.taken)) → IfNone token (rest.initial ≤ rest.taken) → (tally.initial ≤ tally.taken → length source_dates ≤ tally.made + (tally.taken - tally.initial)) → option_to_list token ≡ take 1 (plain_waiting (seen_queue firsts room logs tally))
  front-first None rest same before at past all =
      let over : tally.initial ≤ tally.taken = subst (λ (t : QueueTally). t.initial ≤ t.taken) same past in
      front-none over (all over)
  front-first (Some token) rest same before at past all =
      ap (λ n. n ∷ []) (at ∙ ap (λ (t : QueueTally). slice_index firsts (t.start + t.taken)) same)
      ∙ front-initial (subst (λ (t : QueueTally). t.taken < t.initial) same before)

-- ---- a take

pub record TakenFrom (old new : List PlainQueue) (k : ℕ) (token : Option ℕ) : Type 0 where
  pub front : option_to_list token ≡ take 1 (plain_waiting (queue_at old k))
  pub counted : IfSome token (λ _. new ≡ set old k (with_take (queue_at old k)))
  pub stays : IfNone token (new ≡ old)
  pub only : new ≡ set old k (queue_at new k)
  pub taken : plain_taken (queue_at new k) ≡ plain_taken (queue_at old k) ++ option_to_list token
  pub none : IsNone token ↔ (plain_waiting (queue_at old k) ≡ [])
  pub puts : without_takes (queue_at new k) ≡ without_takes (queue_at old k)

-- the tally is sound after it
pub tally-one_taken : (firsts : List ℕ) (room : ℕ) (logs : List RoomyLog) (tally : QueueTally) → IsTally firsts room logs tally → tally.taken < tally.initial + (length (dates_for logs tally) - tally.made) → IsTally firsts room logs (one_taken tally)
tally-one_taken firsts room logs tally is more = record {
  began = is.began;
  counted = is.counted;
  few = is.few;
  there = is.there;
  made_there = is.made_there;
  taken_there = omega (arith, more);
  fits = is.fits;
}

-- a list whose front is there isn't empty
front_below : (tokens : List ℕ) (i token : ℕ) → token ∷ [] ≡ take 1 (drop i tokens) → i < length tokens
front_below tokens i token front =
    ⊎_elim
    (λ (less : i < length tokens). less)
    (λ (past : length tokens ≤ i).
    let none : token ∷ [] ≡ [] = front ∙ ap (take 1) (drop_all i tokens past) in
    absurd (omega (arith, ap length none)))
    (cases_lt i (length tokens))

pub front-more : (tokens : List ℕ) (i token : ℕ) → token ∷ [] ≡ take 1 (drop i tokens) → take (i + 1) tokens ≡ take i tokens ++ token ∷ []
front-more tokens i token front =
    let low = front_below tokens i token front in
    take_more tokens i 0 low
    ∙ ap (λ (xs : List ℕ). take i tokens ++ xs) (sym (front ∙ ap (take 1) (drop_more tokens i 0 low)))

front-empty : (waiting : List ℕ) → [] ≡ take 1 waiting → waiting ≡ []
front-empty [] front = refl
front-empty (x ∷ xs) front = absurd (omega (arith, ap length front))

-- the front of a list in which something is
pub front-some : (waiting : List ℕ) → waiting ≢ [] → slice_index waiting 0 ∷ [] ≡ take 1 waiting
front-some [] some = absurd (some refl)
front-some (x ∷ xs) some = refl

pub take-none : (shelf : List PlainQueue) (k : ℕ) → k < length shelf → [] ≡ take 1 (plain_waiting (queue_at shelf k)) → TakenFrom shelf shelf k None
take-none shelf k low front = record {
  front = front;
  counted = tt;
  stays = refl;
  only = sym (set-get_or shelf k no_queue);
  taken = sym (append-nil (plain_taken (queue_at shelf k)));
  none = (λ _. front-empty (plain_waiting (queue_at shelf k)) front, λ _. refl);
  puts = refl;
}

-- and where one is there, it is counted
pub take-some : (shelf : List PlainQueue) (k token : ℕ) → k < length shelf → token ∷ [] ≡ take 1 (plain_waiting (queue_at shelf k)) → TakenFrom shelf (set shelf k (with_take (queue_at shelf k))) k (Some token)
take-some shelf k token low front =
    let was = queue_at shelf k in
    let now : queue_at (set shelf k (with_take was)) k ≡ with_take was = get_or-set_same shelf k (with_take was) no_queue low in
    record {
      front = front;
      counted = refl;
      stays = tt;
      only = ap (set shelf k) (sym now);
      taken = ap plain_taken now ∙ front-more (plain_tokens was) was.takes token front;
      none = (λ none. absurd (cc), λ empty. absurd (omega (arith, ap length (front ∙ ap (take 1) empty))));
      puts = ap without_takes now;
    }

module _ (firsts : List ℕ) (room : ℕ) (logs : List RoomyLog) (tallies : List QueueTally) (k token : ℕ) (is : AreTallies firsts room logs tallies) (low : k < length tallies) (front : token ∷ [] ≡ take 1 (plain_waiting (seen_queue firsts room logs (tally_at tallies k)))) where
  abbrev taken_from : QueueTally
  taken_from = tally_at tallies k

  abbrev old : List PlainQueue
  old = seen_queues firsts room logs tallies

  abbrev new : List PlainQueue
  new = seen_queues firsts room logs (set tallies k (one_taken taken_from))

  -- what is seen of all queues after it
  pub take-counted : new ≡ set old k (with_take (queue_at old k))
  take-counted =
      map-set (seen_queue firsts room logs) tallies k (one_taken taken_from)
      ∙ ap (λ (queue : PlainQueue). set old k (with_take queue)) (sym (queue-seen firsts room logs tallies k low))

  pub take-sound : AreTallies firsts room logs (set tallies k (one_taken taken_from))
  take-sound q there =
      let next = one_taken taken_from in
      let queue = seen_queue firsts room logs taken_from in
      let more : taken_from.taken < taken_from.initial + (length (dates_for logs taken_from) - taken_from.made) =
      omega (arith, front_below (plain_tokens queue) queue.takes token front, length-tokens firsts room logs taken_from (is k low)) in
      ⊎_elim
      (λ (e : q ≡ k).
      subst (λ (n : ℕ). IsTally firsts room logs (tally_at (set tallies k next) n)) (sym e)
      (subst (IsTally firsts room logs) (sym (get_or-set_same tallies k next no_tally low)) (tally-one_taken firsts room logs taken_from (is k low) more)))
      (λ (ne : q ≢ k).
      subst (IsTally firsts room logs) (sym (get_or-set_other tallies k q next no_tally ne)) (is q (omega (arith, there, length-set tallies k next))))
      (cases_eq q k)

  pub take-sources : sources_of (set tallies k (one_taken taken_from)) ≡ sources_of tallies
  take-sources = map-set_same (λ (t : QueueTally). t.source) tallies k (one_taken taken_from) no_tally refl

  pub take-origins : origins_of (set tallies k (one_taken taken_from)) ≡ origins_of tallies
  take-origins = map-set_same origin_of tallies k (one_taken taken_from) no_tally refl

-- a take of one tally, as the shelf lends it, and what it does to all of them
pub record ShelfTook (firsts : List ℕ) (room : ℕ) (logs : List RoomyLog) (old new : List QueueTally) (k : ℕ) (token : Option ℕ) : Type 0 where
  pub sound : AreTallies firsts room logs new
  pub sources : sources_of new ≡ sources_of old
  pub origins : origins_of new ≡ origins_of old
  pub took : TakenFrom (seen_queues firsts room logs old) (seen_queues firsts room logs new) k token

-- what the queue shows of its front
front-seen : (firsts : List ℕ) (room : ℕ) (logs : List RoomyLog) (tallies : List QueueTally) (k : ℕ) (front : List ℕ) → k < length tallies → front ≡ take 1 (plain_waiting (seen_queue firsts room logs (tally_at tallies k))) → front ≡ take 1 (plain_waiting (queue_at (seen_queues firsts room logs tallies) k))
front-seen firsts room logs tallies k front low is =
    is ∙ ap (λ (queue : PlainQueue). take 1 (plain_waiting queue)) (sym (queue-seen firsts room logs tallies k low))

pub shelf-took : (firsts : List ℕ) (room : ℕ) (logs : List RoomyLog) (tallies : List QueueTally) (k : ℕ) (lent left : QueueTally) (token : Option ℕ) → AreTallies firsts room logs tallies → IsLent firsts room logs tallies k lent → option_to_list token ≡ take 1 (plain_waiting (seen_queue firsts room logs lent)) → IfSome token (λ _. left ≡ one_taken lent) → IfNone token (left ≡ lent) → ShelfTook firsts room logs tallies (set tallies k left) k token
shelf-took firsts room logs tallies k lent left None are is front counted stays =
    let seen = seen_queues firsts room logs tallies in
    let low : k < length seen = omega (arith, is.there, length-seen firsts room logs tallies) in
    let at : [] ≡ take 1 (plain_waiting (seen_queue firsts room logs (tally_at tallies k))) =
    front ∙ ap (λ (t : QueueTally). take 1 (plain_waiting (seen_queue firsts room logs t))) is.at in
    let same : set tallies k left ≡ tallies = ap (set tallies k) (stays ∙ is.at) ∙ set-get_or tallies k no_tally in
    subst (λ (new : List QueueTally). ShelfTook firsts room logs tallies new k None) (sym same) (record {
      sound = are;
      sources = refl;
      origins = refl;
      took = take-none seen k low (front-seen firsts room logs tallies k [] is.there at);
    })
shelf-took firsts room logs tallies k lent left (Some token) are is front counted stays =
    let seen = seen_queues firsts room logs tallies in
    let low : k < length seen = omega (arith, is.there, length-seen firsts room logs tallies) in
    let at : token ∷ [] ≡ take 1 (plain_waiting (seen_queue firsts room logs (tally_at tallies k))) =
    front ∙ ap (λ (t : QueueTally). take 1 (plain_waiting (seen_queue firsts room logs t))) is.at in
    subst (λ (t : QueueTally). ShelfTook firsts room logs tallies (set tallies k t) k (Some token)) (sym (counted ∙ ap one_taken is.at)) (record {
      sound = take-sound firsts room logs tallies k token are is.there at;
      sources = take-sources firsts room logs tallies k token are is.there at;
      origins = take-origins firsts room logs tallies k token are is.there at;
      took = subst (λ (new : List PlainQueue). TakenFrom seen new k (Some token)) (sym (take-counted firsts room logs tallies k token are is.there at)) (take-some seen k token low (front-seen firsts room logs tallies k (token ∷ []) is.there at));
    })

-- ---- a date more

abbrev no_log : RoomyLog
no_log = record { dates = []; room = 0 }

added-taken : (initial added more : List ℕ) (takes : ℕ) → takes ≤ length (initial ++ added) → take takes (initial ++ (added ++ more)) ≡ take takes (initial ++ added)
added-taken initial added more takes few =
    ap (take takes) (sym (append_assoc initial added more)) ∙ take-append-le takes (initial ++ added) more few

module _ (firsts : List ℕ) (room : ℕ) (logs : List RoomyLog) (tallies : List QueueTally) (i date : ℕ) (is : AreTallies firsts room logs tallies) (low : i < length logs) where
  abbrev log : RoomyLog
  log = with_date (log_on logs i) date

  abbrev longer : List RoomyLog
  longer = set logs i log

  -- a queue that comes from elsewhere sees what it saw
  dates-else : (tally : QueueTally) → tally.source.station ≢ i → dates_for longer tally ≡ dates_for logs tally
  dates-else tally ne = ap (λ (l : RoomyLog). l.dates) (get_or-set_other logs i tally.source.station log no_log ne)

  dates-here : (tally : QueueTally) → tally.source.station ≡ i → dates_for longer tally ≡ dates_for logs tally ++ date ∷ []
  dates-here tally e =
      ap (λ n. (log_on longer n).dates) e
      ∙ ap (λ (l : RoomyLog). l.dates) (get_or-set_same logs i log no_log low)
      ∙ ap (λ n. (log_on logs n).dates ++ date ∷ []) (sym e)

  queue-dates : (tally : QueueTally) (dates : List ℕ) → dates_for longer tally ≡ dates → seen_queue firsts room longer tally ≡ record (seen_queue firsts room logs tally) { added = map (later_by tally.source.delay) (drop tally.made dates) }
  queue-dates tally dates e =
      ap (λ (l : List ℕ). (let q : PlainQueue = record (seen_queue firsts room logs tally) { added = map (later_by tally.source.delay) (drop tally.made l) } in q)) e

  added-here : (tally : QueueTally) → IsTally firsts room logs tally → tally.source.station ≡ i → seen_queue firsts room longer tally ≡ record (seen_queue firsts room logs tally) { added = (seen_queue firsts room logs tally).added ++ later_by tally.source.delay date ∷ [] }
  added-here tally sound e =
      queue-dates tally (dates_for logs tally ++ date ∷ []) (dates-here tally e)
      ∙ ap (λ (l : List ℕ). (let q : PlainQueue = record (seen_queue firsts room logs tally) { added = l } in q))
      (ap (map (later_by tally.source.delay)) (drop-append-le tally.made (dates_for logs tally) (date ∷ []) sound.made_there)
      ∙ map_push (later_by tally.source.delay) (drop tally.made (dates_for logs tally)) date)

  abbrev was : List PlainQueue
  was = seen_queues firsts room logs tallies

  abbrev now : List PlainQueue
  now = seen_queues firsts room longer tallies

  pub add-here : (q : ℕ) → q < length tallies → (tally_at tallies q).source.station ≡ i → queue_at now q ≡ record (queue_at was q) { added = (queue_at was q).added ++ later_by (tally_at tallies q).source.delay date ∷ [] }
  add-here q there e =
      let tally = tally_at tallies q in
      queue-seen firsts room longer tallies q there
      ∙ added-here tally (is q there) e
      ∙ ap (λ (queue : PlainQueue). (let p : PlainQueue = record queue { added = queue.added ++ later_by tally.source.delay date ∷ [] } in p)) (sym (queue-seen firsts room logs tallies q there))

  pub add-else : (q : ℕ) → (q < length tallies → (tally_at tallies q).source.station ≢ i) → queue_at now q ≡ queue_at was q
  add-else q other =
      ⊎_elim
      (λ (there : q < length tallies).
      let tally = tally_at tallies q in
      queue-seen firsts room longer tallies q there
      ∙ queue-dates tally (dates_for logs tally) (dates-else tally (other there))
      ∙ sym (queue-seen firsts room logs tallies q there))
      (λ (past : length tallies ≤ q).
      get_or_past now q no_queue (omega (arith, past, length-seen firsts room longer tallies))
      ∙ sym (get_or_past was q no_queue (omega (arith, past, length-seen firsts room logs tallies))))
      (cases_lt q (length tallies))

  pub add-taken : (q : ℕ) → plain_taken (queue_at now q) ≡ plain_taken (queue_at was q)
  add-taken q =
      ⊎_elim
      (λ (there : q < length tallies).
      let tally = tally_at tallies q in
      let sound = is q there in
      let queue = seen_queue firsts room logs tally in
      ⊎_elim
      (λ (e : tally.source.station ≡ i).
      ap plain_taken (queue-seen firsts room longer tallies q there ∙ added-here tally sound e)
      ∙ added-taken queue.initial queue.added (later_by tally.source.delay date ∷ []) queue.takes (omega (arith, length-tokens firsts room logs tally sound, sound.taken_there))
      ∙ ap plain_taken (sym (queue-seen firsts room logs tallies q there)))
      (λ (ne : tally.source.station ≢ i). ap plain_taken (add-else q (λ _. ne)))
      (cases_eq tally.source.station i))
      (λ (past : length tallies ≤ q). ap plain_taken (add-else q (λ there. absurd (omega (arith, there, past)))))
      (cases_lt q (length tallies))

  -- a tally is sound over it, where there was room for what came
  sound-over : (tally : QueueTally) → IsTally firsts room logs tally → length (dates_for logs tally) ≤ length (dates_for longer tally) → length (dates_for longer tally) ≤ tally.made + room → IsTally firsts room longer tally
  sound-over tally sound grown fits = record {
    began = sound.began;
    counted = sound.counted;
    few = sound.few;
    there = omega (arith, sound.there, length-set logs i log);
    made_there = omega (arith, sound.made_there, grown);
    taken_there = omega (arith, sound.taken_there, sound.made_there, grown);
    fits = fits;
  }

  -- and so are all of them
  pub add-sound : ((q : ℕ) → q < length tallies → (tally_at tallies q).source.station ≡ i → length (queue_at was q).added < room) → AreTallies firsts room longer tallies
  add-sound has q there =
      let tally = tally_at tallies q in
      let sound = is q there in
      ⊎_elim
      (λ (e : tally.source.station ≡ i).
      let more : length (dates_for longer tally) ≡ length (dates_for logs tally) + 1 = ap length (dates-here tally e) ∙ length-append (dates_for logs tally) (date ∷ []) in
      let fits : length (dates_for logs tally) - tally.made < room =
      omega (arith, has q there e, ap (λ (queue : PlainQueue). length queue.added) (queue-seen firsts room logs tallies q there), length-added firsts room logs tally sound) in
      sound-over tally sound (omega (arith, more)) (omega (arith, fits, more, sound.made_there)))
      (λ (ne : tally.source.station ≢ i).
      let same : length (dates_for longer tally) ≡ length (dates_for logs tally) = ap length (dates-else tally ne) in
      sound-over tally sound (omega (arith, same)) (omega (arith, sound.fits, same)))
      (cases_eq tally.source.station i)
