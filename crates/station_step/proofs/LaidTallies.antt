-- The tallies of a new shelf, while the first tokens of its queues are laid one after the other.
use Rattle.std.proofs.Common.{◌≡◌, ℕ, ◌+◌, ◌-◌, ◌^◌, ◌<◌, ◌≤◌, List, [], ◌∷◌, ◌++◌, length, map, take, drop, refl, sym, ap, ◌∙◌, subst, arith, ⊎_elim, length-append, length-drop}
use Rattle.std.specs.Prelude.{Vec, slice_index_or}
use Rattle.std.specs.declared.alloc.Global.{Global}
use Rattle.std.proofs.lemmas.List.{get_or_append_left, get_or_push, get_or-map, ext_get_or, drop_at, drop_all, take_all, length-map, map_push, drop-append-le, take-append-le}
use Rattle.std.proofs.lemmas.Bool.{cases_lt}
use Rattle.line_base.specs.Roomy.{RoomyLog}
use Rattle.card_queue.specs.Plain.{PlainQueue}
use Rattle.station_step.specs.declared.source.Source.{Source}
use Rattle.station_step.specs.declared.tally.Origin.{Origin}
use Rattle.station_step.specs.Counts.{QueueTally}
use Rattle.station_step.specs.Shelf.{new_queue, later_by, source_at, log_on}
use Rattle.station_step.specs.Counts.{new_tally, no_tally, origin_of, origins_of, tally_at, dates_for, firsts_of, seen_queues, sources_of, AreTallies}
use Rattle.station_step.proofs.Queues.{length-seen, queue-seen, source-seen}

-- a new queue, whose first tokens stand among these
pub record IsLaid (logs : List RoomyLog) (first : List ℕ) (source : Source) (tokens : List ℕ) (tally : QueueTally) : Type 0 where
  pub began : tally.start + tally.initial ≤ length tokens
  pub initial : tally.initial ≡ length first
  pub stand : firsts_of tokens tally ≡ first
  pub taken : tally.taken ≡ 0
  pub source_is : tally.source ≡ source
  pub made : tally.made ≡ length (dates_for logs tally)

-- the first n queues are laid
pub record LaidUpTo (n : ℕ) (logs : List RoomyLog) (firsts : List (List ℕ)) (sources : List Source) (tokens : List ℕ) (tallies : List QueueTally) : Type 0 where
  pub count : length tallies ≡ n
  pub each : (q : ℕ) → q < n → IsLaid logs (slice_index_or firsts q []) (source_at sources q) tokens (tally_at tallies q)

-- more tokens behind them change nothing
laid-longer : (logs : List RoomyLog) (first : List ℕ) (source : Source) (tokens more : List ℕ) (tally : QueueTally) → IsLaid logs first source tokens tally → IsLaid logs first source (tokens ++ more) tally
laid-longer logs first source tokens more tally is =
    let before : length (drop tally.start tokens) ≡ length tokens - tally.start = length-drop tally.start tokens in
    record {
      began = omega (arith, is.began, length-append tokens more);
      initial = is.initial;
      stand = ap (take tally.initial) (drop-append-le tally.start tokens more (omega (arith, is.began)))
          ∙ take-append-le tally.initial (drop tally.start tokens) more (omega (arith, is.began, before))
          ∙ is.stand;
      taken = is.taken;
      source_is = is.source_is;
      made = is.made;
    }

-- the next queue is laid
pub laid_more : (n : ℕ) (logs : List RoomyLog) (firsts : List (List ℕ)) (sources : List Source) (tokens first : List ℕ) (source : Source) (origin : Origin) (tallies : List QueueTally) → first ≡ slice_index_or firsts n [] → source ≡ source_at sources n → origin.delay ≡ source.delay → origin.made ≡ length (log_on logs source.station).dates → origin.end ≡ length tokens + length first → LaidUpTo n logs firsts sources tokens tallies → LaidUpTo (n + 1) logs firsts sources (tokens ++ first) (tallies ++ new_tally origin source.station (length first) ∷ [])
laid_more n logs firsts sources tokens first source origin tallies first_is source_is delay_is made_is end_is laid =
    let tally : QueueTally = new_tally origin source.station (length first) in
    let none : QueueTally = no_tally in
    let tallies' = tallies ++ tally ∷ [] in
    let start : tally.start ≡ length tokens = omega (arith, end_is) in
    let last : IsLaid logs (slice_index_or firsts n []) (source_at sources n) (tokens ++ first) tally = record {
      began = omega (arith, start, length-append tokens first);
      initial = ap length first_is;
      stand = ap (λ m. take (length first) (drop m (tokens ++ first))) start
          ∙ ap (take (length first)) (drop_at tokens first (length tokens) refl)
          ∙ take_all (length first) first (omega arith)
          ∙ first_is;
      taken = refl;
      source_is = ap (λ d. (let same : Source = record { station = source.station; delay = d } in same)) delay_is ∙ source_is;
      made = made_is;
    } in
    record {
      count = omega (arith, length-append tallies (tally ∷ []), laid.count);
      each = λ q low.
          ⊎_elim
          (λ (less : q < n).
          subst (IsLaid logs (slice_index_or firsts q []) (source_at sources q) (tokens ++ first)) (sym (get_or_append_left tallies (tally ∷ []) none q (omega (arith, less, laid.count))))
          (laid-longer logs (slice_index_or firsts q []) (source_at sources q) tokens first (tally_at tallies q) (laid.each q less)))
          (λ (past : n ≤ q).
          let at : q ≡ n = omega (arith, low, past) in
          subst (λ (m : ℕ). IsLaid logs (slice_index_or firsts m []) (source_at sources m) (tokens ++ first) (tally_at tallies' m)) (sym at)
          (subst (IsLaid logs (slice_index_or firsts n []) (source_at sources n) (tokens ++ first)) (sym (get_or_push tallies tally none n laid.count)) last))
          (cases_lt q n);
    }

-- and so is its origin
pub origins_more : (tallies : List QueueTally) (origins : List Origin) (origin : Origin) (station initial : ℕ) → initial ≤ origin.end → origins ≡ origins_of tallies → origins ++ origin ∷ [] ≡ origins_of (tallies ++ new_tally origin station initial ∷ [])
origins_more tallies origins origin station initial low are =
    let ended : origin.end ≡ origin.end - initial + initial = omega (arith, low) in
    ap (λ (l : List Origin). l ++ origin ∷ []) are
    ∙ ap (λ m. (let same : Origin = record { delay = origin.delay; made = origin.made; end = m } in origins_of tallies ++ same ∷ [])) ended
    ∙ sym (map_push origin_of tallies (new_tally origin station initial))

-- the queues of all of them
pub seen-laid : (logs : List RoomyLog) (firsts : List (List ℕ)) (sources : List Source) (tokens : List ℕ) (room : ℕ) (tallies : List QueueTally) → LaidUpTo (length firsts) logs firsts sources tokens tallies → seen_queues tokens room logs tallies ≡ map (new_queue room) firsts
seen-laid logs firsts sources tokens room tallies laid =
    let seen = seen_queues tokens room logs tallies in
    let wanted = map (new_queue room) firsts in
    let none : PlainQueue = record { initial = []; added = []; room = 0; takes = 0 } in
    let count : length seen ≡ length firsts = length-seen tokens room logs tallies ∙ laid.count in
    ext_get_or none seen wanted (count ∙ sym (length-map firsts (new_queue room)))
    (λ q there.
    let low : q < length firsts = omega (arith, there, count) in
    let tally = tally_at tallies q in
    let is = laid.each q low in
    let first = slice_index_or firsts q [] in
    let later = later_by tally.source.delay in
    let added : map later (drop tally.made (dates_for logs tally)) ≡ [] =
    ap (map later) (drop_all tally.made (dates_for logs tally) (omega (arith, is.made))) in
    let queue : ℕ → List ℕ → List ℕ → PlainQueue =
    λ takes added initial. record { initial = initial; added = added; room = room; takes = takes } in
    queue-seen tokens room logs tallies q (omega (arith, low, laid.count))
    ∙ ap (queue tally.taken (map later (drop tally.made (dates_for logs tally)))) is.stand
    ∙ ap (λ (added : List ℕ). queue tally.taken added first) added
    ∙ ap (λ n. queue n [] first) is.taken
    ∙ sym (get_or-map (new_queue room) firsts q [] none low))

-- their sources
pub sources-laid : (logs : List RoomyLog) (firsts : List (List ℕ)) (sources : List Source) (tokens : List ℕ) (tallies : List QueueTally) → length sources ≡ length firsts → LaidUpTo (length firsts) logs firsts sources tokens tallies → sources_of tallies ≡ sources
sources-laid logs firsts sources tokens tallies each laid =
    let count : length (sources_of tallies) ≡ length firsts = length-map tallies (λ (t : QueueTally). t.source) ∙ laid.count in
    ext_get_or (record { station = 0; delay = 0 }) (sources_of tallies) sources (count ∙ sym each)
    (λ q there. source-seen tallies q ∙ (laid.each q (omega (arith, there, count))).source_is)

-- they are sound
pub tallies-laid : (logs : List RoomyLog) (firsts : List (List ℕ)) (sources : List Source) (tokens : List ℕ) (room : ℕ) (tallies : List QueueTally) → ((q : ℕ) → q < length firsts → length (slice_index_or firsts q []) + room < 2 ^ 32) → ((q : ℕ) → q < length firsts → (source_at sources q).station < length logs) → ((i : ℕ) → i < length logs → length (log_on logs i).dates ≤ room) → LaidUpTo (length firsts) logs firsts sources tokens tallies → AreTallies tokens room logs tallies
tallies-laid logs firsts sources tokens room tallies small there few laid q low =
    let low_first : q < length firsts = omega (arith, low, laid.count) in
    let is = laid.each q low_first in
    let fits = small q low_first in
    let station_there : (tally_at tallies q).source.station < length logs = omega (arith, there q low_first, ap (λ (s : Source). s.station) is.source_is) in
    record {
      began = is.began;
      counted = omega (arith, is.initial, fits);
      few = omega (arith, is.made, few (tally_at tallies q).source.station station_there);
      there = station_there;
      made_there = omega (arith, is.made);
      taken_there = omega (arith, is.taken);
      fits = omega (arith, is.made);
    }

-- ---- the lists as the caller has them

abbrev pub items_of : List (Vec ℕ Global) → List (List ℕ)
items_of firsts = map (λ (v : Vec ℕ Global). v.items) firsts

pub laid_none : (logs : List RoomyLog) (firsts : List (List ℕ)) (sources : List Source) (tokens : List ℕ) (tallies : List QueueTally) → tallies ≡ [] → LaidUpTo 0 logs firsts sources tokens tallies
laid_none logs firsts sources tokens tallies none = record { count = ap length none; each = λ q low. absurd (omega (arith, low)) }

pub new-queues : (room : ℕ) (firsts : List (Vec ℕ Global)) → map (new_queue room) (items_of firsts) ≡ map (λ (v : Vec ℕ Global). new_queue room v.items) firsts
new-queues room [] = refl
new-queues room (v ∷ vs) = ap (λ (l : List PlainQueue). new_queue room v.items ∷ l) (new-queues room vs)
