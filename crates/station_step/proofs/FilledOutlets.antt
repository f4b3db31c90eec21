-- The outlets of a station while a token is put on each: those over rings are given it, one after the other, and those
-- on the shelf see it in the station's log.
use Rattle.std.proofs.Common.{◌≡◌, ◌≢◌, ℕ, ◌+◌, ◌<◌, ◌≤◌, List, [], ◌∷◌, ◌++◌, length, set, map, refl, sym, ap, ◌∙◌, subst, arith, ⊎_elim, get_or-set_other, append_assoc}
use mathlib.Core.List.{IsPrefix}
use Rattle.std.specs.List.{list_any}
use Rattle.std.specs.Prelude.{Some, IfSome, true, false, slice_index}
use Rattle.std.proofs.Math.Seq.{map-set_same}
use Rattle.std.proofs.lemmas.Bool.{cases_lt, cases_eq}
use Rattle.std.proofs.lemmas.List.{length-set, append-nil}
use Rattle.std.proofs.lemmas.List.Folds.{list_any_at}
use Rattle.card_queue.specs.Plain.{PlainQueue, plain_taken}
use Rattle.station_step.specs.declared.ends.Outlet.{Outlet}
use Rattle.station_step.specs.declared.ends.Outlet.TheVariants as outlet
use Rattle.station_step.specs.declared.source.Source.{Source}
use Rattle.station_step.specs.Shelf.{WorkShelf, source_at, later_by, queue_at, without_added, OnlyPuts}
use Rattle.station_step.specs.Ends.{outlet_added, outlet_queue, bare_outlet, is_ring, HasGot, HasShelfRoom}
use Rattle.station_step.specs.Station.{outlet_at, NonePuts, PutWithin, ComeFrom}
use Rattle.station_step.specs.Kept.{saturating}
use Rattle.station_step.specs.Step.{Grows}
use Rattle.station_step.proofs.Turns.{below-set}

-- the outlets below k got these tokens, the others are as they were
pub record FilledUpTo (k : ℕ) (tokens : ℕ → ℕ) (before after : List Outlet) : Type 0 where
  pub count : length after ≡ length before
  pub same : map bare_outlet after ≡ map bare_outlet before
  pub done : (j : ℕ) → j < k → HasGot (tokens j) (outlet_at before j) (outlet_at after j)
  pub rest : (j : ℕ) → k ≤ j → outlet_at after j ≡ outlet_at before j

pub Grows-refl : (shelf : List PlainQueue) → Grows shelf shelf
Grows-refl shelf q = ([], append-nil (queue_at shelf q).added)

pub Grows-trans : (old mid new : List PlainQueue) → Grows old mid → Grows mid new → Grows old new
Grows-trans old mid new first next q = (
  (first q).0 ++ (next q).0,
  sym (append_assoc (queue_at old q).added (first q).0 (next q).0)
      ∙ ap (λ xs. xs ++ (next q).0) (first q).1
      ∙ (next q).1,
)

-- none got a token yet
pub filled_none : (tokens : ℕ → ℕ) (outlets : List Outlet) → FilledUpTo 0 tokens outlets outlets
filled_none tokens outlets = record {
  count = refl;
  same = refl;
  done = λ j lt. absurd (omega (arith, lt));
  rest = λ j le. refl;
}

-- the next outlet gets its token
pub filled_more : (k : ℕ) (tokens : ℕ → ℕ) (before after : List Outlet) (o : Outlet) → k < length after → FilledUpTo k tokens before after → bare_outlet o ≡ bare_outlet (outlet_at after k) → HasGot (tokens k) (outlet_at after k) o → FilledUpTo (k + 1) tokens before (set after k o)
filled_more k tokens before after o low up_to same got =
    let d : Outlet = outlet.Local 0 in
    let at_k = up_to.rest k (omega arith) in
    record {
      count = length-set after k o ∙ up_to.count;
      same = map-set_same bare_outlet after k o d same ∙ up_to.same;
      done = below-set d (λ (j : ℕ) (p : Outlet). HasGot (tokens j) (outlet_at before j) p) k after o low up_to.done
          (subst (λ (p : Outlet). HasGot (tokens k) p o) at_k got);
      rest = λ j le. get_or-set_other after k j o d (λ e. absurd (omega (arith, e))) ∙ up_to.rest j (omega arith);
    }

-- where none is over a ring, each got its token
got-local : (token : ℕ) (o : Outlet) → (is_ring o ≡ true → ⊥) → HasGot token o o
got-local token (outlet.Ring put) no_ring = absurd (no_ring refl)
got-local token (outlet.Room put) no_ring = absurd (no_ring refl)
got-local token (outlet.Local q) no_ring = refl

pub got-no_ring : (token : ℕ) (outlets : List Outlet) (k : ℕ) → list_any is_ring outlets ≡ false → k < length outlets → HasGot token (outlet_at outlets k) (outlet_at outlets k)
got-no_ring token outlets k none low =
    got-local token (outlet_at outlets k)
    (λ is.
    let some : list_any is_ring outlets ≡ true = list_any_at is_ring outlets k (outlet.Local 0) low is in
    absurd (cc))

-- ---- the log has a date more

-- what came of it on the shelf
pub record AddedTo (i date : ℕ) (sources : List Source) (old new : List PlainQueue) : Type 0 where
  pub count : length new ≡ length old
  pub added : (q : ℕ) → q < length old → (source_at sources q).station ≡ i →
      queue_at new q ≡ record (queue_at old q) { added = (queue_at old q).added ++ later_by (source_at sources q).delay date ∷ [] }
  pub others : (q : ℕ) → (q < length old → (source_at sources q).station ≢ i) → queue_at new q ≡ queue_at old q
  pub taken : (q : ℕ) → plain_taken (queue_at new q) ≡ plain_taken (queue_at old q)

-- a queue comes from there, or stays
module _ (i date : ℕ) (sources : List Source) (old new : List PlainQueue) (is : AddedTo i date sources old new) where
  either : {C : Type 0} (q : ℕ) → (q < length old → (source_at sources q).station ≡ i → C) → (queue_at new q ≡ queue_at old q → C) → C
  either q here else =
      ⊎_elim
      (λ (low : q < length old).
      ⊎_elim
      (λ (e : (source_at sources q).station ≡ i). here low e)
      (λ (ne : (source_at sources q).station ≢ i). else (is.others q (λ _. ne)))
      (cases_eq (source_at sources q).station i))
      (λ (past : length old ≤ q). else (is.others q (λ low. absurd (omega (arith, low, past)))))
      (cases_lt q (length old))

  pub only-puts : OnlyPuts old new
  only-puts = record {
    count = is.count;
    takes = λ q.
        either {C = without_added (queue_at new q) ≡ without_added (queue_at old q)} q
        (λ low e. ap without_added (is.added q low e))
        (λ same. ap without_added same);
    taken = is.taken;
  }

  pub grows : Grows old new
  grows q =
      either {C = IsPrefix (queue_at old q).added (queue_at new q).added} q
      (λ low e. (later_by (source_at sources q).delay date ∷ [], sym (ap (λ (queue : PlainQueue). queue.added) (is.added q low e))))
      (λ same. ([], append-nil (queue_at old q).added ∙ ap (λ (queue : PlainQueue). queue.added) (sym same)))

-- what an outlet got, on the shelf as over a ring
got-added : (old new : List PlainQueue) (token : ℕ) (before after : Outlet) → HasGot token before after → ((q : ℕ) → outlet_queue before ≡ Some q → (queue_at new q).added ≡ (queue_at old q).added ++ token ∷ []) → outlet_added new after ≡ outlet_added old before ++ token ∷ []
got-added old new token (outlet.Ring put) (outlet.Ring later) got shelf = got
got-added old new token (outlet.Ring put) (outlet.Room later) got shelf = absurd got
got-added old new token (outlet.Ring put) (outlet.Local j) got shelf = absurd got
got-added old new token (outlet.Room put) (outlet.Ring later) got shelf = absurd got
got-added old new token (outlet.Room put) (outlet.Room later) got shelf = got
got-added old new token (outlet.Room put) (outlet.Local j) got shelf = absurd got
got-added old new token (outlet.Local k) (outlet.Ring later) got shelf = absurd got
got-added old new token (outlet.Local k) (outlet.Room later) got shelf = absurd got
got-added old new token (outlet.Local k) (outlet.Local j) got shelf =
    ap (λ n. (queue_at new n).added) got ∙ shelf k refl

abbrev IfSomeBelow : ℕ → Outlet → Type 0
IfSomeBelow count o = IfSome (outlet_queue o) (λ q. q < count)

within : (count : ℕ) (o : Outlet) (q : ℕ) → outlet_queue o ≡ Some q → IfSomeBelow count o → q < count
within count (outlet.Ring put) q is below = absurd (cc)
within count (outlet.Room put) q is below = absurd (cc)
within count (outlet.Local k) q is below = let e : k ≡ q = cc in omega (arith, e, below)

-- every outlet got its token, where those over rings were given theirs
pub each-got : (i date : ℕ) (delays : List ℕ) (old new : WorkShelf) (before after : List Outlet) → AddedTo i date old.sources old.queues new.queues → ComeFrom i delays old before → PutWithin (length old.queues) before → (k : ℕ) → k < length before → HasGot (saturating date (slice_index delays k)) (outlet_at before k) (outlet_at after k) → outlet_added new.queues (outlet_at after k) ≡ outlet_added old.queues (outlet_at before k) ++ saturating date (slice_index delays k) ∷ []
each-got i date delays old new before after added come inside k low got =
    let token = saturating date (slice_index delays k) in
    got-added old.queues new.queues token (outlet_at before k) (outlet_at after k) got
    (λ q is.
    let from = come.own k q low is in
    let there : q < length old.queues = within (length old.queues) (outlet_at before k) q is (inside k low) in
    ap (λ (queue : PlainQueue). queue.added) (added.added q there (ap (λ (s : Source). s.station) from))
    ∙ ap (λ (s : Source). (queue_at old.queues q).added ++ later_by s.delay date ∷ []) from)

-- a queue on which none of them puts stays
pub none-puts : (i date : ℕ) (delays : List ℕ) (old new : WorkShelf) (before : List Outlet) → AddedTo i date old.sources old.queues new.queues → ComeFrom i delays old before → (q : ℕ) → NonePuts q before → queue_at new.queues q ≡ queue_at old.queues q
none-puts i date delays old new before added come q none =
    added.others q
    (λ low e.
    let puts = come.puts q low e in
    none puts.0 puts.1.0 puts.1.1)

has-room : (shelf : List PlainQueue) (o : Outlet) (q : ℕ) → outlet_queue o ≡ Some q → HasShelfRoom shelf o → length (queue_at shelf q).added < (queue_at shelf q).room
has-room shelf (outlet.Ring put) q is has = absurd (cc)
has-room shelf (outlet.Room put) q is has = absurd (cc)
has-room shelf (outlet.Local k) q is has =
    let e : k ≡ q = cc in
    subst (λ (n : ℕ). length (queue_at shelf n).added < (queue_at shelf n).room) e has

-- each queue that comes from there has room, where the outlets have
pub room-there : (i : ℕ) (delays : List ℕ) (shelf : WorkShelf) (outlets : List Outlet) → ComeFrom i delays shelf outlets → ((k : ℕ) → k < length outlets → HasShelfRoom shelf.queues (outlet_at outlets k)) → (q : ℕ) → q < length shelf.queues → (source_at shelf.sources q).station ≡ i → length (queue_at shelf.queues q).added < (queue_at shelf.queues q).room
room-there i delays shelf outlets come has q low e =
    let puts = come.puts q low e in
    has-room shelf.queues (outlet_at outlets puts.0) q puts.1.1 (has puts.0 puts.1.0)
