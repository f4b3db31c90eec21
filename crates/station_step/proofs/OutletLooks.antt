-- The outlets of a station while it looks for space at each, one after the other: what they have seen says nothing of
-- their queues and of the tokens put at them.
use Rattle.std.specs.Option.{option_or}
use Rattle.std.proofs.Common.{◌≡◌, ◌≢◌, ℕ, ◌+◌, ◌<◌, ◌≤◌, List, length, set, map, refl, sym, ap, ◌∙◌, subst, arith, get_or-set_same, get_or-set_other}
use Rattle.std.specs.List.{list_any}
use Rattle.std.specs.Prelude.{Option, None, Some, Bool, true, false, ◌||◌, [], ◌∷◌, IfNone, IfSome, IsTrue}
use Rattle.std.proofs.Math.Seq.{map-set_same}
use Rattle.std.proofs.lemmas.List.{length-set}
use Rattle.std.proofs.lemmas.List.Folds.{list_any_at}
use Rattle.line_base.specs.declared.event.Parts.{Parts}
use Rattle.card_queue.specs.Plain.{PlainQueue}
use Rattle.station_step.specs.declared.ends.Outlet.{Outlet}
use Rattle.station_step.specs.declared.ends.Outlet.TheVariants as outlet
use Rattle.station_step.specs.Ends.{outlet_added, bare_outlet, unseen_outlet, HasRingRoom, HasShelfRoom, is_bounded, is_ring, HasSpace, HasNoSpace, HasLooked}
use Rattle.station_step.specs.Shelf.{OnlyTakes}
use Rattle.station_step.specs.Station.{outlet_at, NonePuts}
use Rattle.station_step.specs.declared.noted.NotedInput.{NotedInput}
use Rattle.station_step.specs.declared.noted.NotedOutlet.{NotedOutlet}
use Rattle.station_step.specs.Noted.{IsNoted, extras_of, outlets_of, delays_of}
use Rattle.station_step.proofs.OwnQueues.{outlet_queue-same}
use Rattle.station_step.proofs.Turns.{below-set}

-- ---- one outlet, with and without what it has seen

pub bare-unseen : (o : Outlet) → bare_outlet (unseen_outlet o) ≡ bare_outlet o
bare-unseen (outlet.Ring put) = refl
bare-unseen (outlet.Room put) = refl
bare-unseen (outlet.Local q) = refl

added-unseen : (shelf : List PlainQueue) (o : Outlet) → outlet_added shelf (unseen_outlet o) ≡ outlet_added shelf o
added-unseen shelf (outlet.Ring put) = refl
added-unseen shelf (outlet.Room put) = refl
added-unseen shelf (outlet.Local q) = refl

of_unseen-ring_room : (more : ℕ) (o : Outlet) → HasRingRoom more (unseen_outlet o) → HasRingRoom more o
of_unseen-ring_room more (outlet.Ring put) has = has
of_unseen-ring_room more (outlet.Room put) has = has
of_unseen-ring_room more (outlet.Local q) has = has

to_unseen-ring_room : (more : ℕ) (o : Outlet) → HasRingRoom more o → HasRingRoom more (unseen_outlet o)
to_unseen-ring_room more (outlet.Ring put) has = has
to_unseen-ring_room more (outlet.Room put) has = has
to_unseen-ring_room more (outlet.Local q) has = has

of_unseen-shelf_room : (shelf : List PlainQueue) (o : Outlet) → HasShelfRoom shelf (unseen_outlet o) → HasShelfRoom shelf o
of_unseen-shelf_room shelf (outlet.Ring put) has = has
of_unseen-shelf_room shelf (outlet.Room put) has = has
of_unseen-shelf_room shelf (outlet.Local q) has = has

to_unseen-shelf_room : (shelf : List PlainQueue) (o : Outlet) → HasShelfRoom shelf o → HasShelfRoom shelf (unseen_outlet o)
to_unseen-shelf_room shelf (outlet.Ring put) has = has
to_unseen-shelf_room shelf (outlet.Room put) has = has
to_unseen-shelf_room shelf (outlet.Local q) has = has

-- ---- outlets that differ in what they have seen alone

abbrev no_outlet : Outlet
no_outlet = outlet.Local 0

pub bare-alike : (before after : Outlet) → unseen_outlet after ≡ unseen_outlet before → bare_outlet after ≡ bare_outlet before
bare-alike before after same = sym (bare-unseen after) ∙ ap bare_outlet same ∙ bare-unseen before

pub added-alike : (shelf : List PlainQueue) (before after : Outlet) → unseen_outlet after ≡ unseen_outlet before → outlet_added shelf after ≡ outlet_added shelf before
added-alike shelf before after same = sym (added-unseen shelf after) ∙ ap (outlet_added shelf) same ∙ added-unseen shelf before

pub ring_room-alike : (more : ℕ) (before after : Outlet) → unseen_outlet after ≡ unseen_outlet before → HasRingRoom more before → HasRingRoom more after
ring_room-alike more before after same has =
    of_unseen-ring_room more after (subst (HasRingRoom more) (sym same) (to_unseen-ring_room more before has))

pub shelf_room-alike : (shelf : List PlainQueue) (before after : Outlet) → unseen_outlet after ≡ unseen_outlet before → HasShelfRoom shelf before → HasShelfRoom shelf after
shelf_room-alike shelf before after same has =
    of_unseen-shelf_room shelf after (subst (HasShelfRoom shelf) (sym same) (to_unseen-shelf_room shelf before has))

-- outlets of which one has seen more
pub bare-set : (outlets : List Outlet) (k : ℕ) (o : Outlet) → unseen_outlet o ≡ unseen_outlet (outlet_at outlets k) → map bare_outlet (set outlets k o) ≡ map bare_outlet outlets
bare-set outlets k o same = map-set_same bare_outlet outlets k o no_outlet (bare-alike (outlet_at outlets k) o same)

-- the outlets differ in what they have seen alone
pub record AreAlike (before after : List Outlet) : Type 0 where
  pub count : length after ≡ length before
  pub each : (k : ℕ) → k < length before → unseen_outlet (outlet_at after k) ≡ unseen_outlet (outlet_at before k)

-- outlets that have looked
pub alike-looked : (before after : List Outlet) → length after ≡ length before → ((k : ℕ) → k < length before → HasLooked (outlet_at before k) (outlet_at after k)) → AreAlike before after
alike-looked before after count looked = record { count = count; each = λ k low. (looked k low).same }

-- no outlet of theirs puts on a queue on which none of the others puts
pub NonePuts-alike : (q : ℕ) (before after : List Outlet) → AreAlike before after → NonePuts q before → NonePuts q after
NonePuts-alike q before after alike none k low is =
    let below : k < length before = omega (arith, alike.count) in
    none k below (sym (outlet_queue-same (outlet_at before k) (outlet_at after k) (bare-alike (outlet_at before k) (outlet_at after k) (alike.each k below))) ∙ is)

-- an outlet with room for many has room for fewer
pub ring_room-less : (more less : ℕ) (o : Outlet) → less ≤ more → HasRingRoom more o → HasRingRoom less o
ring_room-less more less (outlet.Ring put) fewer has = omega (arith, has)
ring_room-less more less (outlet.Room put) fewer has = omega (arith, has)
ring_room-less more less (outlet.Local q) fewer has = tt

-- an outlet has the room that it had where tokens were only taken
pub shelf_room-after_takes : (old new : List PlainQueue) (o : Outlet) → OnlyTakes old new → HasShelfRoom old o → HasShelfRoom new o
shelf_room-after_takes old new (outlet.Ring put) only has = tt
shelf_room-after_takes old new (outlet.Room put) only has = tt
shelf_room-after_takes old new (outlet.Local q) only has =
    omega (arith, has, ap (λ (queue : PlainQueue). length queue.added) (only.puts q), ap (λ (queue : PlainQueue). queue.room) (only.puts q))

-- ---- outlets that can lack space, and others

bounded-bare : (o : Outlet) → is_bounded (bare_outlet o) ≡ is_bounded o
bounded-bare (outlet.Ring put) = refl
bounded-bare (outlet.Room put) = refl
bounded-bare (outlet.Local q) = refl

ring-bare : (o : Outlet) → is_ring (bare_outlet o) ≡ is_ring o
ring-bare (outlet.Ring put) = refl
ring-bare (outlet.Room put) = refl
ring-bare (outlet.Local q) = refl

-- a test that sees neither an outlet's tokens nor what it has seen, of one of them
any-bare : (test : Outlet → Bool) → ((o : Outlet) → test (bare_outlet o) ≡ test o) → (outlets : List Outlet) → list_any test (map bare_outlet outlets) ≡ list_any test outlets
any-bare test bare [] = refl
any-bare test bare (o ∷ outlets) =
    ap (λ (b : Bool). b || list_any test (map bare_outlet outlets)) (bare o)
    ∙ ap (λ (b : Bool). test o || b) (any-bare test bare outlets)

any-same : (test : Outlet → Bool) → ((o : Outlet) → test (bare_outlet o) ≡ test o) → (before after : List Outlet) → map bare_outlet after ≡ map bare_outlet before → list_any test before ≡ list_any test after
any-same test bare before after same =
    sym (any-bare test bare before) ∙ ap (list_any test) (sym same) ∙ any-bare test bare after

-- the same outlets but for their tokens and what they have seen are over rings, or not
pub rings-same : (before after : List Outlet) → map bare_outlet after ≡ map bare_outlet before → list_any is_ring before ≡ list_any is_ring after
rings-same before after same = any-same is_ring ring-bare before after same

-- what a station notes stays where beside its inputs and outlets all stands as before, and its outlets are the same but
-- for their tokens and what they have seen
pub noted-same : (g : Parts) (t : ℕ) (before after : List NotedInput) (outlets outlets' : List NotedOutlet) (fixed : Bool) (worked : List Bool) (bounded rings : Bool) → (IsTrue fixed → extras_of after ≡ extras_of before) → delays_of outlets' ≡ delays_of outlets → map bare_outlet (outlets_of outlets') ≡ map bare_outlet (outlets_of outlets) → IsNoted g t before outlets fixed worked bounded rings → IsNoted g t after outlets' fixed worked bounded rings
noted-same g t before after outlets outlets' fixed worked bounded rings extras delays same noted = record {
  extras_are = λ is job. extras is ∙ noted.extras_are is job;
  worked_is = noted.worked_is;
  delays_are = delays ∙ noted.delays_are;
  bounded_is = noted.bounded_is ∙ any-same is_bounded bounded-bare (outlets_of outlets) (outlets_of outlets') same;
  rings_are = noted.rings_are ∙ rings-same (outlets_of outlets) (outlets_of outlets') same;
}

has_space : (o : Outlet) → (is_bounded o ≡ true → ⊥) → HasSpace o
has_space (outlet.Ring put) unbounded = tt
has_space (outlet.Room put) unbounded = absurd (unbounded refl)
has_space (outlet.Local q) unbounded = tt

-- where none of them can lack space, each has it
pub space-unbounded : (outlets : List Outlet) (k : ℕ) → list_any is_bounded outlets ≡ false → k < length outlets → HasSpace (outlet_at outlets k)
space-unbounded outlets k none low =
    has_space (outlet_at outlets k)
    (λ is.
    let some : list_any is_bounded outlets ≡ true = list_any_at is_bounded outlets k no_outlet low is in
    absurd (cc))

pub space_clash : (o : Outlet) → HasSpace o → HasNoSpace o → ⊥
space_clash (outlet.Ring put) has none = none
space_clash (outlet.Room put) has none = omega (arith, has, none)
space_clash (outlet.Local q) has none = none

-- an outlet that has space need not look
pub looked-space : (o : Outlet) → HasSpace o → HasLooked o o
looked-space o has = record { same = refl; stays = λ _. refl; looks = λ none. absurd (space_clash o has none) }

-- ---- the walk over the outlets

-- the outlets below k have looked, the others are as they were
pub record LookedUpTo (k : ℕ) (before after : List Outlet) : Type 0 where
  pub count : length after ≡ length before
  pub same : map bare_outlet after ≡ map bare_outlet before
  pub done : (j : ℕ) → j < k → HasLooked (outlet_at before j) (outlet_at after j)
  pub rest : (j : ℕ) → k ≤ j → outlet_at after j ≡ outlet_at before j

-- none has looked yet
pub looked_none : (outlets : List Outlet) → LookedUpTo 0 outlets outlets
looked_none outlets = record {
  count = refl;
  same = refl;
  done = λ j lt. absurd (omega (arith, lt));
  rest = λ j le. refl;
}

pub at-set : (outlets : List Outlet) (k : ℕ) (o : Outlet) → k < length outlets → outlet_at (set outlets k o) k ≡ o
at-set outlets k o low = get_or-set_same outlets k o no_outlet low

pub beside-set : (outlets : List Outlet) (k j : ℕ) (o : Outlet) → j ≢ k → outlet_at (set outlets k o) j ≡ outlet_at outlets j
beside-set outlets k j o ne = get_or-set_other outlets k j o no_outlet ne

pub looked_more : (k : ℕ) (before after : List Outlet) (o : Outlet) → k < length after → LookedUpTo k before after → HasLooked (outlet_at after k) o → LookedUpTo (k + 1) before (set after k o)
looked_more k before after o low up_to looked = record {
  count = length-set after k o ∙ up_to.count;
  same = bare-set after k o looked.same ∙ up_to.same;
  done = below-set no_outlet (λ (j : ℕ) (p : Outlet). HasLooked (outlet_at before j) p) k after o low up_to.done
      (subst (λ (was : Outlet). HasLooked was o) (up_to.rest k (omega arith)) looked);
  rest = λ j le. beside-set after k j o (λ e. absurd (omega (arith, e))) ∙ up_to.rest j (omega arith);
}

-- the first of the outlets below k that has no space
pub record IsFirstFull (k : ℕ) (found : Option ℕ) (outlets : List Outlet) : Type 0 where
  pub none : IfNone found ((j : ℕ) → j < k → HasSpace (outlet_at outlets j))
  pub there : IfSome found (λ i. i < k)
  pub full : IfSome found (λ i. HasNoSpace (outlet_at outlets i))
  pub first : IfSome found (λ i. (j : ℕ) → j < i → HasSpace (outlet_at outlets j))

pub first-none : (outlets : List Outlet) → IsFirstFull 0 None outlets
first-none outlets = record { none = λ j lt. absurd (omega (arith, lt)); there = tt; full = tt; first = tt }

-- where one was found, the outlets behind it say nothing
found_stays : (k i : ℕ) (outlets : List Outlet) (o : Outlet) → IsFirstFull k (Some i) outlets → IsFirstFull (k + 1) (Some i) (set outlets k o)
found_stays k i outlets o is = record {
  none = tt;
  there = omega (arith, is.there);
  full = subst HasNoSpace (sym (beside-set outlets k i o (λ e. absurd (omega (arith, e, is.there))))) is.full;
  first = λ j lt.
      subst HasSpace (sym (beside-set outlets k j o (λ e. absurd (omega (arith, e, is.there))))) (is.first j lt);
}

-- what has no space after all
no_space : (o : Outlet) → (HasSpace o → ⊥) → HasNoSpace o
no_space (outlet.Ring put) none = none tt
no_space (outlet.Room put) none = omega (arith, none)
no_space (outlet.Local q) none = none tt

-- what has no space after its look had none before it
pub had_no_space : (before after : Outlet) → HasLooked before after → HasNoSpace after → HasNoSpace before
had_no_space before after looked none =
    no_space before (λ has. space_clash before has (subst HasNoSpace (looked.stays has) none))

-- the next outlet has no space
pub first-full : (k : ℕ) (found : Option ℕ) (outlets : List Outlet) (o : Outlet) → k < length outlets → (HasSpace o → ⊥) → IsFirstFull k found outlets → IsFirstFull (k + 1) (option_or found (Some k)) (set outlets k o)
first-full k (Some i) outlets o low none is = found_stays k i outlets o is
first-full k None outlets o low none is = record {
  none = tt;
  there = omega arith;
  full = subst HasNoSpace (sym (at-set outlets k o low)) (no_space o none);
  first = λ j lt. subst HasSpace (sym (beside-set outlets k j o (λ e. absurd (omega (arith, e))))) (is.none j lt);
}

-- the next outlet has space
pub first-space : (k : ℕ) (found : Option ℕ) (outlets : List Outlet) (o : Outlet) → k < length outlets → HasSpace o → IsFirstFull k found outlets → IsFirstFull (k + 1) found (set outlets k o)
first-space k (Some i) outlets o low space is = found_stays k i outlets o is
first-space k None outlets o low space is = record {
  none = below-set no_outlet (λ (j : ℕ) (p : Outlet). HasSpace p) k outlets o low is.none space;
  there = tt;
  full = tt;
  first = tt;
}
