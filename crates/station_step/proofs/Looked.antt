-- Where the inputs of a station have looked at their rings and nothing else of it changed, it stands on the shelf as it
-- stood, and what a step after that says of it holds of the station as it was before. Here s is the station before the
-- look, and mid after it.
use Rattle.std.proofs.Common.{◌≡◌, ℕ, ◌+◌, ◌<◌, ◌≤◌, List, ◌++◌, length, length-append, map, drop, refl, sym, ap, ◌∙◌, subst, arith, ⊎_elim}
use Rattle.std.specs.Prelude.{Option, None, Some, IsSome, IfNone, option_to_list, slice_index}
use Rattle.std.proofs.lemmas.List.{ext_get_or, get_or_past, length-map}
use Rattle.std.proofs.Math.ListN.{get_or-map}
use Rattle.std.proofs.lemmas.Bool.{cases_lt}
use Rattle.card_queue.specs.Plain.{PlainQueue, plain_waiting}
use Rattle.station_step.specs.declared.ends.Inlet.{Inlet}
use Rattle.station_step.specs.declared.ends.Inlet.TheVariants as inlet
use Rattle.station_step.specs.declared.input.Input.{Input}
use Rattle.station_step.specs.declared.stepped.Stepped.{Stepped}
use Rattle.station_step.specs.declared.stepped.Stepped.TheVariants.{Fired, Blocked, Full, Done}
use Rattle.station_step.specs.Shelf.{WorkShelf, queue_at}
use Rattle.station_step.specs.Ends.{inlet_taken, inlet_ahead, inlet_queue, bare_inlet, unseen_inlet, bare_outlet, KnowsMore, HasAsked}
use Rattle.station_step.specs.Input.{input_at, tokens_ahead, IsRefilled, NoneTakes}
use Rattle.station_step.specs.RingInputs.{HasLookedIn, HaveLooked}
use Rattle.station_step.specs.Station.{WorkStation, firings, IsSeated, StandsAt, MayPut, bare_input, bare_station}
use Rattle.station_step.specs.Kept.{IsKept}
use Rattle.station_step.specs.Step.{IsReady, IsDone, IfBlocked, IsBlockedAt, IsBlocked, IfFull, IsFullAt, IsFull, FiredOnce, OnlyRefilled, OnlyLooked, OnlyTurned, Did, MovesItsOwn, MovesApart}
use Rattle.station_step.proofs.OwnQueues.{inlet_queue-same, is_ring-same, bare-unseen, taken-unseen}
use Rattle.station_step.proofs.Dates.{date_for-agree}
use Rattle.station_step.proofs.KeptStations.{bare-same, seated-same, moves-apart}
use Rattle.station_step.proofs.Posts.{stands-same}

-- ---- one input that has looked

pub bare-looked : (before after : Input) → HasLookedIn before after → bare_inlet after.inlet ≡ bare_inlet before.inlet
bare-looked before after looked =
    sym (bare-unseen after.inlet) ∙ ap bare_inlet looked.same ∙ bare-unseen before.inlet

queue-looked : (before after : Input) → HasLookedIn before after → inlet_queue after.inlet ≡ inlet_queue before.inlet
queue-looked before after looked = inlet_queue-same before.inlet after.inlet (bare-looked before after looked)

pub taken-looked : (shelf : List PlainQueue) (before after : Input) → HasLookedIn before after → inlet_taken shelf after.inlet ≡ inlet_taken shelf before.inlet
taken-looked shelf before after looked =
    sym (taken-unseen shelf after.inlet) ∙ ap (inlet_taken shelf) looked.same ∙ taken-unseen shelf before.inlet

-- an inlet that knows of more has no fewer tokens ahead
ahead-more : (shelf : List PlainQueue) (before after : Inlet) → unseen_inlet after ≡ unseen_inlet before → KnowsMore before after → inlet_ahead shelf before ≤ inlet_ahead shelf after
ahead-more shelf (inlet.Ring take) (inlet.Ring later) same more =
    omega (arith, ap length more.1, length-append take.known more.0)
ahead-more shelf (inlet.Room take) (inlet.Room later) same more = more
ahead-more shelf (inlet.Local q) (inlet.Local r) same more =
    let queue : r ≡ q = cc in
    omega (arith, ap (λ (n : ℕ). length (plain_waiting (queue_at shelf n))) queue)
ahead-more shelf (inlet.Ring take) (inlet.Room later) same more = absurd (cc)
ahead-more shelf (inlet.Ring take) (inlet.Local r) same more = absurd (cc)
ahead-more shelf (inlet.Room take) (inlet.Ring later) same more = absurd (cc)
ahead-more shelf (inlet.Room take) (inlet.Local r) same more = absurd (cc)
ahead-more shelf (inlet.Local q) (inlet.Ring later) same more = absurd (cc)
ahead-more shelf (inlet.Local q) (inlet.Room later) same more = absurd (cc)

pub tokens-looked : (shelf : List PlainQueue) (before after : Input) → HasLookedIn before after → tokens_ahead shelf before ≤ tokens_ahead shelf after
tokens-looked shelf before after looked =
    omega (
      arith,
      ahead-more shelf before.inlet after.inlet looked.same looked.more,
      ap (λ (hand : Option ℕ). length (option_to_list hand)) looked.hand,
    )

-- where no token is ahead after the look, none was before it
none_ahead : (shelf : List PlainQueue) (before after : Input) (hand : Option ℕ) → HasLookedIn before after → IfNone hand (tokens_ahead shelf after ≡ 0) → IfNone hand (tokens_ahead shelf before ≡ 0)
none_ahead shelf before after None looked none = omega (arith, none, tokens-looked shelf before after looked)
none_ahead shelf before after (Some date) looked none = tt

-- what has looked since the look has looked since before it
asked-looked : (before mid : Input) (after : Inlet) → HasLookedIn before mid → HasAsked mid.inlet after → HasAsked before.inlet after
asked-looked before mid after looked asked ring =
    omega (arith, looked.looks, asked (is_ring-same before.inlet mid.inlet (bare-looked before mid looked) ∙ ring))

none_asked : (before mid : Input) (after : Inlet) (hand : Option ℕ) → HasLookedIn before mid → IfNone hand (HasAsked mid.inlet after) → IfNone hand (HasAsked before.inlet after)
none_asked before mid after None looked asked = asked-looked before mid after looked asked
none_asked before mid after (Some date) looked asked = tt

-- what refills the hand after the look refills the hand as it was before it
refilled-looked : (old new : List PlainQueue) (before mid after : Input) → HasLookedIn before mid → IsRefilled old new mid after → IsRefilled old new before after
refilled-looked old new before mid after looked is = record {
  same = is.same ∙ bare-looked before mid looked;
  taken = ap (λ (hand : Option ℕ). inlet_taken new after.inlet ++ option_to_list hand) (sym looked.hand)
      ∙ is.taken
      ∙ ap (λ (l : List ℕ). l ++ option_to_list after.hand) (taken-looked old before mid looked);
  full = subst (λ (hand : Option ℕ). IsSome hand → after.hand ≡ hand) looked.hand is.full;
  empty = none_ahead old before mid after.hand looked is.empty;
  asked = none_asked before mid after.inlet after.hand looked is.asked;
}

-- ---- a station whose inputs have looked

abbrev no_input : Input
no_input = record { inlet = inlet.Local 0; hand = None }

-- what holds of each input holds behind the last one too, where none is before and after
input-looked : (s mid : WorkStation) → HaveLooked s mid → (k : ℕ) → HasLookedIn (input_at s.inputs k) (input_at mid.inputs k)
input-looked s mid looked k =
    ⊎_elim
    (λ (low : k < length s.inputs). looked.each k low)
    (λ (past : length s.inputs ≤ k).
    let was : input_at s.inputs k ≡ no_input = get_or_past s.inputs k no_input past in
    let is : input_at mid.inputs k ≡ no_input = get_or_past mid.inputs k no_input (omega (arith, looked.count)) in
    subst (λ (input : Input). HasLookedIn input (input_at mid.inputs k)) (sym was)
    (subst (HasLookedIn no_input) (sym is) (record { same = refl; more = tt; looks = omega arith; hand = refl })))
    (cases_lt k (length s.inputs))

pub bare_inputs-looked : (s mid : WorkStation) → HaveLooked s mid → map bare_input mid.inputs ≡ map bare_input s.inputs
bare_inputs-looked s mid looked =
    ext_get_or no_input (map bare_input mid.inputs) (map bare_input s.inputs)
    (length-map mid.inputs bare_input ∙ looked.count ∙ sym (length-map s.inputs bare_input))
    (λ k low.
    get_or-map bare_input mid.inputs k no_input
    ∙ ap (λ (i : Inlet). record { inlet = i; hand = None }) (bare-looked (input_at s.inputs k) (input_at mid.inputs k) (input-looked s mid looked k))
    ∙ sym (get_or-map bare_input s.inputs k no_input))

pub bare_station-looked : (s mid : WorkStation) → HaveLooked s mid → bare_station mid ≡ bare_station s
bare_station-looked s mid looked =
    ap bare_station looked.rest
    ∙ bare-same s mid.inputs s.outlets s.log s.turns (bare_inputs-looked s mid looked) refl refl

-- ---- before a step

pub seated-looked : (shelf : List PlainQueue) (s mid : WorkStation) → HaveLooked s mid → IsSeated shelf s → IsSeated shelf mid
seated-looked shelf s mid looked seated =
    seated-same shelf shelf s mid refl looked.count
    (ap (λ (t : WorkStation). length t.outlets) looked.rest)
    (bare_inputs-looked s mid looked)
    (ap (λ (t : WorkStation). map bare_outlet t.outlets) looked.rest)
    seated

pub may_put-looked : (shelf : List PlainQueue) (s mid : WorkStation) → HaveLooked s mid → MayPut shelf s → MayPut shelf mid
may_put-looked shelf s mid looked may = subst (MayPut shelf) (sym looked.rest) may

pub stands-looked : (i : ℕ) (shelf : WorkShelf) (s mid : WorkStation) → HaveLooked s mid → StandsAt i shelf s → StandsAt i shelf mid
stands-looked i shelf s mid looked stands =
    stands-same i shelf shelf s mid refl
    (stands.log ∙ sym (ap (λ (t : WorkStation). t.log) looked.rest))
    refl refl
    (ap (λ (t : WorkStation). t.graph) looked.rest)
    (ap (λ (t : WorkStation). t.number) looked.rest)
    looked.count
    (bare_inputs-looked s mid looked)
    (ap (λ (t : WorkStation). length t.outlets) looked.rest)
    (ap (λ (t : WorkStation). map bare_outlet t.outlets) looked.rest)
    stands

pub ready-looked : (shelf : List PlainQueue) (s mid : WorkStation) → HaveLooked s mid → IsReady shelf s → IsReady shelf mid
ready-looked shelf s mid looked ready =
    subst (IsReady shelf) (sym looked.rest) (record {
      more = ready.more;
      tokens = λ k low.
          omega (
            arith,
            ready.tokens k (omega (arith, low, looked.count)),
            tokens-looked shelf (input_at s.inputs k) (input_at mid.inputs k) (input-looked s mid looked k),
          );
      space = ready.space;
    })

pub kept-looked : (shelf : List PlainQueue) (s mid : WorkStation) → HaveLooked s mid → IsKept shelf s → IsKept shelf mid
kept-looked shelf s mid looked kept =
    let taken : (k : ℕ) → inlet_taken shelf (input_at mid.inputs k).inlet ≡ inlet_taken shelf (input_at s.inputs k).inlet =
    λ k. taken-looked shelf (input_at s.inputs k) (input_at mid.inputs k) (input-looked s mid looked k) in
    subst (IsKept shelf) (sym looked.rest) (record {
      held = λ k low.
          let was = kept.held k (omega (arith, low, looked.count)) in
          record {
            enough = omega (arith, was.enough, ap length (taken k));
            rest = ap (drop (firings s)) (taken k)
                ∙ was.rest
                ∙ ap (λ (h : Option ℕ). option_to_list h) (sym (input-looked s mid looked k).hand);
          };
      dates = λ n low.
          kept.dates n low
          ∙ date_for-agree s.graph s.number (s.made + n + 1) _ _
          (λ k there. ap (λ (l : List ℕ). slice_index l n) (sym (taken k)));
      added = kept.added;
      room = kept.room;
    })

-- ---- after the step

pub blocked-looked : (answer : Stepped) (shelf : List PlainQueue) (s mid after : WorkStation) → HaveLooked s mid → IfBlocked answer (IsBlocked shelf mid after) → IfBlocked answer (IsBlocked shelf s after)
blocked-looked Fired shelf s mid after looked is = tt
blocked-looked (Blocked arc) shelf s mid after looked is =
    let k = is.0 in
    let at = subst (λ (t : WorkStation). IsBlockedAt shelf t after arc k) looked.rest is.1 in (
      k,
      record {
        there = omega (arith, at.there, looked.count);
        arc_is = at.arc_is;
        none = omega (arith, at.none, tokens-looked shelf (input_at s.inputs k) (input_at mid.inputs k) (input-looked s mid looked k));
        looked = asked-looked (input_at s.inputs k) (input_at mid.inputs k) (input_at after.inputs k).inlet (input-looked s mid looked k) at.looked;
        empty = at.empty;
        first = at.first;
      },
    )
blocked-looked (Full arc) shelf s mid after looked is = tt
blocked-looked Done shelf s mid after looked is = tt

pub full-looked : (answer : Stepped) (s mid after : WorkStation) → HaveLooked s mid → IfFull answer (IsFull mid after) → IfFull answer (IsFull s after)
full-looked Fired s mid after looked is = tt
full-looked (Blocked arc) s mid after looked is = tt
full-looked (Full arc) s mid after looked is =
    let at = subst (λ (t : WorkStation). IsFullAt t after arc is.0) looked.rest is.1 in (
      is.0,
      record { there = at.there; arc_is = at.arc_is; looked = at.looked; none = at.none; first = at.first },
    )
full-looked Done s mid after looked is = tt

refilled_all-looked : (old new : List PlainQueue) (s mid after : WorkStation) → HaveLooked s mid → ((k : ℕ) → k < length mid.inputs → IsRefilled old new (input_at mid.inputs k) (input_at after.inputs k)) → (k : ℕ) → k < length s.inputs → IsRefilled old new (input_at s.inputs k) (input_at after.inputs k)
refilled_all-looked old new s mid after looked refilled k low =
    refilled-looked old new (input_at s.inputs k) (input_at mid.inputs k) (input_at after.inputs k) (input-looked s mid looked k)
    (refilled k (omega (arith, low, looked.count)))

-- where the answer is that the station is done, it must not have looked: then nothing but its turns may change
pub did-looked : (answer : Stepped) (old new : List PlainQueue) (s mid after : WorkStation) → HaveLooked s mid → (IsDone answer → mid ≡ s) → Did answer old new mid after → Did answer old new s after
did-looked Fired old new s mid after looked stays did =
    let at = subst (λ (t : WorkStation). FiredOnce t after) looked.rest did in
    record { log = at.log; hands = λ k low. at.hands k (omega (arith, low, looked.count)) }
did-looked (Blocked arc) old new s mid after looked stays did =
    let at = subst (λ (t : WorkStation). OnlyRefilled old new t after) looked.rest did in
    record {
      log = at.log;
      outlets = at.outlets;
      puts = at.puts;
      hands = refilled_all-looked old new s mid after looked at.hands;
    }
did-looked (Full arc) old new s mid after looked stays did =
    let at = subst (λ (t : WorkStation). OnlyLooked old new t after) looked.rest did in
    record {
      refilled = record {
        log = at.refilled.log;
        outlets = refl;
        puts = at.refilled.puts;
        hands = refilled_all-looked old new s mid after looked at.refilled.hands;
      };
      full = λ k low. at.full k (omega (arith, low, looked.count));
      count = at.count;
      looked = at.looked;
    }
did-looked Done old new s mid after looked stays did =
    subst (λ (t : WorkStation). OnlyTurned old new t after) (stays tt) did

none_takes-looked : (q : ℕ) (s mid : WorkStation) → HaveLooked s mid → NoneTakes q s.inputs → NoneTakes q mid.inputs
none_takes-looked q s mid looked none k low is =
    none k (omega (arith, low, looked.count))
    (sym (queue-looked (input_at s.inputs k) (input_at mid.inputs k) (input-looked s mid looked k)) ∙ is)

pub moves-looked : (old new : List PlainQueue) (s mid : WorkStation) → HaveLooked s mid → MovesApart mid old new → MovesApart s old new
moves-looked old new s mid looked moves =
    let own = subst (λ (t : WorkStation). MovesItsOwn t old new) looked.rest moves.own in
    moves-apart old new s
    (record {
      count = own.count;
      made = own.made;
      takes = λ q none. own.takes q (none_takes-looked q s mid looked none);
      taken = λ q none. own.taken q (none_takes-looked q s mid looked none);
      puts = own.puts;
    })
    moves.grows
