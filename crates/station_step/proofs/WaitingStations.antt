-- A station that waits for one input: what it has noted of the one hand that is empty, and what a step does where no
-- token has come there. Here s is the station before the step.
use Rattle.std.proofs.Common.{◌≡◌, ◌≢◌, ℕ, zero, suc, ◌+◌, ◌<◌, ◌≤◌, ◌==◌, Bool, true, false, List, ◌++◌, append_assoc, length, set, refl, sym, ap, ◌∙◌, subst, arith, ⊎_elim, get_or-set_other}
use Rattle.std.specs.Prelude.{Option, None, Some, IsSome, IsTrue, IfNone, if◌then◌else◌, option_to_list, slice_index}
use Rattle.std.proofs.lemmas.Bool.{cases_eq, cases_lt, eq-eqb, ne_eqb}
use Rattle.line_base.specs.declared.event.Parts.{Parts}
use Rattle.line_base.specs.Roomy.{RoomyLog}
use Rattle.card_queue.specs.Plain.{PlainQueue}
use Rattle.event_graph.specs.Network.{jobs, ins}
use Rattle.station_step.specs.declared.ends.Inlet.{Inlet}
use Rattle.station_step.specs.declared.ends.Inlet.TheVariants as inlet
use Rattle.station_step.specs.declared.input.Input.{Input}
use Rattle.station_step.specs.declared.waits.EmptyHand.{EmptyHand}
use Rattle.station_step.specs.Shelf.{WorkShelf}
use Rattle.station_step.specs.Ends.{inlet_taken, inlet_ahead, unseen_inlet, KnowsMore, HasAsked}
use Rattle.station_step.specs.Input.{input_at, tokens_ahead, IsRefilled}
use Rattle.station_step.specs.RingInputs.{HasLookedIn, HaveLooked}
use Rattle.station_step.specs.Station.{WorkStation, IsStation, IsSeated, StandsAt}
use Rattle.station_step.specs.Kept.{IsKept}
use Rattle.station_step.specs.Step.{IsBlockedAt}
use Rattle.station_step.specs.Waits.{IsOnlyEmpty, IsWaiting, StaysBlocked, with_turn}
use Rattle.station_step.proofs.KeptStations.{station-waits}
use Rattle.station_step.proofs.RefilledHands.{input_at-set}
use Rattle.station_step.proofs.RingInputs.{looked_in-refl}
use Rattle.station_step.proofs.Looked.{bare-looked, taken-looked, tokens-looked}

-- ---- what it has noted

pub waiting-none : (g : Parts) (t : ℕ) (inputs : List Input) (log : RoomyLog) (at_once : Bool) → IsWaiting g t inputs log at_once None
waiting-none g t inputs log at_once = record { hand = tt; left = tt; by_hands = tt }

true_or_false : (b : Bool) → IsTrue b → b ≡ false → ⊥
true_or_false true is is_not = absurd (cc)
true_or_false false is is_not = absurd (cc)

-- where it may fire at once it waits for no input
pub waiting-at_once : (g : Parts) (t : ℕ) (before after : List Input) (log later : RoomyLog) (at_once : Bool) (noted : Option EmptyHand) → IsTrue at_once → IsWaiting g t before log at_once noted → IsWaiting g t after later at_once noted
waiting-at_once g t before after log later at_once None may is = waiting-none g t after later at_once
waiting-at_once g t before after log later at_once (Some hand) may is =
    absurd (true_or_false at_once may is.by_hands)

-- where all hands stay
pub waiting-stays : (g : Parts) (t : ℕ) (before after : List Input) (log : RoomyLog) (at_once : Bool) (noted : Option EmptyHand) → length after ≡ length before → ((k : ℕ) → k < length before → (input_at after k).hand ≡ (input_at before k).hand) → IsWaiting g t before log at_once noted → IsWaiting g t after log at_once noted
waiting-stays g t before after log at_once None count hands is = waiting-none g t after log at_once
waiting-stays g t before after log at_once (Some hand) count hands is = record {
  hand = record {
    there = omega (arith, is.hand.there, count);
    arc_is = is.hand.arc_is;
    empty = hands hand.input is.hand.there ∙ is.hand.empty;
    others = λ k low other.
        let below : k < length before = omega (arith, low, count) in
        subst (λ (h : Option ℕ). IsSome h) (sym (hands k below)) (is.hand.others k below other);
  };
  left = is.left;
  by_hands = is.by_hands;
}

-- where hands were refilled and some stay empty, by the first and the last of them
pub waiting-refilled : (g : Parts) (t : ℕ) (inputs : List Input) (log : RoomyLog) (first last arc : ℕ) (noted : Option EmptyHand) → noted ≡ (if first == last then Some (record { input = first; arc = arc }) else None) → first < length inputs → slice_index (ins g t) first ≡ arc → (input_at inputs first).hand ≡ None → ((j : ℕ) → j < first → IsSome (input_at inputs j).hand) → ((j : ℕ) → last < j → j < length inputs → IsSome (input_at inputs j).hand) → length log.dates < jobs g → IsWaiting g t inputs log false noted
waiting-refilled g t inputs log first last arc noted is there arc_is empty before behind left =
    ⊎_elim
    (λ (same : first ≡ last).
    let hand : EmptyHand = record { input = first; arc = arc } in
    subst (IsWaiting g t inputs log false)
    (sym (is ∙ ap (λ (b : Bool). if b then Some hand else None) (eq-eqb first last same)))
    (record {
      hand = record {
        there = there;
        arc_is = arc_is;
        empty = empty;
        others = λ k low other.
            ⊎_elim
            (λ (less : k < first). before k less)
            (λ (most : first ≤ k). behind k (omega (arith, same, most, other)) low)
            (cases_lt k first);
      };
      left = left;
      by_hands = refl;
    }))
    (λ (two : first ≢ last).
    subst (IsWaiting g t inputs log false)
    (sym (is ∙ ap (λ (b : Bool). if b then Some (record { input = first; arc = arc }) else None) (ne_eqb first last two)))
    (waiting-none g t inputs log false))
    (cases_eq first last)

-- ---- looks one after the other, and turns

knows-trans : (a b c : Inlet) → unseen_inlet b ≡ unseen_inlet a → KnowsMore a b → KnowsMore b c → KnowsMore a c
knows-trans (inlet.Ring a) (inlet.Ring b) (inlet.Ring c) same first next =
    (first.0 ++ next.0, sym (append_assoc a.known first.0 next.0) ∙ ap (λ (l : List ℕ). l ++ next.0) first.1 ∙ next.1)
knows-trans (inlet.Ring a) (inlet.Ring b) (inlet.Room c) same first next = tt
knows-trans (inlet.Ring a) (inlet.Ring b) (inlet.Local c) same first next = tt
knows-trans (inlet.Ring a) (inlet.Room b) c same first next = absurd (cc)
knows-trans (inlet.Ring a) (inlet.Local b) c same first next = absurd (cc)
knows-trans (inlet.Room a) (inlet.Room b) (inlet.Room c) same first next = omega (arith, first, next)
knows-trans (inlet.Room a) (inlet.Room b) (inlet.Ring c) same first next = tt
knows-trans (inlet.Room a) (inlet.Room b) (inlet.Local c) same first next = tt
knows-trans (inlet.Room a) (inlet.Ring b) c same first next = absurd (cc)
knows-trans (inlet.Room a) (inlet.Local b) c same first next = absurd (cc)
knows-trans (inlet.Local a) b c same first next = tt

hands-trans : (a b c : Input) → HasLookedIn a b → HasLookedIn b c → HasLookedIn a c
hands-trans a b c first next = record {
  same = next.same ∙ first.same;
  more = knows-trans a.inlet b.inlet c.inlet first.same first.more next.more;
  looks = omega (arith, first.looks, next.looks);
  hand = next.hand ∙ first.hand;
}

pub looked-trans : (a b c : WorkStation) → HaveLooked a b → HaveLooked b c → HaveLooked a c
looked-trans a b c first next = record {
  rest = next.rest ∙ ap (λ (s : WorkStation). record s { inputs = c.inputs }) first.rest;
  count = next.count ∙ first.count;
  each = λ k low. hands-trans (input_at a.inputs k) (input_at b.inputs k) (input_at c.inputs k) (first.each k low) (next.each k (omega (arith, low, first.count)));
}

pub looked-turned : (a b : WorkStation) → HaveLooked a b → HaveLooked (with_turn a) (with_turn b)
looked-turned a b looked = record {
  rest = ap (λ (s : WorkStation). with_turn s) looked.rest;
  count = looked.count;
  each = looked.each;
}

pub seated-turned : (shelf : List PlainQueue) (s : WorkStation) → IsSeated shelf s → IsSeated shelf (with_turn s)
seated-turned shelf s is = record {
  takes_within = is.takes_within;
  takes_apart = is.takes_apart;
  puts_within = is.puts_within;
  puts_apart = is.puts_apart;
}

pub stands-turned : (i : ℕ) (shelf : WorkShelf) (s : WorkStation) → StandsAt i shelf s → StandsAt i shelf (with_turn s)
stands-turned i shelf s is = record { there = is.there; log = is.log; come = is.come; later = is.later }

pub kept-turned : (shelf : List PlainQueue) (s : WorkStation) → IsKept shelf s → IsKept shelf (with_turn s)
kept-turned shelf s is = record { held = is.held; dates = is.dates; added = is.added; room = is.room }

-- ---- a look at one input

-- where one input has looked, each of them has looked or is as it was
pub looked-set : (inputs : List Input) (j : ℕ) (input : Input) → j < length inputs → HasLookedIn (input_at inputs j) input → (k : ℕ) → k < length inputs → HasLookedIn (input_at inputs k) (input_at (set inputs j input) k)
looked-set inputs j input low looked k less =
    ⊎_elim
    (λ (e : k ≡ j).
    subst (λ (n : ℕ). HasLookedIn (input_at inputs n) (input_at (set inputs j input) n)) (sym e)
    (subst (HasLookedIn (input_at inputs j)) (sym (input_at-set inputs j input low)) looked))
    (λ (ne : k ≢ j).
    subst (HasLookedIn (input_at inputs k)) (sym (get_or-set_other inputs j k input (record { inlet = inlet.Local 0; hand = None }) ne))
    (looked_in-refl (input_at inputs k)))
    (cases_eq k j)

-- ---- a step at which no token has come

-- each hand is refilled from a shelf that stays, where nothing was known for one that is empty, and it has looked there
refilled-still : (shelf : List PlainQueue) (before after : Input) → HasLookedIn before after → IfNone after.hand (tokens_ahead shelf before ≡ 0) → IfNone after.hand (HasAsked before.inlet after.inlet) → IsRefilled shelf shelf before after
refilled-still shelf before after looked none asked = record {
  same = bare-looked before after looked;
  taken = ap (λ (l : List ℕ). l ++ option_to_list before.hand) (taken-looked shelf before after looked)
      ∙ ap (λ (hand : Option ℕ). inlet_taken shelf before.inlet ++ option_to_list hand) (sym looked.hand);
  full = λ _. looked.hand;
  empty = none;
  asked = asked;
}

none-where_full : (Fact : Type 0) (hand : Option ℕ) → IsSome hand → IfNone hand Fact
none-where_full Fact None full = absurd (cc)
none-where_full Fact (Some date) full = tt

none-where_so : (Fact : Type 0) (hand : Option ℕ) → Fact → IfNone hand Fact
none-where_so Fact None is = is
none-where_so Fact (Some date) is = tt

-- where no token is ahead of an input after its look, none was before it
none-before : (shelf : List PlainQueue) (before after : Input) → HasLookedIn before after → before.hand ≡ None → inlet_ahead shelf after.inlet ≡ 0 → tokens_ahead shelf before ≡ 0
none-before shelf before after looked empty none =
    omega (
      arith,
      none,
      tokens-looked shelf before after looked,
      ap (λ (hand : Option ℕ). length (option_to_list hand)) (looked.hand ∙ empty),
    )

pub none-where_not : (some : Bool) (count : ℕ) → some ≡ false → (0 < count → IsTrue some) → count ≡ 0
none-where_not some zero is_not is_so = refl
none-where_not true (suc n) is_not is_so = absurd (cc)
none-where_not false (suc n) is_not is_so = let is = is_so (omega arith) in absurd (cc)

pub stays-blocked : (shelf : List PlainQueue) (s : WorkStation) (inputs : List Input) (hand : EmptyHand) → IsStation s → length s.log.dates < jobs s.graph → IsOnlyEmpty s.graph s.number s.inputs hand → HaveLooked s (record s { inputs = inputs }) → inlet_ahead shelf (input_at inputs hand.input).inlet ≡ 0 → HasAsked (input_at s.inputs hand.input).inlet (input_at inputs hand.input).inlet → StaysBlocked shelf s (record s { inputs = inputs; turns = s.turns + 1 }) hand.arc
stays-blocked shelf s inputs hand sound left only looked none asked =
    let k = hand.input in
    let before : tokens_ahead shelf (input_at s.inputs k) ≡ 0 =
    none-before shelf (input_at s.inputs k) (input_at inputs k) (looked.each k only.there) only.empty none in
    let full : (j : ℕ) → j < length s.inputs → j ≢ k → IsSome (input_at inputs j).hand =
    λ j low ne. subst (λ (h : Option ℕ). IsSome h) (sym (looked.each j low).hand) (only.others j low ne) in
    let at : IsBlockedAt shelf s (record s { inputs = inputs; turns = s.turns + 1 }) hand.arc k = record {
      there = only.there;
      arc_is = only.arc_is;
      none = before;
      looked = asked;
      empty = (looked.each k only.there).hand ∙ only.empty;
      first = λ j less. full j (omega (arith, less, only.there)) (λ e. absurd (omega (arith, less, e)));
    } in record {
      left = left;
      looked = looked-turned s (record s { inputs = inputs }) looked;
      station = station-waits s inputs (s.turns + 1) looked.count sound;
      blocked = (k, at);
      did = record {
        log = refl;
        outlets = refl;
        puts = record { count = refl; puts = λ q. refl };
        hands = λ j low.
            let at_empty : (P : ℕ → Type 0) → P k → IfNone (input_at inputs j).hand (P j) =
            λ P is.
            ⊎_elim
            (λ (e : j ≡ k). none-where_so (P j) (input_at inputs j).hand (subst P (sym e) is))
            (λ (ne : j ≢ k). none-where_full (P j) (input_at inputs j).hand (full j low ne))
            (cases_eq j k) in
            refilled-still shelf (input_at s.inputs j) (input_at inputs j) (looked.each j low)
            (at_empty (λ n. tokens_ahead shelf (input_at s.inputs n) ≡ 0) before)
            (at_empty (λ n. HasAsked (input_at s.inputs n).inlet (input_at inputs n).inlet) asked);
      };
    }
