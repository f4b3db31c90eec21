-- The fronts of a station: the walk over its inputs that gives them, and what they say as long as its queues stay.
use Rattle.std.proofs.Common.{◌≡◌, ◌≢◌, ℕ, ◌+◌, ◌<◌, ◌≤◌, List, [], ◌∷◌, ◌++◌, length, map, set, refl, sym, ap, ◌∙◌, arith, ⊎_elim, get_or-set_same, get_or-set_other}
use Rattle.std.proofs.Math.Seq.{map-set_same}
use Rattle.std.specs.Prelude.{Bool, true, false, ◌||◌, None, Some, IsTrue, IfSome, slice_index}
use Rattle.std.specs.List.{list_any}
use Rattle.std.proofs.lemmas.List.{length-set, length_push, get_or_push, get_or_append_left}
use Rattle.std.proofs.lemmas.Bool.{cases_eq, cases_lt}
use Rattle.line_base.specs.declared.event.Parts.{Parts}
use Rattle.station_step.specs.declared.source.Source.{Source}
use Rattle.station_step.specs.Shelf.{source_at}
use Rattle.station_step.specs.declared.ends.Inlet.{Inlet}
use Rattle.station_step.specs.declared.ends.Inlet.TheVariants as inlet
use Rattle.station_step.specs.declared.fronts.Front.{Front}
use Rattle.station_step.specs.declared.input.Input.{Input}
use Rattle.station_step.specs.Ends.{bare_inlet, inlet_queue, is_ring_inlet}
use Rattle.station_step.specs.Fronts.{front_at, FrontsUpTo, FrontsWithin, FrontsApart, NoneAt, AreFronts, AreLaterBy, IsDirect, AreEmptyHanded, IsReadied}
use Rattle.station_step.specs.Input.{input_at, TakeApart, TakeWithin, NoneTakes}
use Rattle.station_step.specs.Kept.{saturating}
use Rattle.station_step.specs.RingInputs.{is_ring_input}
use Rattle.station_step.specs.Station.{bare_input}
use Rattle.station_step.proofs.OwnQueues.{None-Some, Some-injective, inlet_queue-same, is_ring-same, input-same}

abbrev no_front : Front
no_front = front_at [] 0

abbrev no_input : Input
no_input = record { inlet = inlet.Local 0; hand = None }

-- ---- an inlet is a ring's exactly where it takes from no queue of the shelf

pub ring-none : (i : Inlet) → inlet_queue i ≡ None → is_ring_inlet i ≡ true
ring-none (inlet.Ring take) none = refl
ring-none (inlet.Room take) none = refl
ring-none (inlet.Local q) none = absurd (None-Some (sym none))

both : {b : Bool} → b ≡ true → b ≡ false → ⊥
both is is_not = absurd (cc)

-- ---- the walk that gives the fronts

pub fronts_none : (delays extras : List ℕ) (inputs : List Input) → FrontsUpTo 0 delays extras inputs []
fronts_none delays extras inputs = record {
  numbers = [];
  count = refl;
  within = λ j low. absurd (omega (arith, low));
  in_order = λ i j less low. absurd (omega (arith, low));
  queues = λ j low. absurd (omega (arith, low));
  extra = λ j low. absurd (omega (arith, low));
  later = λ j low. absurd (omega (arith, low));
  each = λ k low. absurd (omega (arith, low));
}

-- the next input is over a ring
pub fronts_past : (n : ℕ) (delays extras : List ℕ) (inputs : List Input) (fronts : List Front) → inlet_queue (input_at inputs n).inlet ≡ None → FrontsUpTo n delays extras inputs fronts → FrontsUpTo (n + 1) delays extras inputs fronts
fronts_past n delays extras inputs fronts none up_to = record {
  numbers = up_to.numbers;
  count = up_to.count;
  within = λ j low. omega (arith, up_to.within j low);
  in_order = up_to.in_order;
  queues = up_to.queues;
  extra = up_to.extra;
  later = up_to.later;
  each = λ k less local.
      ⊎_elim
      (λ (before : k < n). up_to.each k before local)
      (λ (past : n ≤ k).
      let e : k ≡ n = omega (arith, less, past) in
      absurd (both (ring-none (input_at inputs n).inlet none) (ap (λ m. is_ring_input (input_at inputs m)) (sym e) ∙ local)))
      (cases_lt k n);
}

-- the next input is on the shelf
pub fronts_more : (n : ℕ) (delays extras : List ℕ) (inputs : List Input) (fronts : List Front) (next : Front) → inlet_queue (input_at inputs n).inlet ≡ Some next.queue → next.extra.value ≡ slice_index extras n → next.later ≡ saturating (slice_index delays n) next.extra.value → FrontsUpTo n delays extras inputs fronts → FrontsUpTo (n + 1) delays extras inputs (fronts ++ next ∷ [])
fronts_more n delays extras inputs fronts next queue extra_is later_is up_to =
    let was = up_to.numbers in
    let many : length (fronts ++ next ∷ []) ≡ length fronts + 1 = length_push fronts next in
    let count : length (was ++ n ∷ []) ≡ length (fronts ++ next ∷ []) =
    omega (arith, length_push was n, many, up_to.count) in
    let number-before : (j : ℕ) → j < length fronts → slice_index (was ++ n ∷ []) j ≡ slice_index was j =
    λ j low. get_or_append_left was (n ∷ []) 0 j (omega (arith, low, up_to.count)) in
    let number-here : (j : ℕ) → j ≡ length fronts → slice_index (was ++ n ∷ []) j ≡ n =
    λ j e. get_or_push was n 0 j (up_to.count ∙ sym e) in
    let front-before : (j : ℕ) → j < length fronts → front_at (fronts ++ next ∷ []) j ≡ front_at fronts j =
    λ j low. get_or_append_left fronts (next ∷ []) no_front j low in
    let front-here : (j : ℕ) → j ≡ length fronts → front_at (fronts ++ next ∷ []) j ≡ next =
    λ j e. get_or_push fronts next no_front j (sym e) in
    let end : (j : ℕ) → j < length (fronts ++ next ∷ []) → length fronts ≤ j → j ≡ length fronts =
    λ j low past. omega (arith, low, past, many) in
    record {
      numbers = was ++ n ∷ [];
      count = count;
      within = λ j low.
          ⊎_elim
          (λ (before : j < length fronts). omega (arith, number-before j before, up_to.within j before))
          (λ (past : length fronts ≤ j). omega (arith, number-here j (end j low past)))
          (cases_lt j (length fronts));
      in_order = λ i j less low.
          ⊎_elim
          (λ (before : j < length fronts).
          omega (arith, number-before j before, number-before i (omega (arith, less, before)), up_to.in_order i j less before))
          (λ (past : length fronts ≤ j).
          let first : i < length fronts = omega (arith, less, end j low past) in
          omega (arith, number-here j (end j low past), number-before i first, up_to.within i first))
          (cases_lt j (length fronts));
      queues = λ j low.
          ⊎_elim
          (λ (before : j < length fronts).
          ap (λ m. inlet_queue (input_at inputs m).inlet) (number-before j before)
          ∙ up_to.queues j before
          ∙ ap (λ (f : Front). Some f.queue) (sym (front-before j before)))
          (λ (past : length fronts ≤ j).
          ap (λ m. inlet_queue (input_at inputs m).inlet) (number-here j (end j low past))
          ∙ queue
          ∙ ap (λ (f : Front). Some f.queue) (sym (front-here j (end j low past))))
          (cases_lt j (length fronts));
      extra = λ j low.
          ⊎_elim
          (λ (before : j < length fronts).
          ap (λ (f : Front). f.extra.value) (front-before j before)
          ∙ up_to.extra j before
          ∙ ap (slice_index extras) (sym (number-before j before)))
          (λ (past : length fronts ≤ j).
          ap (λ (f : Front). f.extra.value) (front-here j (end j low past))
          ∙ extra_is
          ∙ ap (slice_index extras) (sym (number-here j (end j low past))))
          (cases_lt j (length fronts));
      later = λ j low.
          ⊎_elim
          (λ (before : j < length fronts).
          ap (λ (f : Front). f.later) (front-before j before)
          ∙ up_to.later j before
          ∙ ap (λ m. saturating (slice_index delays m) (front_at fronts j).extra.value) (sym (number-before j before))
          ∙ ap (λ (f : Front). saturating (slice_index delays (slice_index (was ++ n ∷ []) j)) f.extra.value) (sym (front-before j before)))
          (λ (past : length fronts ≤ j).
          let here = end j low past in
          ap (λ (f : Front). f.later) (front-here j here)
          ∙ later_is
          ∙ ap (λ m. saturating (slice_index delays m) next.extra.value) (sym (number-here j here))
          ∙ ap (λ (f : Front). saturating (slice_index delays (slice_index (was ++ n ∷ []) j)) f.extra.value) (sym (front-here j here)))
          (cases_lt j (length fronts));
      each = λ k less local.
          ⊎_elim
          (λ (before : k < n).
          let at = up_to.each k before local in (
            at.0,
            (
              omega (arith, at.1.0, length_push was n),
              number-before at.0 (omega (arith, at.1.0, up_to.count)) ∙ at.1.1,
            ),
          ))
          (λ (past : n ≤ k).
          let e : n ≡ k = omega (arith, less, past) in
          (length fronts, (omega (arith, length_push was n, up_to.count), number-here (length fronts) refl ∙ e)))
          (cases_lt k n);
    }

-- ---- where the fronts stay

-- other inputs from the same queues
pub fronts-same : (delays extras : List ℕ) (before after : List Input) (fronts : List Front) → length after ≡ length before → map bare_input after ≡ map bare_input before → AreFronts delays extras before fronts → AreFronts delays extras after fronts
fronts-same delays extras before after fronts count same is =
    let bare : (k : ℕ) → bare_inlet (input_at after k).inlet ≡ bare_inlet (input_at before k).inlet =
    λ k. input-same before after k same in
    record {
      numbers = is.numbers;
      count = is.count;
      within = λ j low. omega (arith, is.within j low, count);
      in_order = is.in_order;
      queues = λ j low.
          let k = slice_index is.numbers j in
          inlet_queue-same (input_at before k).inlet (input_at after k).inlet (bare k) ∙ is.queues j low;
      extra = is.extra;
      later = is.later;
      each = λ k low local.
          is.each k (omega (arith, low, count))
          (sym (is_ring-same (input_at before k).inlet (input_at after k).inlet (bare k)) ∙ local);
    }

pub direct-same : (g : Parts) (t : ℕ) (before after : List Input) (fronts : List Front) (fixed bounded direct : Bool) → length after ≡ length before → map bare_input after ≡ map bare_input before → (IsTrue direct → IsDirect g t before fronts fixed bounded) → IsTrue direct → IsDirect g t after fronts fixed bounded
direct-same g t before after fronts fixed bounded direct count same was is = record {
  fronts_are = λ job. fronts-same _ _ before after fronts count same ((was is).fronts_are job);
  fixed_is = (was is).fixed_is;
  unbounded = (was is).unbounded;
  inside = (was is).inside;
}

-- whether one of them is over a ring
ring-bare_input : (i : Input) → is_ring_input (bare_input i) ≡ is_ring_input i
ring-bare_input i = is_ring-same i.inlet (bare_input i).inlet (bare-twice i.inlet) where
  bare-twice : (i : Inlet) → bare_inlet (bare_inlet i) ≡ bare_inlet i
  bare-twice (inlet.Ring take) = refl
  bare-twice (inlet.Room take) = refl
  bare-twice (inlet.Local q) = refl

any-bare : (inputs : List Input) → list_any is_ring_input (map bare_input inputs) ≡ list_any is_ring_input inputs
any-bare [] = refl
any-bare (i ∷ inputs) =
    ap (λ (b : Bool). b || list_any is_ring_input (map bare_input inputs)) (ring-bare_input i)
    ∙ ap (λ (b : Bool). is_ring_input i || b) (any-bare inputs)

pub any-ring-same : (before after : List Input) → map bare_input after ≡ map bare_input before → list_any is_ring_input before ≡ list_any is_ring_input after
any-ring-same before after same =
    sym (any-bare before) ∙ ap (list_any is_ring_input) (sym same) ∙ any-bare after

-- while a token may stand in a hand
pub readied-waits : (g : Parts) (t : ℕ) (before after : List Input) (fronts : List Front) (fixed bounded rings_in direct at_once : Bool) → length after ≡ length before → map bare_input after ≡ map bare_input before → IsReadied g t before fronts fixed bounded rings_in direct at_once → IsReadied g t after fronts fixed bounded rings_in direct false
readied-waits g t before after fronts fixed bounded rings_in direct at_once count same is = record {
  fires = direct-same g t before after fronts fixed bounded direct count same is.fires;
  may = λ never. absurd (cc);
  hands = λ never. absurd (cc);
  rings_are = is.rings_are ∙ any-ring-same before after same;
}

-- where all hands were emptied
pub readied-emptied : (g : Parts) (t : ℕ) (before after : List Input) (fronts : List Front) (fixed bounded rings_in direct at_once : Bool) → length after ≡ length before → map bare_input after ≡ map bare_input before → AreEmptyHanded after → IsReadied g t before fronts fixed bounded rings_in direct at_once → IsReadied g t after fronts fixed bounded rings_in direct direct
readied-emptied g t before after fronts fixed bounded rings_in direct at_once count same hands is = record {
  fires = direct-same g t before after fronts fixed bounded direct count same is.fires;
  may = λ is_direct. is_direct;
  hands = λ _. hands;
  rings_are = is.rings_are ∙ any-ring-same before after same;
}

-- where all hands stay
pub readied-stays : (g : Parts) (t : ℕ) (before after : List Input) (fronts : List Front) (fixed bounded rings_in direct at_once : Bool) → length after ≡ length before → map bare_input after ≡ map bare_input before → ((k : ℕ) → k < length before → (input_at after k).hand ≡ (input_at before k).hand) → IsReadied g t before fronts fixed bounded rings_in direct at_once → IsReadied g t after fronts fixed bounded rings_in direct at_once
readied-stays g t before after fronts fixed bounded rings_in direct at_once count same hands is = record {
  fires = direct-same g t before after fronts fixed bounded direct count same is.fires;
  may = is.may;
  hands = λ all k low.
      let below : k < length before = omega (arith, low, count) in
      hands k below ∙ is.hands all k below;
  rings_are = is.rings_are ∙ any-ring-same before after same;
}

-- where an input knows of more, and its hand stays
pub hands-met : (before : List Input) (j : ℕ) (input : Input) (after : List Input) → after ≡ set before j input → j < length before → input.hand ≡ (input_at before j).hand → (k : ℕ) → k < length before → (input_at after k).hand ≡ (input_at before k).hand
hands-met before j input after after_is low hand k less =
    ap (λ (l : List Input). (input_at l k).hand) after_is
    ∙ ⊎_elim
    (λ (e : k ≡ j).
    ap (λ n. (input_at (set before j input) n).hand) e
    ∙ ap (λ (i : Input). i.hand) (get_or-set_same before j input no_input low)
    ∙ hand
    ∙ ap (λ n. (input_at before n).hand) (sym e))
    (λ (ne : k ≢ j). ap (λ (i : Input). i.hand) (get_or-set_other before j k input no_input ne))
    (cases_eq k j)

pub readied-met : (g : Parts) (t : ℕ) (before : List Input) (j : ℕ) (input : Input) (after : List Input) (fronts : List Front) (fixed bounded rings_in direct at_once : Bool) → after ≡ set before j input → j < length before → bare_input input ≡ bare_input (input_at before j) → input.hand ≡ (input_at before j).hand → IsReadied g t before fronts fixed bounded rings_in direct at_once → IsReadied g t after fronts fixed bounded rings_in direct at_once
readied-met g t before j input after fronts fixed bounded rings_in direct at_once after_is low same hand is =
    readied-stays g t before after fronts fixed bounded rings_in direct at_once
    (ap length after_is ∙ length-set before j input)
    (ap (map bare_input) after_is ∙ map-set_same bare_input before j input no_input same)
    (hands-met before j input after after_is low hand)
    is

-- ---- what the inputs say of the fronts

inside : (count q : ℕ) (i : Inlet) → inlet_queue i ≡ Some q → IfSome (inlet_queue i) (λ r. r < count) → q < count
inside count q (inlet.Ring take) is low = absurd (None-Some is)
inside count q (inlet.Room take) is low = absurd (None-Some is)
inside count q (inlet.Local k) is low = let e : k ≡ q = Some-injective is in omega (arith, e, low)

module _ (delays extras : List ℕ) (inputs : List Input) (fronts : List Front) (is : AreFronts delays extras inputs fronts) where
  abbrev number : ℕ → ℕ
  number j = slice_index is.numbers j

  pub fronts-within : (count : ℕ) → TakeWithin count inputs → FrontsWithin count fronts
  fronts-within count within j low =
      inside count (front_at fronts j).queue (input_at inputs (number j)).inlet (is.queues j low) (within (number j) (is.within j low))

  pub fronts-apart : TakeApart inputs → FrontsApart fronts
  fronts-apart apart i j less low e =
      apart (number i) (number j) (is.in_order i j less low) (is.within j low) (front_at fronts i).queue
      (is.queues i (omega (arith, less, low)))
      (is.queues j low ∙ ap (λ n. Some n) (sym e))

  pub fronts-none : (q : ℕ) → NoneTakes q inputs → NoneAt q fronts
  fronts-none q none j low e = none (number j) (is.within j low) (is.queues j low ∙ ap (λ n. Some n) e)

  -- where the queues have the delays of the inputs' arcs, what is kept with each front is by the delay of its queue
  pub fronts-later : (sources : List Source) → ((k q : ℕ) → k < length inputs → inlet_queue (input_at inputs k).inlet ≡ Some q → (source_at sources q).delay ≡ slice_index delays k) → AreLaterBy sources fronts
  fronts-later sources come j low =
      is.later j low
      ∙ ap (λ n. saturating n (front_at fronts j).extra.value)
      (sym (come (number j) (front_at fronts j).queue (is.within j low) (is.queues j low)))
