-- The inputs of a station while its hands are refilled, one after the other.
use Rattle.std.specs.Option.{option_or}
use Rattle.std.proofs.Common.{◌≡◌, ◌≢◌, ℕ, ◌+◌, ◌<◌, ◌≤◌, List, ◌++◌, length, set, map, refl, sym, ap, ◌∙◌, subst, arith, get_or-set_same, get_or-set_other}
use Rattle.std.specs.Prelude.{Option, None, Some, is_some, false, IsSome, IfNone, IfSome, option_to_list}
use Rattle.std.proofs.Math.Seq.{map-set_same}
use Rattle.std.proofs.lemmas.List.{length-set}
use Rattle.card_queue.specs.Plain.{PlainQueue}
use Rattle.station_step.specs.declared.ends.Inlet.{Inlet}
use Rattle.station_step.specs.declared.ends.Inlet.TheVariants.{Local}
use Rattle.station_step.specs.declared.input.Input.{Input}
use Rattle.station_step.specs.declared.refilled.Refilled.{Refilled}
use Rattle.station_step.specs.Refilled.{refill_result, IfFull, IfEmpty}
use Rattle.station_step.specs.Shelf.{queue_at, OnlyTakes}
use Rattle.station_step.specs.Ends.{inlet_queue}
use Rattle.station_step.specs.Input.{input_at, IsRefilled, TakeApart}
use Rattle.station_step.specs.Station.{bare_input}
use Rattle.station_step.proofs.OwnQueues.{InletQueueStays, inlet_taken-same, inlet_ahead-same, inlet_queue-same, OnlyTakes-trans}
use Rattle.station_step.proofs.Turns.{below-set}

-- the inputs below k are refilled, the others as they were
pub record RefilledUpTo (k : ℕ) (old new : List PlainQueue) (before after : List Input) : Type 0 where
  pub count : length after ≡ length before
  pub same : map bare_input after ≡ map bare_input before
  pub done : (j : ℕ) → j < k → IsRefilled old new (input_at before j) (input_at after j)
  pub rest : (j : ℕ) → k ≤ j → input_at after j ≡ input_at before j
  pub only_takes : OnlyTakes old new
  pub others : (q : ℕ) → ((j : ℕ) → j < k → inlet_queue (input_at before j).inlet ≢ Some q) → queue_at new q ≡ queue_at old q

-- none is refilled yet
pub refilled_none : (shelf : List PlainQueue) (inputs : List Input) → RefilledUpTo 0 shelf shelf inputs inputs
refilled_none shelf inputs = record {
  count = refl;
  same = refl;
  done = λ j lt. absurd (omega (arith, lt));
  rest = λ j le. refl;
  only_takes = record { count = refl; puts = λ q. refl };
  others = λ q none. refl;
}

-- a refilled input is one also where other queues changed later, or had changed before
refilled-later : (old mid new : List PlainQueue) (before after : Input) → IsRefilled old mid before after → InletQueueStays mid new after.inlet → IsRefilled old new before after
refilled-later old mid new before after is stays = record {
  same = is.same;
  taken = ap (λ xs. xs ++ option_to_list before.hand) (inlet_taken-same mid new after.inlet stays) ∙ is.taken;
  full = is.full;
  empty = is.empty;
  asked = is.asked;
}

refilled-earlier : (old mid new : List PlainQueue) (before after : Input) → IsRefilled mid new before after → InletQueueStays old mid before.inlet → IsRefilled old new before after
refilled-earlier old mid new before after is stays = record {
  same = is.same;
  taken = is.taken ∙ ap (λ xs. xs ++ option_to_list after.hand) (inlet_taken-same old mid before.inlet stays);
  full = is.full;
  empty = subst (λ (n : ℕ). IfNone after.hand (length (option_to_list before.hand) + n ≡ 0)) (inlet_ahead-same old mid before.inlet stays) is.empty;
  asked = is.asked;
}

-- the next input is refilled
pub refilled_more : (k : ℕ) (old mid new : List PlainQueue) (before after : List Input) (input : Input) → TakeApart before → k < length after → RefilledUpTo k old mid before after → IsRefilled mid new (input_at after k) input → OnlyTakes mid new → ((q : ℕ) → inlet_queue (input_at after k).inlet ≢ Some q → queue_at new q ≡ queue_at mid q) → RefilledUpTo (k + 1) old new before (set after k input)
refilled_more k old mid new before after input apart low up_to next only others =
    let d : Input = record { inlet = Local 0; hand = None } in
    let low_before : k < length before = omega (arith, up_to.count) in
    let at_k = up_to.rest k (omega arith) in
    let Goal : ℕ → Input → Type 0 = λ j i. IsRefilled old new (input_at before j) i in
    let untouched : InletQueueStays old mid (input_at before k).inlet =
    λ q is. up_to.others q (λ j lt holds. apart j k lt low_before q holds is) in
    let new_one : IsRefilled old new (input_at before k) input =
    refilled-earlier old mid new (input_at before k) input (subst (λ (i : Input). IsRefilled mid new i input) at_k next) untouched in
    record {
      count = length-set after k input ∙ up_to.count;
      same = map-set_same bare_input after k input d (ap (λ (i : Inlet). record { inlet = i; hand = None }) next.same) ∙ up_to.same;
      done = below-set d Goal k after input low
          (λ (j : ℕ) (below : j < k).
          let stays : InletQueueStays mid new (input_at after j).inlet =
          λ q is.
          others q
          (λ clash.
          apart j k below low_before q
          (sym (inlet_queue-same (input_at before j).inlet (input_at after j).inlet (up_to.done j below).same) ∙ is)
          (ap (λ (i : Input). inlet_queue i.inlet) (sym at_k) ∙ clash)) in
          refilled-later old mid new (input_at before j) (input_at after j) (up_to.done j below) stays)
          new_one;
      rest = λ j le. get_or-set_other after k j input d (λ e. absurd (omega (arith, e))) ∙ up_to.rest j (omega arith);
      only_takes = OnlyTakes-trans up_to.only_takes only;
      others = λ q none.
          others q (λ clash. none k (omega arith) (ap (λ (i : Input). inlet_queue i.inlet) (sym at_k) ∙ clash))
          ∙ up_to.others q (λ j lt. none j (omega arith));
    }

-- the first of the inputs below k whose hand is empty
pub record IsFirstEmpty (k : ℕ) (found : Option ℕ) (inputs : List Input) : Type 0 where
  pub none : IfNone found ((j : ℕ) → j < k → IsSome (input_at inputs j).hand)
  pub there : IfSome found (λ i. i < k)
  pub empty : IfSome found (λ i. (input_at inputs i).hand ≡ None)
  pub first : IfSome found (λ i. (j : ℕ) → j < i → IsSome (input_at inputs j).hand)

pub first-none : (inputs : List Input) → IsFirstEmpty 0 None inputs
first-none inputs = record { none = λ j lt. absurd (omega (arith, lt)); there = tt; empty = tt; first = tt }

-- an input before the one that changes
before-set : (inputs : List Input) (k j : ℕ) (input : Input) → j < k → input_at (set inputs k input) j ≡ input_at inputs j
before-set inputs k j input lt = get_or-set_other inputs k j input (record { inlet = Local 0; hand = None }) (λ e. absurd (omega (arith, e)))

pub input_at-set : (inputs : List Input) (k : ℕ) (input : Input) → k < length inputs → input_at (set inputs k input) k ≡ input
input_at-set inputs k input low = get_or-set_same inputs k input (record { inlet = Local 0; hand = None }) low

-- where one was found, the inputs behind it say nothing
found_stays : (k i : ℕ) (inputs : List Input) (input : Input) → IsFirstEmpty k (Some i) inputs → IsFirstEmpty (k + 1) (Some i) (set inputs k input)
found_stays k i inputs input is = record {
  none = tt;
  there = omega (arith, is.there);
  empty = ap (λ (l : Input). l.hand) (before-set inputs k i input is.there) ∙ is.empty;
  first = λ j lt.
      subst (λ (l : Input). IsSome l.hand) (sym (before-set inputs k j input (omega (arith, is.there)))) (is.first j lt);
}

no_token : (hand : Option ℕ) → is_some hand ≡ false → hand ≡ None
no_token None none = refl
no_token (Some token) none = absurd (cc)

-- the next input has an empty hand
pub first-empty : (k : ℕ) (found : Option ℕ) (inputs : List Input) (input : Input) → k < length inputs → is_some input.hand ≡ false → IsFirstEmpty k found inputs → IsFirstEmpty (k + 1) (option_or found (Some k)) (set inputs k input)
first-empty k (Some i) inputs input low empty is = found_stays k i inputs input is
first-empty k None inputs input low empty is = record {
  none = tt;
  there = omega arith;
  empty = ap (λ (l : Input). l.hand) (input_at-set inputs k input low) ∙ no_token input.hand empty;
  first = λ j lt. subst (λ (l : Input). IsSome l.hand) (sym (before-set inputs k j input lt)) (is.none j lt);
}

-- the next input has a full hand
pub first-full : (k : ℕ) (found : Option ℕ) (inputs : List Input) (input : Input) → k < length inputs → IsSome input.hand → IsFirstEmpty k found inputs → IsFirstEmpty (k + 1) found (set inputs k input)
first-full k (Some i) inputs input low full is = found_stays k i inputs input is
first-full k None inputs input low full is = record {
  none = below-set (record { inlet = Local 0; hand = None }) (λ (j : ℕ) (l : Input). IsSome l.hand) k inputs input low is.none full;
  there = tt;
  empty = tt;
  first = tt;
}

-- the last of the inputs below k whose hand is empty, where one is
pub record IsLastEmpty (k : ℕ) (found : Option ℕ) (last : ℕ) (inputs : List Input) : Type 0 where
  pub there : IfSome found (λ _. last < k)
  pub empty : IfSome found (λ _. (input_at inputs last).hand ≡ None)
  pub behind : (j : ℕ) → last < j → j < k → IsSome (input_at inputs j).hand

pub last-none : (inputs : List Input) → IsLastEmpty 0 None 0 inputs
last-none inputs = record { there = tt; empty = tt; behind = λ j more lt. absurd (omega (arith, lt)) }

of_any : (Fact : Type 0) (found : Option ℕ) → Fact → IfSome found (λ _. Fact)
of_any Fact None is = tt
of_any Fact (Some i) is = is

-- the next input has an empty hand: it is the last one now
pub last-empty : (k : ℕ) (found : Option ℕ) (inputs : List Input) (input : Input) → k < length inputs → is_some input.hand ≡ false → IsLastEmpty (k + 1) found k (set inputs k input)
last-empty k found inputs input low empty = record {
  there = of_any (k < k + 1) found (omega arith);
  empty = of_any ((input_at (set inputs k input) k).hand ≡ None) found
      (ap (λ (l : Input). l.hand) (input_at-set inputs k input low) ∙ no_token input.hand empty);
  behind = λ j more lt. absurd (omega (arith, more, lt));
}

-- the next input has a full hand
behind-full : (k last : ℕ) (inputs : List Input) (input : Input) → k < length inputs → IsSome input.hand → ((j : ℕ) → last < j → j < k → IsSome (input_at inputs j).hand) → (j : ℕ) → j < k + 1 → last < j → IsSome (input_at (set inputs k input) j).hand
behind-full k last inputs input low full behind =
    below-set (record { inlet = Local 0; hand = None }) (λ (j : ℕ) (l : Input). last < j → IsSome l.hand) k inputs input low
    (λ j lt more. behind j more lt)
    (λ more. full)

pub last-full : (k : ℕ) (found : Option ℕ) (last : ℕ) (inputs : List Input) (input : Input) → k < length inputs → IsSome input.hand → IsLastEmpty k found last inputs → IsLastEmpty (k + 1) found last (set inputs k input)
last-full k None last inputs input low full is =
    let full_behind = behind-full k last inputs input low full is.behind in record {
      there = tt;
      empty = tt;
      behind = λ j more lt. full_behind j lt more;
    }
last-full k (Some i) last inputs input low full is =
    let full_behind = behind-full k last inputs input low full is.behind in record {
      there = omega (arith, is.there);
      empty = ap (λ (l : Input). l.hand) (before-set inputs k last input is.there) ∙ is.empty;
      behind = λ j more lt. full_behind j lt more;
    }

-- ---- what came of it, by the first hand that is empty

pub full-where_none : (r : Refilled) (found : Option ℕ) (last latest : ℕ) (holds : ℕ → Type 0) → r ≡ refill_result found last latest → (found ≡ None → holds latest) → IfFull r holds
full-where_none r None last latest holds is full = subst (λ (a : Refilled). IfFull a holds) (sym is) (full refl)
full-where_none r (Some k) last latest holds is full = subst (λ (a : Refilled). IfFull a holds) (sym is) tt

pub empty-where_some : (r : Refilled) (found : Option ℕ) (last latest : ℕ) (holds : ℕ → ℕ → Type 0) → r ≡ refill_result found last latest → ((k : ℕ) → found ≡ Some k → holds k last) → IfEmpty r holds
empty-where_some r None last latest holds is empty = subst (λ (a : Refilled). IfEmpty a holds) (sym is) tt
empty-where_some r (Some k) last latest holds is empty = subst (λ (a : Refilled). IfEmpty a holds) (sym is) (empty k refl)
