-- The inputs of a station while it looks and takes at those over rings, one after the other.
use Rattle.std.proofs.Common.{◌≡◌, ℕ, zero, suc, ◌+◌, ◌<◌, ◌≤◌, max, List, [], ◌∷◌, ◌++◌, length, set, map, refl, sym, ap, ◌∙◌, subst, arith, ⊎_elim, get_or-set_same, get_or-set_other}
use Rattle.std.specs.List.{list_any, range_with_len}
use Rattle.std.specs.Prelude.{Bool, true, false, ◌||◌, ◌↔◌, Option, None, Some, IsTrue, IsSome, IfNone, option_to_list, if◌then◌else◌, slice_index}
use Rattle.std.proofs.Math.Seq.{map-set_same}
use Rattle.std.proofs.lemmas.Bool.{cases_lt}
use Rattle.std.proofs.lemmas.List.{length-set, append-nil, get_or_push}
use Rattle.std.proofs.lemmas.List.Folds.{list_any_at}
use Rattle.event_graph.specs.GreatestValue.{greatest}
use Rattle.card_queue.specs.Plain.{PlainQueue}
use Rattle.station_step.specs.declared.ends.Inlet.{Inlet}
use Rattle.station_step.specs.declared.ends.Inlet.TheVariants as inlet
use Rattle.station_step.specs.declared.input.Input.{Input}
use Rattle.station_step.specs.declared.noted.NotedInput.{NotedInput}
use Rattle.station_step.specs.Ends.{inlet_taken, bare_inlet, is_ring_inlet, HasKnown, KnowsMore}
use Rattle.station_step.specs.Input.{input_at}
use Rattle.station_step.specs.Kept.{saturating}
use Rattle.station_step.specs.Noted.{inputs_of}
use Rattle.station_step.specs.RingInputs.{is_ring_input, HasLookedIn, ring_taken, ring_token, HasGiven, ring_asks}
use Rattle.station_step.specs.Station.{bare_input}
use Rattle.station_step.proofs.OwnQueues.{is_ring-same}
use Rattle.station_step.proofs.Dates.{greatest-more, greatest-agree, latest-none}
use Rattle.station_step.proofs.Turns.{below-set}

abbrev no_input : Input
no_input = record { inlet = inlet.Local 0; hand = None }

-- ---- which inputs are over rings

-- what is noted beside the inputs says nothing of it
pub any-inputs : (test : Input → Bool) (inputs : List NotedInput) → list_any test (inputs_of inputs) ≡ list_any (λ (n : NotedInput). test n.input) inputs
any-inputs test [] = refl
any-inputs test (n ∷ inputs) = ap (λ (b : Bool). test n.input || b) (any-inputs test inputs)

false-unless : (b : Bool) → (b ≡ true → ⊥) → b ≡ false
false-unless true differs = absurd (differs refl)
false-unless false differs = refl

-- where none of them is, this one is not
pub no_ring-at : (inputs : List Input) (k : ℕ) → list_any is_ring_input inputs ≡ false → k < length inputs → is_ring_input (input_at inputs k) ≡ false
no_ring-at inputs k without low =
    false-unless (is_ring_input (input_at inputs k))
    (λ is.
    let some : list_any is_ring_input inputs ≡ true = list_any_at is_ring_input inputs k no_input low is in
    absurd (cc))

-- ---- one input that looks

knows_more-refl : (i : Inlet) → KnowsMore i i
knows_more-refl (inlet.Ring take) = ([], append-nil take.known)
knows_more-refl (inlet.Room take) = omega arith
knows_more-refl (inlet.Local q) = tt

-- an input that has not looked
pub looked_in-refl : (input : Input) → HasLookedIn input input
looked_in-refl input = record { same = refl; more = knows_more-refl input.inlet; looks = omega arith; hand = refl }

-- ---- the walk that looks

-- the inputs below k have looked, the others are as they were
pub record LookedUpTo (k : ℕ) (before after : List Input) : Type 0 where
  pub count : length after ≡ length before
  pub done : (j : ℕ) → j < k → HasLookedIn (input_at before j) (input_at after j)
  pub rest : (j : ℕ) → k ≤ j → input_at after j ≡ input_at before j

-- the next input has looked
pub looked_more : (k : ℕ) (before after : List Input) (input : Input) → k < length after → LookedUpTo k before after → HasLookedIn (input_at after k) input → LookedUpTo (k + 1) before (set after k input)
looked_more k before after input low up_to looked = record {
  count = length-set after k input ∙ up_to.count;
  done = below-set no_input (λ (j : ℕ) (i : Input). HasLookedIn (input_at before j) i) k after input low up_to.done
      (subst (λ (was : Input). HasLookedIn was input) (up_to.rest k (omega arith)) looked);
  rest = λ j le. get_or-set_other after k j input no_input (λ e. absurd (omega (arith, e))) ∙ up_to.rest j (omega arith);
}

-- wherever the walk stops, no input has lost what it knew
pub looked-each : (k : ℕ) (before after : List Input) → LookedUpTo k before after → (j : ℕ) → HasLookedIn (input_at before j) (input_at after j)
looked-each k before after up_to j =
    ⊎_elim
    (λ (lt : j < k). up_to.done j lt)
    (λ (le : k ≤ j). subst (HasLookedIn (input_at before j)) (sym (up_to.rest j le)) (looked_in-refl (input_at before j)))
    (cases_lt j k)

-- a token is known at each ring below k
abbrev pub KnownUpTo : ℕ → List Input → Type 0
KnownUpTo k inputs = (j : ℕ) → j < k → HasKnown (input_at inputs j).inlet

-- the next input knows of one
pub known_more : (k : ℕ) (inputs : List Input) (input : Input) → k < length inputs → KnownUpTo k inputs → HasKnown input.inlet → KnownUpTo (k + 1) (set inputs k input)
known_more k inputs input low earlier here =
    below-set no_input (λ (j : ℕ) (i : Input). HasKnown i.inlet) k inputs input low earlier here

-- ---- one input that gives

-- no shelf is asked what was taken at a ring
taken-ring : (i : Inlet) → is_ring_inlet i ≡ true → inlet_taken [] i ≡ ring_taken i
taken-ring (inlet.Ring take) is = refl
taken-ring (inlet.Room take) is = refl
taken-ring (inlet.Local q) is = absurd (cc)

-- a ring from which this token was taken
ring_taken-more : (token : ℕ) (before after : Inlet) → is_ring_inlet before ≡ true → bare_inlet after ≡ bare_inlet before → inlet_taken [] after ≡ inlet_taken [] before ++ token ∷ [] → ring_taken after ≡ ring_taken before ++ token ∷ []
ring_taken-more token before after ring same taken =
    sym (taken-ring after (is_ring-same before after same ∙ ring))
    ∙ taken
    ∙ ap (λ xs. xs ++ token ∷ []) (taken-ring before ring)

-- it is the one that the ring gave
ring_token-is : (token : ℕ) (before after : Inlet) → ring_taken after ≡ ring_taken before ++ token ∷ [] → ring_token before after ≡ token
ring_token-is token before after more =
    ap (λ xs. slice_index xs (length (ring_taken before))) more ∙ get_or_push (ring_taken before) token 0 _ refl

-- what came of an input from which this was taken, where something is taken of a ring alone
pub record HasTaken (token : Option ℕ) (before after : Input) : Type 0 where
  pub ring : IsSome token ↔ IsTrue (is_ring_inlet before.inlet)
  pub same : bare_inlet after.inlet ≡ bare_inlet before.inlet
  pub taken : (shelf : List PlainQueue) → inlet_taken shelf after.inlet ≡ inlet_taken shelf before.inlet ++ option_to_list token
  pub stays : IfNone token (after.inlet ≡ before.inlet)
  pub hand : after.hand ≡ before.hand

-- a token is that of a ring
taken-more : (token : ℕ) (before after : Input) → HasTaken (Some token) before after → ring_taken after.inlet ≡ ring_taken before.inlet ++ token ∷ []
taken-more token before after took = ring_taken-more token before.inlet after.inlet (took.ring.0 refl) took.same (took.taken [])

-- where there was none, the input is over no ring
no_ring : (before after : Input) → HasTaken None before after → is_ring_input before ≡ false
no_ring before after took = false-unless (is_ring_input before) (λ is. let none = took.ring.1 is in cc)

-- either way the input gave what it was to give
pub given : (token : Option ℕ) (before after : Input) → HasTaken token before after → HasGiven before after
given (Some token) before after took =
    let more = taken-more token before after took in
    record {
      ring = λ _. more ∙ ap (λ n. ring_taken before.inlet ++ n ∷ []) (sym (ring_token-is token before.inlet after.inlet more));
      stays = λ other. absurd (let is = took.ring.0 refl in cc);
      hand = took.hand;
    }
given None before after took = record {
  ring = λ is. absurd (let none = took.ring.1 is in cc);
  stays = λ _.
      ap (λ (i : Inlet). record after { inlet = i }) took.stays
      ∙ ap (λ (hand : Option ℕ). record before { hand = hand }) took.hand;
  hand = took.hand;
}

-- ---- what the tokens ask of the date

-- what the token of an input asks, where it is over a ring
abbrev pub ring_ask : ℕ → Input → Input → ℕ
ring_ask extra before after =
    if is_ring_input before then saturating (ring_token before.inlet after.inlet) extra else 0

ask-ring : (extra : ℕ) (before after : Input) → is_ring_input before ≡ true → ring_ask extra before after ≡ saturating (ring_token before.inlet after.inlet) extra
ask-ring extra before after is =
    ap (λ (b : Bool). if b then saturating (ring_token before.inlet after.inlet) extra else 0) is

ask-no_ring : (extra : ℕ) (before after : Input) → is_ring_input before ≡ false → ring_ask extra before after ≡ 0
ask-no_ring extra before after is =
    ap (λ (b : Bool). if b then saturating (ring_token before.inlet after.inlet) extra else 0) is

-- the latest date with a token that was taken
pub latest-token : (token extra latest : ℕ) (before after : Input) → HasTaken (Some token) before after → max latest (saturating token extra) ≡ max latest (ring_ask extra before after)
latest-token token extra latest before after took =
    let is = ring_token-is token before.inlet after.inlet (taken-more token before after took) in
    ap (λ n. max latest (saturating n extra)) (sym is)
    ∙ ap (max latest) (sym (ask-ring extra before after (took.ring.0 refl)))

-- it stays where none was taken
pub latest-no_token : (extra latest : ℕ) (before after : Input) → HasTaken None before after → latest ≡ max latest (ring_ask extra before after)
latest-no_token extra latest before after took =
    omega (arith, ask-no_ring extra before after (no_ring before after took))

-- ---- the walk that takes

-- the inputs below k have given their tokens, the others are as they were
pub record GaveUpTo (k : ℕ) (before after : List Input) : Type 0 where
  pub count : length after ≡ length before
  pub same : map bare_input after ≡ map bare_input before
  pub done : (j : ℕ) → j < k → HasGiven (input_at before j) (input_at after j)
  pub rest : (j : ℕ) → k ≤ j → input_at after j ≡ input_at before j

-- none has given yet
pub gave_none : (inputs : List Input) → GaveUpTo 0 inputs inputs
gave_none inputs = record { count = refl; same = refl; done = λ j lt. absurd (omega (arith, lt)); rest = λ j le. refl }

-- the next input has given its token
pub gave_more : (k : ℕ) (before after : List Input) (input : Input) (token : Option ℕ) → k < length after → GaveUpTo k before after → HasTaken token (input_at before k) input → GaveUpTo (k + 1) before (set after k input)
gave_more k before after input token low up_to took = record {
  count = length-set after k input ∙ up_to.count;
  same = map-set_same bare_input after k input no_input
      (ap (λ (i : Inlet). record { inlet = i; hand = None }) took.same ∙ ap bare_input (sym (up_to.rest k (omega arith))))
      ∙ up_to.same;
  done = below-set no_input (λ (j : ℕ) (i : Input). HasGiven (input_at before j) i) k after input low up_to.done
      (given token (input_at before k) input took);
  rest = λ j le. get_or-set_other after k j input no_input (λ e. absurd (omega (arith, e))) ∙ up_to.rest j (omega arith);
}

-- the latest date where none has given yet
pub latest-none_gave : (f : ℕ → ℕ) (date : ℕ) → date ≡ max date (greatest f (range_with_len 0 0))
latest-none_gave f date = let none : 0 ≡ greatest f (range_with_len 0 0) = latest-none f in omega (arith, none)

-- the latest date where one input more has given
pub latest-gave_more : (extras : List ℕ) (k : ℕ) (before after : List Input) (input : Input) (date latest next : ℕ) → k < length after → latest ≡ max date (greatest (ring_asks extras before after) (range_with_len 0 k)) → next ≡ max latest (ring_ask (slice_index extras k) (input_at before k) input) → next ≡ max date (greatest (ring_asks extras before (set after k input)) (range_with_len 0 (k + 1)))
latest-gave_more extras k before after input date latest next low is next_is =
    let old = ring_asks extras before after in
    let new = ring_asks extras before (set after k input) in
    let ask : ℕ → Input → ℕ = λ j i. ring_ask (slice_index extras j) (input_at before j) i in
    let earlier : greatest old (range_with_len 0 k) ≡ greatest new (range_with_len 0 k) =
    greatest-agree old new 0 k
    (λ j from to. ap (ask j) (sym (get_or-set_other after k j input no_input (λ e. absurd (omega (arith, e, to)))))) in
    let at : k ≡ 0 + k = omega arith in
    let here : ask k input ≡ new (0 + k) = ap (ask k) (sym (get_or-set_same after k input no_input low)) ∙ ap new at in
    let one_more : suc k ≡ k + 1 = omega arith in
    let last : greatest new (range_with_len 0 (k + 1)) ≡ max (greatest new (range_with_len 0 k)) (ask k input) =
    ap (λ n. greatest new (range_with_len 0 n)) (sym one_more)
    ∙ greatest-more new 0 k
    ∙ ap (max (greatest new (range_with_len 0 k))) (sym here) in
    omega (arith, next_is, is, earlier, last)

-- nothing is asked where none is over a ring
asks-no_rings : (extras : List ℕ) (before after : List Input) → list_any is_ring_input before ≡ false → (k n : ℕ) → k + n ≤ length before → greatest (ring_asks extras before after) (range_with_len k n) ≡ 0
unfolding greatest
asks-no_rings extras before after without k zero le = refl
asks-no_rings extras before after without k (suc n) le =
    let here : ring_asks extras before after k ≡ 0 =
    ask-no_ring (slice_index extras k) (input_at before k) (input_at after k) (no_ring-at before k without (omega arith)) in
    omega (arith, here, asks-no_rings extras before after without (k + 1) n (omega arith))

-- so the date stays
pub latest-no_rings : (extras : List ℕ) (inputs : List Input) (date : ℕ) → list_any is_ring_input inputs ≡ false → date ≡ max date (greatest (ring_asks extras inputs inputs) (range_with_len 0 (length inputs)))
latest-no_rings extras inputs date without =
    omega (arith, asks-no_rings extras inputs inputs without 0 (length inputs) (omega arith))
