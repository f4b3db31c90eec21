-- A station that fires at once: what it does is what it does where its hands are filled and emptied.
use Rattle.std.proofs.Common.{◌≡◌, ◌≢◌, ℕ, zero, suc, ◌<◌, ◌≤◌, max, List, [], ◌∷◌, ◌++◌, length, refl, sym, ap, ◌∙◌, subst, arith}
use Rattle.std.specs.Prelude.{Bool, true, false, Option, None, Some, IsSome, slice_index, unwrap_or, option_to_list, if◌then◌else◌}
use Rattle.std.specs.List.{range_with_len}
use Rattle.std.proofs.lemmas.List.{append-nil}
use Rattle.card_queue.specs.Plain.{PlainQueue, plain_taken, plain_waiting, plain_tokens}
use Rattle.event_graph.specs.GreatestValue.{greatest}
use Rattle.station_step.specs.Shelf.{queue_at, with_take}
use Rattle.station_step.specs.declared.ends.Inlet.{Inlet}
use Rattle.station_step.specs.declared.ends.Inlet.TheVariants as inlet
use Rattle.station_step.specs.declared.fronts.Front.{Front}
use Rattle.station_step.specs.declared.input.Input.{Input}
use Rattle.station_step.specs.Ends.{inlet_queue, inlet_taken, bare_inlet, unseen_inlet, is_ring_inlet}
use Rattle.station_step.specs.Fronts.{front_at, waiting_at, front_asks, AreAllThere, AreFronts, AreEmptyHanded}
use Rattle.station_step.specs.Input.{input_at, IsRefilled}
use Rattle.station_step.specs.Kept.{saturating}
use Rattle.station_step.specs.Refilled.{hand_asks}
use Rattle.station_step.specs.RingInputs.{is_ring_input, HasLookedIn, HasGiven, ring_taken, ring_token, ring_asks}
use Rattle.station_step.proofs.Dates.{greatest-above, greatest-below}
use Rattle.station_step.proofs.OwnQueues.{None-Some, Some-injective, is_ring-same, bare-unseen}
use Rattle.station_step.proofs.Queues.{front-some, front-more}

abbrev no_input : Input
no_input = record { inlet = inlet.Local 0; hand = None }

-- ---- what each input gives where the station fires at once

-- an input over a ring gave a token; any other is as it was
pub record TookAtOnce (before after : Input) : Type 0 where
  pub same : bare_inlet after.inlet ≡ bare_inlet before.inlet
  pub ring : is_ring_inlet before.inlet ≡ true → ring_taken after.inlet ≡ ring_taken before.inlet ++ ring_token before.inlet after.inlet ∷ []
  pub stays : is_ring_inlet before.inlet ≡ false → after.inlet ≡ before.inlet

ring_taken-unseen : (i : Inlet) → ring_taken (unseen_inlet i) ≡ ring_taken i
ring_taken-unseen (inlet.Ring take) = refl
ring_taken-unseen (inlet.Room take) = refl
ring_taken-unseen (inlet.Local q) = refl

pub ring_taken-looked : (before mid : Inlet) → unseen_inlet mid ≡ unseen_inlet before → ring_taken mid ≡ ring_taken before
ring_taken-looked before mid same =
    sym (ring_taken-unseen mid) ∙ ap ring_taken same ∙ ring_taken-unseen before

pub is_ring-looked : (before mid : Inlet) → unseen_inlet mid ≡ unseen_inlet before → is_ring_inlet mid ≡ is_ring_inlet before
is_ring-looked before mid same =
    is_ring-same before mid (sym (bare-unseen mid) ∙ ap bare_inlet same ∙ bare-unseen before)

local-looked : (before mid : Inlet) → unseen_inlet mid ≡ unseen_inlet before → is_ring_inlet before ≡ false → mid ≡ before
local-looked (inlet.Ring take) mid same local = absurd (cc)
local-looked (inlet.Room take) mid same local = absurd (cc)
local-looked (inlet.Local q) (inlet.Ring take) same local = absurd (cc)
local-looked (inlet.Local q) (inlet.Room take) same local = absurd (cc)
local-looked (inlet.Local q) (inlet.Local r) same local = same

-- it has looked, and then given
pub took-at_once : (before mid after : Input) → HasLookedIn before mid → bare_inlet after.inlet ≡ bare_inlet mid.inlet → HasGiven mid after → TookAtOnce before after
took-at_once before mid after looked same given =
    let taken = ring_taken-looked before.inlet mid.inlet looked.same in
    let kind = is_ring-looked before.inlet mid.inlet looked.same in
    record {
      same = same ∙ sym (bare-unseen mid.inlet) ∙ ap bare_inlet looked.same ∙ bare-unseen before.inlet;
      ring = λ is.
          given.ring (kind ∙ is)
          ∙ ap (λ l. l ++ slice_index (ring_taken after.inlet) (length l) ∷ []) taken;
      stays = λ local.
          ap (λ (i : Input). i.inlet) (given.stays (kind ∙ local)) ∙ local-looked before.inlet mid.inlet looked.same local;
    }

-- ---- the hands that are not filled

-- the token that an inlet gave, or the first that waits at one on the shelf
abbrev pub token_of : List PlainQueue → Inlet → Inlet → ℕ
token_of shelf (inlet.Ring take) after = ring_token (inlet.Ring take) after
token_of shelf (inlet.Room take) after = ring_token (inlet.Room take) after
token_of shelf (inlet.Local q) after = slice_index (plain_waiting (queue_at shelf q)) 0

-- an input with that token in its hand
abbrev pub in_hand : List PlainQueue → Input → Input → Input
in_hand shelf before after = record { inlet = after.inlet; hand = Some (token_of shelf before.inlet after.inlet) }

-- the inputs as they are with their hands full
abbrev pub filled : List PlainQueue → List Input → List Input → List Input
filled shelf before [] = []
filled shelf [] (a ∷ after) = in_hand shelf no_input a ∷ filled shelf [] after
filled shelf (b ∷ before) (a ∷ after) = in_hand shelf b a ∷ filled shelf before after

pub filled-count : (shelf : List PlainQueue) (before after : List Input) → length (filled shelf before after) ≡ length after
filled-count shelf before [] = refl
filled-count shelf [] (a ∷ after) = ap suc (filled-count shelf [] after)
filled-count shelf (b ∷ before) (a ∷ after) = ap suc (filled-count shelf before after)

pub filled-at : (shelf : List PlainQueue) (before after : List Input) (k : ℕ) → k < length after → input_at (filled shelf before after) k ≡ in_hand shelf (input_at before k) (input_at after k)
filled-at shelf before [] k low = absurd (omega (arith, low))
filled-at shelf [] (a ∷ after) zero low = refl
filled-at shelf [] (a ∷ after) (suc k) low = filled-at shelf [] after k (omega (arith, low))
filled-at shelf (b ∷ before) (a ∷ after) zero low = refl
filled-at shelf (b ∷ before) (a ∷ after) (suc k) low = filled-at shelf before after k (omega (arith, low))

pub filled-inlet : (shelf : List PlainQueue) (before after : List Input) (k : ℕ) → (input_at after k).inlet ≡ (input_at (filled shelf before after) k).inlet
filled-inlet shelf before [] k = refl
filled-inlet shelf [] (a ∷ after) zero = refl
filled-inlet shelf [] (a ∷ after) (suc k) = filled-inlet shelf [] after k
filled-inlet shelf (b ∷ before) (a ∷ after) zero = refl
filled-inlet shelf (b ∷ before) (a ∷ after) (suc k) = filled-inlet shelf before after k

-- they are full
pub filled-full : (shelf : List PlainQueue) (before after : List Input) (k : ℕ) → k < length after → IsSome (input_at (filled shelf before after) k).hand
filled-full shelf before after k low = subst (λ (i : Input). IsSome i.hand) (sym (filled-at shelf before after k low)) refl

-- a hand that is empty isn't full
not_full : (hand : Option ℕ) → hand ≡ None → IsSome hand → ⊥
not_full None empty full = absurd (cc)
not_full (Some token) empty full = absurd (cc)

-- one token more was taken from a queue that counts a take
taken-counted : (queue : PlainQueue) → plain_waiting queue ≢ [] → plain_taken (with_take queue) ≡ plain_taken queue ++ slice_index (plain_waiting queue) 0 ∷ []
taken-counted queue some =
    front-more (plain_tokens queue) queue.takes (slice_index (plain_waiting queue) 0) (front-some (plain_waiting queue) some)

-- what an inlet gave, by what was taken since
token-taken : (old mid : List PlainQueue) (before after : Inlet) → (is_ring_inlet before ≡ true → ring_taken after ≡ ring_taken before ++ ring_token before after ∷ []) → (is_ring_inlet before ≡ false → after ≡ before) → bare_inlet after ≡ bare_inlet before → ((q : ℕ) → inlet_queue before ≡ Some q → plain_waiting (queue_at old q) ≢ []) → ((q : ℕ) → inlet_queue before ≡ Some q → queue_at mid q ≡ with_take (queue_at old q)) → inlet_taken mid after ≡ inlet_taken old before ++ token_of old before after ∷ []
token-taken old mid (inlet.Ring take) (inlet.Ring later) ring stays same there now = ring refl
token-taken old mid (inlet.Ring take) (inlet.Room later) ring stays same there now = absurd (cc)
token-taken old mid (inlet.Ring take) (inlet.Local q) ring stays same there now = absurd (cc)
token-taken old mid (inlet.Room take) (inlet.Ring later) ring stays same there now = absurd (cc)
token-taken old mid (inlet.Room take) (inlet.Room later) ring stays same there now = ring refl
token-taken old mid (inlet.Room take) (inlet.Local q) ring stays same there now = absurd (cc)
token-taken old mid (inlet.Local q) after ring stays same there now =
    ap (inlet_taken mid) (stays refl)
    ∙ ap plain_taken (now q refl)
    ∙ taken-counted (queue_at old q) (there q refl)

-- an inlet from a queue is no ring's
pub no-ring : (i : Inlet) (q : ℕ) → inlet_queue i ≡ Some q → is_ring_inlet i ≡ false
no-ring (inlet.Ring take) q is = absurd (None-Some is)
no-ring (inlet.Room take) q is = absurd (None-Some is)
no-ring (inlet.Local r) q is = refl

module _ (delays extras : List ℕ) (shelf : List PlainQueue) (before after : List Input) (fronts : List Front) (is : AreFronts delays extras before fronts) (count : length after ≡ length before) where
  abbrev full : List Input
  full = filled shelf before after

  -- the front of an input, where it is on the shelf
  at-front : (P : ℕ → Type 0) (k q : ℕ) → k < length before → inlet_queue (input_at before k).inlet ≡ Some q → ((j : ℕ) → j < length fronts → slice_index is.numbers j ≡ k → (front_at fronts j).queue ≡ q → P j) → (j : ℕ) × P j
  at-front P k q low queue there =
      let at = is.each k low (no-ring (input_at before k).inlet q queue) in
      let j = at.0 in
      let below : j < length fronts = omega (arith, at.1.0, is.count) in
      (j, there j below at.1.1 (Some-injective (sym (is.queues j below) ∙ ap (λ n. inlet_queue (input_at before n).inlet) at.1.1 ∙ queue)))

  -- each hand is filled, where its front counts a take or its ring gave a token
  pub each-filled : (mid : List PlainQueue) → AreEmptyHanded before → ((k : ℕ) → k < length before → TookAtOnce (input_at before k) (input_at after k)) → AreAllThere shelf fronts → ((j : ℕ) → j < length fronts → queue_at mid (front_at fronts j).queue ≡ with_take (queue_at shelf (front_at fronts j).queue)) → (k : ℕ) → k < length before → IsRefilled shelf mid (input_at before k) (input_at full k)
  each-filled mid empty taken there now k low =
      let b = input_at before k in
      let a = input_at after k in
      let took = taken k low in
      subst (IsRefilled shelf mid b) (sym (filled-at shelf before after k (omega (arith, low, count))))
      (record {
        same = took.same;
        taken =
            ap (λ (h : Option ℕ). inlet_taken mid a.inlet ++ option_to_list h) (empty k low)
            ∙ append-nil (inlet_taken mid a.inlet)
            ∙ token-taken shelf mid b.inlet a.inlet took.ring took.stays took.same
            (λ q queue. (at-front (λ _. plain_waiting (queue_at shelf q) ≢ []) k q low queue
            (λ j below at same. subst (λ r. plain_waiting (queue_at shelf r) ≢ []) same (there j below))).1)
            (λ q queue. (at-front (λ _. queue_at mid q ≡ with_take (queue_at shelf q)) k q low queue
            (λ j below at same. subst (λ r. queue_at mid r ≡ with_take (queue_at shelf r)) same (now j below))).1);
        full = λ full. absurd (not_full b.hand (empty k low) full);
        empty = tt;
        asked = tt;
      })

  -- ---- the date that they ask for

  -- what a full hand asks for
  filled-asks : (k : ℕ) → k < length before → hand_asks extras full k ≡ saturating (token_of shelf (input_at before k).inlet (input_at after k).inlet) (slice_index extras k)
  filled-asks k low =
      ap (λ (i : Input). saturating (unwrap_or i.hand 0) (slice_index extras k)) (filled-at shelf before after k (omega (arith, low, count)))

  token-local : (b a : Inlet) (q : ℕ) → inlet_queue b ≡ Some q → token_of shelf b a ≡ slice_index (plain_waiting (queue_at shelf q)) 0
  token-local (inlet.Ring take) a q queue = absurd (None-Some queue)
  token-local (inlet.Room take) a q queue = absurd (None-Some queue)
  token-local (inlet.Local r) a q queue = ap (λ n. slice_index (plain_waiting (queue_at shelf n)) 0) (Some-injective queue)

  -- a front asks what the hand of its input asks
  front-hand : (j : ℕ) → j < length fronts → front_asks shelf fronts j ≡ hand_asks extras full (slice_index is.numbers j)
  front-hand j low =
      let k = slice_index is.numbers j in
      ap (saturating (slice_index (waiting_at shelf fronts j) 0)) (is.extra j low)
      ∙ ap (λ n. saturating n (slice_index extras k)) (sym (token-local (input_at before k).inlet (input_at after k).inlet (front_at fronts j).queue (is.queues j low)))
      ∙ sym (filled-asks k (is.within j low))

  -- what a ring's token asks, its hand asks
  ring-hand : (b a : Inlet) (extra : ℕ) → is_ring_inlet b ≡ true → (if is_ring_inlet b then saturating (ring_token b a) extra else 0) ≡ saturating (token_of shelf b a) extra
  ring-hand (inlet.Ring take) a extra ring = refl
  ring-hand (inlet.Room take) a extra ring = refl
  ring-hand (inlet.Local q) a extra ring = absurd (cc)

  ring-least : (b a : Inlet) (extra : ℕ) → (if is_ring_inlet b then saturating (ring_token b a) extra else 0) ≤ saturating (token_of shelf b a) extra
  ring-least (inlet.Ring take) a extra = omega arith
  ring-least (inlet.Room take) a extra = omega arith
  ring-least (inlet.Local q) a extra = omega arith

  -- an input that is over no ring has a front
  local-front : (most k : ℕ) → k < length before → is_ring_input (input_at before k) ≡ false → ((j : ℕ) → j < length fronts → front_asks shelf fronts j ≤ most) → hand_asks extras full k ≤ most
  local-front most k low local each =
      let at = is.each k low local in
      let below : at.0 < length fronts = omega (arith, at.1.0, is.count) in
      omega (arith, each at.0 below, front-hand at.0 below, ap (hand_asks extras full) at.1.1)

  -- one over a ring asks for what its token asks
  ring-front : (k : ℕ) → k < length before → is_ring_input (input_at before k) ≡ true → ring_asks extras before after k ≡ hand_asks extras full k
  ring-front k low ring =
      ring-hand (input_at before k).inlet (input_at after k).inlet (slice_index extras k) ring ∙ sym (filled-asks k low)

  ring-below : (k : ℕ) → k < length before → ring_asks extras before after k ≤ hand_asks extras full k
  ring-below k low =
      omega (arith, ring-least (input_at before k).inlet (input_at after k).inlet (slice_index extras k), filled-asks k low)

  either-kind : (P : Type 0) (b : Bool) → (b ≡ true → P) → (b ≡ false → P) → P
  either-kind P true ring local = ring refl
  either-kind P false ring local = local refl

  -- the latest that the fronts and the rings' tokens ask for is what the full hands ask for
  pub latest-filled : max (greatest (front_asks shelf fronts) (range_with_len 0 (length fronts))) (greatest (ring_asks extras before after) (range_with_len 0 (length before))) ≡ greatest (hand_asks extras full) (range_with_len 0 (length full))
  latest-filled =
      let asks = hand_asks extras full in
      let n = length before in
      let many : length full ≡ n = filled-count shelf before after ∙ count in
      let all = greatest asks (range_with_len 0 n) in
      let fronts_most = greatest (front_asks shelf fronts) (range_with_len 0 (length fronts)) in
      let rings_most = greatest (ring_asks extras before after) (range_with_len 0 n) in
      let fronts_low : fronts_most ≤ all =
      greatest-below (front_asks shelf fronts) (length fronts) all
      (λ j low. omega (arith, front-hand j low, greatest-above asks n (slice_index is.numbers j) (is.within j low))) in
      let rings_low : rings_most ≤ all =
      greatest-below (ring_asks extras before after) n all
      (λ k low. omega (arith, ring-below k low, greatest-above asks n k low)) in
      let high : all ≤ max fronts_most rings_most =
      greatest-below asks n (max fronts_most rings_most)
      (λ k low.
      either-kind (asks k ≤ max fronts_most rings_most) (is_ring_input (input_at before k))
      (λ ring. omega (arith, ring-front k low ring, greatest-above (ring_asks extras before after) n k low))
      (λ local.
      local-front (max fronts_most rings_most) k low local
      (λ j below. omega (arith, greatest-above (front_asks shelf fronts) (length fronts) j below)))) in
      let same : max fronts_most rings_most ≡ all = omega (arith, fronts_low, rings_low, high) in
      same ∙ ap (λ m. greatest asks (range_with_len 0 m)) (sym many)

-- the rings ask for the same, before they are looked at and after
pub ring_asks-looked : (extras : List ℕ) (before mid after : List Input) (n : ℕ) → ((k : ℕ) → k < n → HasLookedIn (input_at before k) (input_at mid k)) → (k : ℕ) → k < n → ring_asks extras mid after k ≡ ring_asks extras before after k
ring_asks-looked extras before mid after n looked k low =
    let b = (input_at before k).inlet in
    let m = (input_at mid k).inlet in
    let a = (input_at after k).inlet in
    let asks : Bool → List ℕ → ℕ = λ kind taken. if kind then saturating (slice_index (ring_taken a) (length taken)) (slice_index extras k) else 0 in
    ap (λ kind. asks kind (ring_taken m)) (is_ring-looked b m (looked k low).same)
    ∙ ap (asks (is_ring_inlet b)) (ring_taken-looked b m (looked k low).same)
