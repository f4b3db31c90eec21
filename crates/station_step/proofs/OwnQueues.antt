-- What is seen of an end follows from its own queue, and which queue that is stays.
use Rattle.std.proofs.Common.{◌≡◌, ◌≢◌, ℕ, List, length, get_or, map, refl, sym, ap, ◌∙◌}
use Rattle.std.specs.Prelude.{None, Some}
use Rattle.std.proofs.Math.ListN.{get_or-map}
use Rattle.card_queue.specs.Plain.{PlainQueue, plain_taken, plain_waiting}
use Rattle.station_step.specs.declared.ends.Inlet.{Inlet}
use Rattle.station_step.specs.declared.ends.Outlet.{Outlet}
use Rattle.station_step.specs.declared.ends.Inlet.TheVariants as inlet
use Rattle.station_step.specs.declared.ends.Outlet.TheVariants as outlet
use Rattle.station_step.specs.declared.input.Input.{Input}
use Rattle.station_step.specs.Shelf.{queue_at, OnlyTakes, OnlyPuts}
use Rattle.station_step.specs.Ends.{inlet_taken, inlet_ahead, inlet_queue, bare_inlet, unseen_inlet, is_ring_inlet, outlet_added, outlet_queue, bare_outlet}
use Rattle.station_step.specs.Input.{input_at}
use Rattle.station_step.specs.Station.{bare_input, outlet_at}

pub None-Some : {q : ℕ} → None ≢ Some q
None-Some e = cc

pub Some-injective : {q r : ℕ} → Some q ≡ Some r → q ≡ r
Some-injective e = cc

-- an inlet's queue on the shelf is as it was
abbrev pub InletQueueStays : List PlainQueue → List PlainQueue → Inlet → Type 0
InletQueueStays old new i = (q : ℕ) → inlet_queue i ≡ Some q → queue_at new q ≡ queue_at old q

abbrev pub OutletQueueStays : List PlainQueue → List PlainQueue → Outlet → Type 0
OutletQueueStays old new o = (q : ℕ) → outlet_queue o ≡ Some q → queue_at new q ≡ queue_at old q

pub inlet_taken-same : (old new : List PlainQueue) (i : Inlet) → InletQueueStays old new i → inlet_taken new i ≡ inlet_taken old i
inlet_taken-same old new (inlet.Ring take) stays = refl
inlet_taken-same old new (inlet.Room take) stays = refl
inlet_taken-same old new (inlet.Local q) stays = ap plain_taken (stays q refl)

pub inlet_ahead-same : (old new : List PlainQueue) (i : Inlet) → InletQueueStays old new i → inlet_ahead new i ≡ inlet_ahead old i
inlet_ahead-same old new (inlet.Ring take) stays = refl
inlet_ahead-same old new (inlet.Room take) stays = refl
inlet_ahead-same old new (inlet.Local q) stays = ap (λ queue. length (plain_waiting queue)) (stays q refl)

pub outlet_added-same : (old new : List PlainQueue) (o : Outlet) → OutletQueueStays old new o → outlet_added new o ≡ outlet_added old o
outlet_added-same old new (outlet.Ring put) stays = refl
outlet_added-same old new (outlet.Room put) stays = refl
outlet_added-same old new (outlet.Local q) stays = ap (λ queue. queue.added) (stays q refl)

-- which queue an end has follows from the end without its tokens
pub inlet_queue-bare : (i : Inlet) → inlet_queue (bare_inlet i) ≡ inlet_queue i
inlet_queue-bare (inlet.Ring take) = refl
inlet_queue-bare (inlet.Room take) = refl
inlet_queue-bare (inlet.Local q) = refl

pub outlet_queue-bare : (o : Outlet) → outlet_queue (bare_outlet o) ≡ outlet_queue o
outlet_queue-bare (outlet.Ring put) = refl
outlet_queue-bare (outlet.Room put) = refl
outlet_queue-bare (outlet.Local q) = refl

pub inlet_queue-same : (before after : Inlet) → bare_inlet after ≡ bare_inlet before → inlet_queue after ≡ inlet_queue before
inlet_queue-same before after same =
    sym (inlet_queue-bare after) ∙ ap inlet_queue same ∙ inlet_queue-bare before

-- and so does whether it is a ring's
is_ring-bare : (i : Inlet) → is_ring_inlet (bare_inlet i) ≡ is_ring_inlet i
is_ring-bare (inlet.Ring take) = refl
is_ring-bare (inlet.Room take) = refl
is_ring-bare (inlet.Local q) = refl

pub is_ring-same : (before after : Inlet) → bare_inlet after ≡ bare_inlet before → is_ring_inlet after ≡ is_ring_inlet before
is_ring-same before after same =
    sym (is_ring-bare after) ∙ ap is_ring_inlet same ∙ is_ring-bare before

pub outlet_queue-same : (before after : Outlet) → bare_outlet after ≡ bare_outlet before → outlet_queue after ≡ outlet_queue before
outlet_queue-same before after same =
    sym (outlet_queue-bare after) ∙ ap outlet_queue same ∙ outlet_queue-bare before

-- inputs that are the same without their tokens have the same queues
pub input-same : (before after : List Input) (k : ℕ) → map bare_input after ≡ map bare_input before → bare_inlet (input_at after k).inlet ≡ bare_inlet (input_at before k).inlet
input-same before after k same =
    let d : Input = record { inlet = inlet.Local 0; hand = None } in
    ap (λ (i : Input). i.inlet)
    (sym (get_or-map bare_input after k d) ∙ ap (λ (l : List Input). get_or l k d) same ∙ get_or-map bare_input before k d)

pub outlet-same : (before after : List Outlet) (k : ℕ) → map bare_outlet after ≡ map bare_outlet before → bare_outlet (outlet_at after k) ≡ bare_outlet (outlet_at before k)
outlet-same before after k same =
    let d : Outlet = outlet.Local 0 in
    sym (get_or-map bare_outlet after k d) ∙ ap (λ (l : List Outlet). get_or l k d) same ∙ get_or-map bare_outlet before k d

pub OnlyTakes-trans : {old mid new : List PlainQueue} → OnlyTakes old mid → OnlyTakes mid new → OnlyTakes old new
OnlyTakes-trans first next = record {
  count = next.count ∙ first.count;
  puts = λ q. next.puts q ∙ first.puts q;
}

pub OnlyPuts-trans : {old mid new : List PlainQueue} → OnlyPuts old mid → OnlyPuts mid new → OnlyPuts old new
OnlyPuts-trans first next = record {
  count = next.count ∙ first.count;
  takes = λ q. next.takes q ∙ first.takes q;
  taken = λ q. next.taken q ∙ first.taken q;
}

-- what an inlet knows says nothing of its queue and of the tokens that were taken
pub bare-unseen : (i : Inlet) → bare_inlet (unseen_inlet i) ≡ bare_inlet i
bare-unseen (inlet.Ring take) = refl
bare-unseen (inlet.Room take) = refl
bare-unseen (inlet.Local q) = refl

pub taken-unseen : (shelf : List PlainQueue) (i : Inlet) → inlet_taken shelf (unseen_inlet i) ≡ inlet_taken shelf i
taken-unseen shelf (inlet.Ring take) = refl
taken-unseen shelf (inlet.Room take) = refl
taken-unseen shelf (inlet.Local q) = refl
