-- The two ends of an arc's queue are of one kind: what holds of each kind holds of the ends that are laid.
use Rattle.std.proofs.Common.{◌≡◌, ℕ, List, ⊎_elim}
use Rattle.std.proofs.lemmas.Bool.{cases_eq}
use Rattle.line_base.specs.declared.event.Parts.{Parts}
use Rattle.card_queue.specs.Put.{PutEnd}
use Rattle.card_queue.specs.Take.{TakeEnd}
use Rattle.room_ring.specs.Put.{RoomPutEnd}
use Rattle.room_ring.specs.Take.{RoomTakeEnd}
use Rattle.event_graph.specs.State.{State}
use Rattle.station_step.specs.declared.ends.Inlet.{Inlet}
use Rattle.station_step.specs.declared.ends.Outlet.{Outlet}
use Rattle.station_step.specs.declared.ends.Inlet.TheVariants as inlet
use Rattle.station_step.specs.declared.ends.Outlet.TheVariants as outlet
use Rattle.line_setup.specs.Making.{IsNewRing, IsNewRoom, IsNewPlain, AreNewEnds, HasPlain, QueueEnds, firsts_at, outlet_of, inlet_of, putter, taker, HasEnds}

module _ (g : Parts) (begun : State) (a : ℕ) (P : Outlet → Inlet → Type 0) where
  -- what holds of the ends of each kind of ring holds of the new ends of a ring
  pub of_ring : ((put : PutEnd) (take : TakeEnd) → IsNewRing g begun a put take → P (outlet.Ring put) (inlet.Ring take)) → ((put : RoomPutEnd) (take : RoomTakeEnd) → IsNewRoom g begun a put take → P (outlet.Room put) (inlet.Room take)) → (o : Outlet) (i : Inlet) → AreNewEnds g begun a o i → P o i
  of_ring ring room (outlet.Ring put) (inlet.Ring take) has = ring put take has
  of_ring ring room (outlet.Room put) (inlet.Room take) has = room put take has
  of_ring ring room (outlet.Ring put) (inlet.Room take) has = absurd has
  of_ring ring room (outlet.Ring put) (inlet.Local r) has = absurd has
  of_ring ring room (outlet.Room put) (inlet.Ring take) has = absurd has
  of_ring ring room (outlet.Room put) (inlet.Local r) has = absurd has
  of_ring ring room (outlet.Local q) i has = absurd has

  -- what holds of a queue of the shelf holds of the ends that have one
  pub of_plain : (firsts : List (List ℕ)) → ((q r : ℕ) → IsNewPlain begun firsts a q r → P (outlet.Local q) (inlet.Local r)) → (o : Outlet) (i : Inlet) → HasPlain begun firsts a o i → P o i
  of_plain firsts plain (outlet.Local q) (inlet.Local r) has = plain q r has
  of_plain firsts plain (outlet.Local q) (inlet.Ring take) has = absurd has
  of_plain firsts plain (outlet.Local q) (inlet.Room take) has = absurd has
  of_plain firsts plain (outlet.Ring put) i has = absurd has
  of_plain firsts plain (outlet.Room put) i has = absurd has

  -- what holds of each kind holds of the ends of an arc
  pub of_ends : (worker_count : ℕ) (ends : QueueEnds) → HasEnds g begun worker_count ends a → ((put : PutEnd) (take : TakeEnd) → IsNewRing g begun a put take → P (outlet.Ring put) (inlet.Ring take)) → ((put : RoomPutEnd) (take : RoomTakeEnd) → IsNewRoom g begun a put take → P (outlet.Room put) (inlet.Room take)) → (putter g worker_count a ≡ taker g worker_count a → (q r : ℕ) → IsNewPlain begun (firsts_at ends (putter g worker_count a)) a q r → P (outlet.Local q) (inlet.Local r)) → P (outlet_of g ends a) (inlet_of g ends a)
  of_ends worker_count ends has ring room plain =
      ⊎_elim
      (λ one. of_plain (firsts_at ends (putter g worker_count a)) (plain one) (outlet_of g ends a) (inlet_of g ends a) (has.shelf one))
      (λ two. of_ring ring room (outlet_of g ends a) (inlet_of g ends a) (has.ring two).ends)
      (cases_eq (putter g worker_count a) (taker g worker_count a))
