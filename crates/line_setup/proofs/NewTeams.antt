-- Teams whose stations took the ends that were laid for them: what a line begins with.
use Rattle.std.proofs.Common.{◌≡◌, ◌≢◌, ℕ, zero, suc, ◌+◌, ◌-◌, ◌<◌, ◌≤◌, List, [], ◌++◌, Option, Some, None, Result, Ok, Err, IfOk, Vec, Global, ◌⊎◌, inl, inr, map, take, drop, length, get_or, refl, sym, ap, ◌∙◌, subst, arith, ⊎_elim, length-append}
use mathlib.Core.List.{IsPrefix}
use Rattle.std.specs.Prelude.{IfSome}
use Rattle.std.specs.declared.alloc.AllocError.{AllocError}
use Rattle.std.proofs.lemmas.Bool.{cases_eq}
use Rattle.std.proofs.lemmas.List.{length-map, get_or-map, take_all, take-append-drop, append-nil}
use Rattle.line_base.specs.declared.event.Parts.{Parts}
use Rattle.card_queue.specs.Plain.{PlainQueue, plain_taken}
use Rattle.card_queue.specs.Put.{PutEnd}
use Rattle.card_queue.specs.Take.{TakeEnd}
use Rattle.room_ring.specs.Put.{RoomPutEnd}
use Rattle.room_ring.specs.Take.{RoomTakeEnd}
use Rattle.event_graph.specs.Network.{stations, jobs, arc, arc_count, delay, ins, outs, IsGraph}
use Rattle.event_graph.specs.State.{State, log, place}
use Rattle.event_graph.proofs.ArcNumbers.{All-ins, All-outs}
use Rattle.station_step.specs.declared.ends.Inlet.{Inlet}
use Rattle.station_step.specs.declared.ends.Outlet.{Outlet}
use Rattle.station_step.specs.declared.ends.Inlet.TheVariants as inlet
use Rattle.station_step.specs.declared.ends.Outlet.TheVariants as outlet
use Rattle.station_step.specs.declared.input.Input.{Input}
use Rattle.station_step.specs.declared.source.Source.{Source}
use Rattle.station_step.specs.Shelf.{queue_at, source_at, new_queue}
use Rattle.station_step.specs.Ends.{inlet_queue, outlet_queue, AreEnds, HasRingRoom, IsUntaken, IsUnfilled}
use Rattle.station_step.specs.Input.{input_at, empty_handed}
use Rattle.station_step.specs.Station.{WorkStation, IsSeated, AreApart, outlet_at}
use Rattle.station_step.specs.Kept.{IsFresh}
use Rattle.line_worker.specs.Share.{worker_of, first_of}
use Rattle.line_worker.specs.Team.{WorkTeam, IsMember, IsTeam, member}
use Rattle.line_worker.specs.Teams.{team_at, station_of, shelf_of, index_in, input_on, outlet_on, outlet_initial, ShareQueue, IsJoined, IsOfRoom, AreOfRoom, AreTeams, IsQueueMet, IsMetOn, AreAllMet, HaveBegun}
use Rattle.line_setup.specs.Making.{room_on, source_of, arcs_at, arc_in, HaveSources, new_shelf, IsNewRing, IsNewRoom, QueueEnds, outlets_at, inlets_at, firsts_at, shelf_at, first_tokens, first_ins, first_outs, outlet_of, inlet_of, putter, taker, HasEnds, AreLaid, AreFit, AreFitFrom, IsNewStation, AreNewTeams, AreAllNew}
use Rattle.line_worker.proofs.Share.{first-le, next-above, worker_is, worker_number-below, first-all, first-rises}
use Rattle.line_setup.proofs.ArcOrder.{first_ins-below, first_outs-below, first_ins-all, first_outs-all, rank-ins, rank-outs, index_in-ins, index_in-outs}
use Rattle.line_setup.proofs.EndKinds.{of_ring, of_plain, of_ends}
use Rattle.line_setup.proofs.LaidEnds.{queue-within}

-- ---- the ends of an arc, by their kinds

-- a queue of a new shelf
shelf-queue : (g : Parts) (firsts : List (List ℕ)) (q : ℕ) → q < length firsts → queue_at (new_shelf g firsts) q ≡ new_queue (jobs g) (first_tokens firsts q)
shelf-queue g firsts q low = get_or-map (new_queue (jobs g)) firsts q [] (record { initial = []; added = []; room = 0; takes = 0 }) low

module _ (g : Parts) (begun : State) (a : ℕ) (shelf other : List PlainQueue) where
  ring-met : (put : PutEnd) (take : TakeEnd) → IsNewRing g begun a put take → IsQueueMet shelf other (outlet.Ring put) (inlet.Ring take)
  ring-met put take has =
      let all : take.taken ++ take.known ≡ put.initial ++ put.added =
      ap (λ l. l ++ take.known) has.taken
      ∙ has.known
      ∙ sym (append-nil (place begun a))
      ∙ ap (λ l. l ++ []) (sym has.initial)
      ∙ ap (λ l. put.initial ++ l) (sym has.added) in
      record {
        in_order = (take.known, all);
        known = omega (arith, ap length all, length-append take.taken take.known);
        room = tt;
      }

  room-met : (put : RoomPutEnd) (take : RoomTakeEnd) → IsNewRoom g begun a put take → IsQueueMet shelf other (outlet.Room put) (inlet.Room take)
  room-met put take has =
      let none = ap length has.taken in
      let many : length (put.initial ++ put.added) ≡ length (place begun a) =
      length-append put.initial put.added ∙ ap (λ n. n + length put.added) (ap length has.initial) ∙ (let last : length (place begun a) + length put.added ≡ length (place begun a) = omega (arith, ap length has.added) in last) in
      let order : IsPrefix take.taken (put.initial ++ put.added) = (put.initial ++ put.added, ap (λ l. l ++ (put.initial ++ put.added)) has.taken) in
      record {
        in_order = order;
        known = omega (arith, has.known, many, none);
        room = record {
          in_order = order;
          within = omega (arith, has.space, many, none);
          known = omega (arith, has.known, many, none);
          space = omega (arith, has.space, many, none);
        };
      }

plain-met : (shelf : List PlainQueue) (q r : ℕ) → r ≡ q → IsQueueMet shelf shelf (outlet.Local q) (inlet.Local r)
plain-met shelf q r same =
    let queue = queue_at shelf r in
    let tokens = queue.initial ++ queue.added in
    let all : take queue.takes tokens ++ drop queue.takes tokens ≡ (queue_at shelf q).initial ++ (queue_at shelf q).added =
    take-append-drop queue.takes tokens ∙ ap (λ n. (queue_at shelf n).initial ++ (queue_at shelf n).added) same in
    record {
      in_order = (drop queue.takes tokens, all);
      known = omega (arith, ap length all, length-append (take queue.takes tokens) (drop queue.takes tokens));
      room = tt;
    }

if_some : (o : Option ℕ) (P : ℕ → Type 0) → ((q : ℕ) → o ≡ Some q → P q) → IfSome o P
if_some None P holds = tt
if_some (Some q) P holds = holds q refl

-- ---- the ends of an arc

module _ (g : Parts) (begun : State) (worker_count : ℕ) (ends : QueueEnds) (a : ℕ) (has : HasEnds g begun worker_count ends a) where
  abbrev out_end : Outlet
  out_end = outlet_of g ends a

  abbrev in_end : Inlet
  in_end = inlet_of g ends a

  abbrev own_firsts : List (List ℕ)
  own_firsts = firsts_at ends (putter g worker_count a)

  abbrev own_shelf : List PlainQueue
  own_shelf = shelf_at g ends (putter g worker_count a)

  end-room : HasRingRoom (room_on g begun a) out_end
  end-room =
      of_ends g begun a (λ o i. HasRingRoom (room_on g begun a) o) worker_count ends has
      (λ put take new. omega (arith, ap length new.added, new.room))
      (λ put take new. omega (arith, ap length new.added, new.few))
      (λ one q r new. tt)

  end-unfilled : IsUnfilled out_end
  end-unfilled =
      of_ends g begun a (λ o i. IsUnfilled o) worker_count ends has (λ put take new. new.added) (λ put take new. new.added) (λ one q r new. tt)

  end-untaken : IsUntaken in_end
  end-untaken =
      of_ends g begun a (λ o i. IsUntaken i) worker_count ends has (λ put take new. new.taken) (λ put take new. new.taken) (λ one q r new. tt)

  end-queue : (q : ℕ) → outlet_queue out_end ≡ Some q → queue_at own_shelf q ≡ new_queue (jobs g) (place begun a)
  end-queue q =
      of_ends g begun a (λ o i. outlet_queue o ≡ Some q → queue_at own_shelf q ≡ new_queue (jobs g) (place begun a)) worker_count ends has
      (λ put take new same. absurd (let no : ⊥ = cc in no))
      (λ put take new same. absurd (let no : ⊥ = cc in no))
      (λ one p r new same.
      let at : q ≡ p = cc in
      ap (queue_at own_shelf) at ∙ shelf-queue g own_firsts p new.there ∙ ap (new_queue (jobs g)) new.tokens)

  -- an inlet on a queue of the shelf is that of an arc inside one worker
  end-inside : (q : ℕ) → inlet_queue in_end ≡ Some q → putter g worker_count a ≡ taker g worker_count a
  end-inside q =
      of_ends g begun a (λ o i. inlet_queue i ≡ Some q → putter g worker_count a ≡ taker g worker_count a) worker_count ends has
      (λ put take new same. absurd (let no : ⊥ = cc in no))
      (λ put take new same. absurd (let no : ⊥ = cc in no))
      (λ one p r new same. one)

  -- and its outlet stands there too
  end-shared : (q : ℕ) → inlet_queue in_end ≡ Some q → outlet_queue out_end ≡ Some q
  end-shared q =
      of_ends g begun a (λ o i. inlet_queue i ≡ Some q → outlet_queue o ≡ Some q) worker_count ends has
      (λ put take new same. same)
      (λ put take new same. same)
      (λ one p r new same. let at : r ≡ p = new.same in cc)

  end-initial : outlet_initial own_shelf out_end ≡ place begun a
  end-initial =
      of_ends g begun a (λ o i. outlet_initial own_shelf o ≡ place begun a) worker_count ends has
      (λ put take new. new.initial)
      (λ put take new. new.initial)
      (λ one q r new. ap (λ (p : PlainQueue). p.initial) (shelf-queue g own_firsts q new.there) ∙ new.tokens)

  end-met : IsQueueMet own_shelf (shelf_at g ends (taker g worker_count a)) out_end in_end
  end-met =
      let other = shelf_at g ends (taker g worker_count a) in
      of_ends g begun a (λ o i. IsQueueMet own_shelf other o i) worker_count ends has
      (ring-met g begun a own_shelf other)
      (room-met g begun a own_shelf other)
      (λ one q r new. subst (λ w. IsQueueMet own_shelf (shelf_at g ends w) (outlet.Local q) (inlet.Local r)) one (plain-met own_shelf q r new.same))

  end-ring : putter g worker_count a ≢ taker g worker_count a → AreEnds out_end in_end
  end-ring two = of_ring g begun a (λ o i. AreEnds o i) (λ put take new. new.ends) (λ put take new. new.ends) out_end in_end (has.ring two).ends

  end-shelf : putter g worker_count a ≡ taker g worker_count a → ShareQueue out_end in_end
  end-shelf one = of_plain g begun a (λ o i. ShareQueue o i) own_firsts (λ q r new. sym new.same) out_end in_end (has.shelf one)

-- a search among the first n
same_or_other : (o : Option ℕ) (q : ℕ) → (o ≡ Some q) ⊎ (o ≢ Some q)
same_or_other None q = inr (λ same. cc)
same_or_other (Some p) q =
    ⊎_elim
    (λ same. inl (ap Some same))
    (λ other. inr (λ same. let at : p ≡ q = cc in other at))
    (cases_eq p q)

found_or_none : (f : ℕ → Option ℕ) (q n : ℕ) → ((k : ℕ) → k < n → f k ≢ Some q) ⊎ ((k : ℕ) × (k < n) × (f k ≡ Some q))
found_or_none f q zero = inl (λ k low _. absurd (omega arith))
found_or_none f q (suc n) =
    ⊎_elim
    (λ none.
    ⊎_elim
    (λ here. inr (n, omega arith, here))
    (λ other.
    inl (λ k low.
    ⊎_elim (λ last same. other (ap f (sym last) ∙ same)) (λ before. none k (omega arith)) (cases_eq k n)))
    (same_or_other (f n) q))
    (λ found. inr (found.0, omega (arith, found.1), found.2))
    (found_or_none f q n)

-- ---- the ends of a station

module _ (g : Parts) (begun : State) (worker_count : ℕ) (ends : QueueEnds) (graph : IsGraph g) (laid : AreLaid g begun worker_count ends (arc_count g)) where
  -- arc a, whose end on one side stands at place k of station t
  record IsEndAt {X : Type 0} (side : ℕ → ℕ) (firsts : ℕ → ℕ → List ℕ) (end : ℕ → ℕ → X) (t k a : ℕ) : Type 0 where
    listed : a < arc_count g
    station : side a ≡ t
    is : end (side a) (length (firsts a (side a))) ≡ end t k
    place : length (firsts a t) ≡ k

  end-at : {X : Type 0} (side : ℕ → ℕ) (firsts : ℕ → ℕ → List ℕ) (end : ℕ → ℕ → X) (t k a : ℕ) → a < arc_count g → side a ≡ t → length (firsts a t) ≡ k → IsEndAt side firsts end t k a
  end-at side firsts end t k a listed station place = record {
    listed = listed;
    station = station;
    is = ap (λ u. end u (length (firsts a u))) station ∙ ap (end t) place;
    place = place;
  }

  abbrev to_of : ℕ → ℕ
  to_of a = (arc g a).to

  abbrev from_of : ℕ → ℕ
  from_of a = (arc g a).from

  abbrev inlet_there : ℕ → ℕ → Inlet
  inlet_there t k = get_or (inlets_at ends t) k (inlet.Local 0)

  abbrev outlet_there : ℕ → ℕ → Outlet
  outlet_there t k = outlet_at (outlets_at ends t) k

  inlets-count : (t : ℕ) → t < stations g → length (inlets_at ends t) ≡ length (ins g t)
  inlets-count t there = laid.inlets t there ∙ ap length (first_ins-all g t)

  outlets-count : (t : ℕ) → t < stations g → length (outlets_at ends t) ≡ length (outs g t)
  outlets-count t there = laid.outlets t there ∙ ap length (first_outs-all g t)

  inlet-at : (t k : ℕ) → t < stations g → k < length (inlets_at ends t) → IsEndAt to_of (first_ins g) inlet_there t k (get_or (ins g t) k 0)
  inlet-at t k there low =
      let listed : k < length (ins g t) = omega (arith, inlets-count t there) in
      let at = All-ins g t k 0 listed in
      end-at to_of (first_ins g) inlet_there t k (get_or (ins g t) k 0) at.0 at.1 (rank-ins g t k listed)

  outlet-at : (t k : ℕ) → t < stations g → k < length (outlets_at ends t) → IsEndAt from_of (first_outs g) outlet_there t k (get_or (outs g t) k 0)
  outlet-at t k there low =
      let listed : k < length (outs g t) = omega (arith, outlets-count t there) in
      let at = All-outs g t k 0 listed in
      end-at from_of (first_outs g) outlet_there t k (get_or (outs g t) k 0) at.0 at.1 (rank-outs g t k listed)

  -- the ends that are laid are those that the stations need
  pub laid_fit : (t : ℕ) → t < stations g → AreFit g begun t (outlets_at ends t) (inlets_at ends t)
  laid_fit t there = record {
    an_outlet_each = outlets-count t there;
    an_inlet_each = inlets-count t there;
    room = λ k low.
        let at = outlet-at t k there low in
        let a = get_or (outs g t) k 0 in
        subst (λ (o : Outlet). HasRingRoom (jobs g - length (log begun t)) o) at.is (
        subst (λ (u : ℕ). HasRingRoom (jobs g - length (log begun u)) (outlet_of g ends a)) at.station (
        end-room g begun worker_count ends a (laid.each a at.listed)));
    unfilled = λ k low.
        let at = outlet-at t k there low in
        let a = get_or (outs g t) k 0 in
        subst IsUnfilled at.is (end-unfilled g begun worker_count ends a (laid.each a at.listed));
    untaken = λ k low.
        let at = inlet-at t k there low in
        let a = get_or (ins g t) k 0 in
        subst IsUntaken at.is (end-untaken g begun worker_count ends a (laid.each a at.listed));
  }

  pub laid_fit_from : AreFitFrom g begun 0 ends
  laid_fit_from = record {
    outlet_lists = laid.outlet_lists;
    inlet_lists = laid.inlet_lists;
    each = λ t _ there. laid_fit t there;
  }

  -- an arc whose two ends worker w has on queue q of its shelf
  record Uses (w q a : ℕ) : Type 0 where
    listed : a < arc_count g
    worker_number : putter g worker_count a ≡ w
    queue : outlet_queue (outlet_of g ends a) ≡ Some q

  one_arc : (w q a b : ℕ) → Uses w q a → Uses w q b → a ≡ b
  one_arc w q a b first then =
      laid.apart a b q first.listed then.listed (first.worker_number ∙ sym then.worker_number) first.queue then.queue

  uses-there : (w q a : ℕ) → Uses w q a → q < length (shelf_at g ends w)
  uses-there w q a uses =
      omega (arith, queue-within g begun worker_count ends a q (laid.each a uses.listed) uses.queue, ap (λ v. length (firsts_at ends v)) uses.worker_number, length-map (firsts_at ends w) (new_queue (jobs g)))

  uses-queue : (w q a : ℕ) → Uses w q a → queue_at (shelf_at g ends w) q ≡ new_queue (jobs g) (place begun a)
  uses-queue w q a uses =
      ap (λ v. queue_at (shelf_at g ends v) q) (sym uses.worker_number) ∙ end-queue g begun worker_count ends a (laid.each a uses.listed) q uses.queue

  -- an arc on queue q of worker w's shelf whose end on one side is the k-th of station t
  record UsedAt (side : ℕ → ℕ) (firsts : ℕ → ℕ → List ℕ) (t w q k : ℕ) : Type 0 where
    number : ℕ
    uses : Uses w q number
    station : side number ≡ t
    place : length (firsts number t) ≡ k

  used-there : (side : ℕ → ℕ) (firsts : ℕ → ℕ → List ℕ) (t w q k : ℕ) → UsedAt side firsts t w q k → q < length (shelf_at g ends w)
  used-there side firsts t w q k at = uses-there w q at.number at.uses

  one-place : (side : ℕ → ℕ) (firsts : ℕ → ℕ → List ℕ) (t w q j k : ℕ) → j < k → UsedAt side firsts t w q j → UsedAt side firsts t w q k → ⊥
  one-place side firsts t w q j k before left right =
      omega (arith, left.place, right.place, ap (λ a. length (firsts a t)) (one_arc w q left.number right.number left.uses right.uses))

  -- the ends of two stations on one side have no queue of a shelf together
  ends-apart : (side : ℕ → ℕ) (firsts : ℕ → ℕ → List ℕ) (t u w q m n : ℕ) (queue other_queue : ℕ → Option ℕ) → t ≢ u → ((k : ℕ) → k < m → queue k ≡ Some q → UsedAt side firsts t w q k) → ((k : ℕ) → k < n → other_queue k ≡ Some q → UsedAt side firsts u w q k) → ((k : ℕ) → k < m → queue k ≢ Some q) ⊎ ((k : ℕ) → k < n → other_queue k ≢ Some q)
  ends-apart side firsts t u w q m n queue other_queue two used other_used =
      ⊎_elim
      (λ none. inl none)
      (λ found.
      inr (λ k low same.
      let left = used found.0 found.1 found.2 in
      let right = other_used k low same in
      two (sym left.station ∙ ap side (one_arc w q left.number right.number left.uses right.uses) ∙ right.station)))
      (found_or_none queue q m)

  -- the queue from which input k of station t takes is that of its arc
  taken-from : (t w k q : ℕ) → t < stations g → worker_of worker_count (stations g) t ≡ w → k < length (inlets_at ends t) → inlet_queue (inlet_of g ends (get_or (ins g t) k 0)) ≡ Some q → Uses w q (get_or (ins g t) k 0)
  taken-from t w k q there owned low queue =
      let a = get_or (ins g t) k 0 in
      let at = inlet-at t k there low in
      let has = laid.each a at.listed in
      let inside : putter g worker_count a ≡ taker g worker_count a = end-inside g begun worker_count ends a has q queue in
      record {
        listed = at.listed;
        worker_number = inside ∙ ap (worker_of worker_count (stations g)) at.station ∙ owned;
        queue = end-shared g begun worker_count ends a has q queue;
      }

  -- each queue of worker w's shelf comes from the station where its arc starts
  pub laid_sources : (w : ℕ) → 1 ≤ stations g → 1 ≤ worker_count → HaveSources g worker_count ends w
  laid_sources w any some =
      let first = first_of worker_count (stations g) w in
      let no_source : Source = record { station = 0; delay = 0 } in
      let arc_of = λ (q : ℕ). arc_in ends w q in
      let source_is : (q : ℕ) → q < length (firsts_at ends w) → source_at (map (source_of g first) (arcs_at ends w)) q ≡ source_of g first (arc_in ends w q) =
      λ q low. get_or-map (source_of g first) (arcs_at ends w) q 0 no_source (omega (arith, low, laid.arcs w)) in
      let used : (q : ℕ) → q < length (firsts_at ends w) → Uses w q (arc_in ends w q) =
      λ q low. (let l = laid.listed w q low in record { listed = l.before; worker_number = l.own; queue = l.queue }) in
      record {
        count = laid.arcs w;
        exist = λ q low. (laid.listed w q (omega (arith, low, laid.arcs w))).before;
        own = λ q low. (laid.listed w q (omega (arith, low, laid.arcs w))).own;
        come = λ t i there owned at_t. record {
          own = λ k q low is.
              let a = get_or (outs g t) k 0 in
              let at = outlet-at t k there low in
              let uses : Uses w q a = record {
                listed = at.listed;
                worker_number = ap (worker_of worker_count (stations g)) at.station ∙ owned;
                queue = ap outlet_queue at.is ∙ is;
              } in
              let q_low : q < length (firsts_at ends w) = omega (arith, uses-there w q a uses, length-map (firsts_at ends w) (new_queue (jobs g))) in
              let same : arc_in ends w q ≡ a = one_arc w q (arc_in ends w q) a (used q q_low) uses in
              let from : (arc g a).from - first ≡ i = omega (arith, at.station, at_t) in
              let made : ℕ → ℕ → Source = λ s d. record { station = s; delay = d } in
              source_is q q_low
              ∙ ap (source_of g first) same
              ∙ ap (λ n. made n (delay g a)) from
              ∙ ap (made i) (sym (get_or-map (delay g) (outs g t) k 0 0 (omega (arith, low, outlets-count t there))));
          puts = λ q low e.
              let q_low : q < length (firsts_at ends w) = omega (arith, low, length-map (firsts_at ends w) (new_queue (jobs g))) in
              let b = arc_in ends w q in
              let l = laid.listed w q q_low in
              let least : first ≤ (arc g b).from =
              omega (arith, first-le worker_count (stations g) some any (arc g b).from, ap (first_of worker_count (stations g)) l.own) in
              let from : (arc g b).from ≡ t = omega (arith, at_t, least, ap (λ (s : Source). s.station) (sym (source_is q q_low)) ∙ e) in
              let k = length (first_outs g b t) in (
                k,
                (
                  omega (arith, laid.outlets t there, ap (λ u. length (first_outs g b u)) from, ap (λ u. length (first_outs g (arc_count g) u)) from, first_outs-below g b (arc_count g) l.before),
                  ap (λ u. outlet_queue (outlet_at (outlets_at ends u) (length (first_outs g b u)))) (sym from) ∙ l.queue,
                ),
              );
        };
        later = λ t i there owned at_t k q low is.
            let inlets = inlets_at ends t in
            let here : k < length inlets = omega (arith, low, length-map inlets empty_handed) in
            let a = get_or (ins g t) k 0 in
            let queue : inlet_queue (inlet_of g ends a) ≡ Some q =
            ap inlet_queue (inlet-at t k there here).is
            ∙ ap (λ (n : Input). inlet_queue n.inlet) (sym (get_or-map empty_handed inlets k (inlet.Local 0) (record { inlet = inlet.Local 0; hand = None }) here))
            ∙ is in
            let uses = taken-from t w k q there owned here queue in
            let q_low : q < length (firsts_at ends w) = omega (arith, uses-there w q a uses, length-map (firsts_at ends w) (new_queue (jobs g))) in
            ap (λ (s : Source). s.delay) (source_is q q_low)
            ∙ ap (delay g) (one_arc w q (arc_in ends w q) a (used q q_low) uses)
            ∙ sym (get_or-map (delay g) (ins g t) k 0 0 (omega (arith, here, inlets-count t there)));
      }

  -- ---- a new station

  module _ (t w : ℕ) (s : WorkStation) (there : t < stations g) (owned : worker_of worker_count (stations g) t ≡ w) (new : IsNewStation g begun t (outlets_at ends t) (inlets_at ends t) s) where
    inputs-count : length s.inputs ≡ length (inlets_at ends t)
    inputs-count = ap length new.inputs ∙ length-map (inlets_at ends t) empty_handed

    inlet-is : (k : ℕ) → k < length s.inputs → (input_at s.inputs k).inlet ≡ inlet_of g ends (get_or (ins g t) k 0)
    inlet-is k low =
        let here : k < length (inlets_at ends t) = omega (arith, inputs-count) in
        let at = inlet-at t k there here in
        ap (λ l. (input_at l k).inlet) new.inputs
        ∙ ap (λ (i : Input). i.inlet) (get_or-map empty_handed (inlets_at ends t) k (inlet.Local 0) (record { inlet = inlet.Local 0; hand = None }) here)
        ∙ sym at.is

    outlet-is : (k : ℕ) → k < length s.outlets → outlet_at s.outlets k ≡ outlet_of g ends (get_or (outs g t) k 0)
    outlet-is k low =
        let here : k < length (outlets_at ends t) = omega (arith, ap length new.outlets) in
        let at = outlet-at t k there here in
        ap (λ l. outlet_at l k) new.outlets ∙ sym at.is

    -- what an input that takes from queue q says of its arc, and what an outlet that puts there says
    takes-used : (k q : ℕ) → k < length s.inputs → inlet_queue (input_at s.inputs k).inlet ≡ Some q → UsedAt to_of (first_ins g) t w q k
    takes-used k q low same =
        let a = get_or (ins g t) k 0 in
        let here : k < length (inlets_at ends t) = omega (arith, inputs-count) in
        let at = inlet-at t k there here in
        record {
          number = a;
          uses = taken-from t w k q there owned here (ap inlet_queue (sym (inlet-is k low)) ∙ same);
          station = at.station;
          place = at.place;
        }

    puts-used : (k q : ℕ) → k < length s.outlets → outlet_queue (outlet_at s.outlets k) ≡ Some q → UsedAt from_of (first_outs g) t w q k
    puts-used k q low same =
        let a = get_or (outs g t) k 0 in
        let at = outlet-at t k there (omega (arith, ap length new.outlets)) in
        record {
          number = a;
          uses = record {
            listed = at.listed;
            worker_number = ap (worker_of worker_count (stations g)) at.station ∙ owned;
            queue = ap outlet_queue (sym (outlet-is k low)) ∙ same;
          };
          station = at.station;
          place = at.place;
        }

    new-seated : IsSeated (shelf_at g ends w) s
    new-seated = record {
      takes_within = λ k low. if_some (inlet_queue (input_at s.inputs k).inlet) (λ q. q < length (shelf_at g ends w)) (λ q same. used-there _ _ t w q k (takes-used k q low same));
      takes_apart = λ j k before low q at_j at_k. one-place _ _ t w q j k before (takes-used j q (omega arith) at_j) (takes-used k q low at_k);
      puts_within = λ k low. if_some (outlet_queue (outlet_at s.outlets k)) (λ q. q < length (shelf_at g ends w)) (λ q same. used-there _ _ t w q k (puts-used k q low same));
      puts_apart = λ j k before low q at_j at_k. one-place _ _ t w q j k before (puts-used j q (omega arith) at_j) (puts-used k q low at_k);
    }

    new-fresh : IsFresh (shelf_at g ends w) s
    new-fresh = record {
      untaken = λ k low.
          if_some (inlet_queue (input_at s.inputs k).inlet) (λ q. plain_taken (queue_at (shelf_at g ends w) q) ≡ []) (λ q same.
          let at = takes-used k q low same in
          ap plain_taken (uses-queue w q at.number at.uses));
      unfilled = λ k low.
          if_some (outlet_queue (outlet_at s.outlets k)) (λ q. (queue_at (shelf_at g ends w) q).added ≡ []) (λ q same.
          let at = puts-used k q low same in
          ap (λ (p : PlainQueue). p.added) (uses-queue w q at.number at.uses));
      room = λ k low.
          if_some (outlet_queue (outlet_at s.outlets k)) (λ q. jobs s.graph ≤ s.made + (queue_at (shelf_at g ends w) q).room) (λ q same.
          let at = puts-used k q low same in
          omega (arith, ap (λ (p : PlainQueue). p.room) (uses-queue w q at.number at.uses), ap jobs new.graph));
    }

    new-member : IsMember g begun t (shelf_at g ends w) s
    new-member = record {
      graph = new.graph;
      number = new.number;
      station = new.station;
      seated = new-seated;
      kept = new.kept (shelf_at g ends w) new-fresh;
      made = new.made;
      begins = ap (λ l. take s.made l) new.dates ∙ take_all s.made (log begun t) (omega (arith, new.made));
    }

  -- ---- two new stations of a worker

  stations-apart : (t u w : ℕ) (s r : WorkStation) (t_there : t < stations g) (u_there : u < stations g) (t_owned : worker_of worker_count (stations g) t ≡ w) (u_owned : worker_of worker_count (stations g) u ≡ w) (t_new : IsNewStation g begun t (outlets_at ends t) (inlets_at ends t) s) (u_new : IsNewStation g begun u (outlets_at ends u) (inlets_at ends u) r) → t ≢ u → AreApart s r
  stations-apart t u w s r t_there u_there t_owned u_owned t_new u_new two = record {
    takes = λ q.
        ends-apart to_of (first_ins g) t u w q (length s.inputs) (length r.inputs) (λ k. inlet_queue (input_at s.inputs k).inlet) (λ k. inlet_queue (input_at r.inputs k).inlet) two
        (λ k low same. takes-used t w s t_there t_owned t_new k q low same)
        (λ k low same. takes-used u w r u_there u_owned u_new k q low same);
    puts = λ q.
        ends-apart from_of (first_outs g) t u w q (length s.outlets) (length r.outlets) (λ k. outlet_queue (outlet_at s.outlets k)) (λ k. outlet_queue (outlet_at r.outlets k)) two
        (λ k low same. puts-used t w s t_there t_owned t_new k q low same)
        (λ k low same. puts-used u w r u_there u_owned u_new k q low same);
  }

-- ---- all teams

module _ (g : Parts) (begun : State) (ends : QueueEnds) (teams : List WorkTeam) (graph : IsGraph g) (any : 1 ≤ stations g) (some : 1 ≤ length teams) (laid : AreLaid g begun (length teams) ends (arc_count g)) (new : AreNewTeams g begun (length teams) ends teams) where
  abbrev first : ℕ → ℕ
  first w = first_of (length teams) (stations g) w

  abbrev owner : ℕ → ℕ
  owner t = worker_of (length teams) (stations g) t

  -- station i of worker w
  member-there : (w i : ℕ) → w < length teams → i < length (team_at teams w).stations → first w + i < stations g
  member-there w i low i_low =
      let rises = first-rises (length teams) (stations g) some any (w + 1) (length teams) (omega arith) in
      omega (arith, (new w low).size, rises, first-all (length teams) (stations g) some any)

  member-owner : (w i : ℕ) → w < length teams → i < length (team_at teams w).stations → owner (first w + i) ≡ w
  member-owner w i low i_low =
      worker_is (length teams) (stations g) some any w (first w + i) (omega arith) (omega (arith, (new w low).size))

  team-is : (w : ℕ) → w < length teams → IsTeam g begun (first w) (team_at teams w)
  team-is w low =
      let made = (new w low).stations.each in
      record {
        members = λ i i_low.
            subst (λ (l : List PlainQueue). IsMember g begun (first w + i) l (member (team_at teams w).stations i)) (sym (new w low).shelf) (
            new-member g begun (length teams) ends graph laid (first w + i) w (member (team_at teams w).stations i) (member-there w i low i_low) (member-owner w i low i_low) (made i i_low));
        apart = λ i j i_low j_low other.
            let two : first w + i ≢ first w + j = (λ same. other (omega arith)) in
            stations-apart g begun (length teams) ends graph laid (first w + i) (first w + j) w (member (team_at teams w).stations i) (member (team_at teams w).stations j) (member-there w i low i_low) (member-there w j low j_low) (member-owner w i low i_low) (member-owner w j low j_low) (made i i_low) (made j j_low) two;
      }

  owner-below : (t : ℕ) → t < stations g → owner t < length teams
  owner-below t there = worker_number-below (length teams) (stations g) some any t there

  -- station t of the graph
  station-new : (t : ℕ) → t < stations g → IsNewStation g begun t (outlets_at ends t) (inlets_at ends t) (station_of g teams t)
  station-new t there =
      let w = owner t in
      let low = owner-below t there in
      let from_first = first-le (length teams) (stations g) some any t in
      let before_next = next-above (length teams) (stations g) some any t in
      let i = t - first w in
      let i_low : i < length (team_at teams w).stations = omega (arith, from_first, before_next, (new w low).size) in
      let at : first w + i ≡ t = omega (arith, from_first) in
      subst (λ (u : ℕ). IsNewStation g begun u (outlets_at ends u) (inlets_at ends u) (member (team_at teams w).stations i)) at (
      (new w low).stations.each i i_low)

  shelf-is : (t : ℕ) → t < stations g → shelf_of g teams t ≡ shelf_at g ends (owner t)
  shelf-is t there = (new (owner t) (owner-below t there)).shelf

  -- ---- arcs

  outlet_on-is : (a : ℕ) → a < arc_count g → outlet_on g teams a ≡ outlet_of g ends a
  outlet_on-is a listed =
      let t = (arc g a).from in
      let there = graph.starts_exist a listed in
      ap (λ l. outlet_at l (index_in (outs g t) a)) (station-new t there).outlets
      ∙ ap (outlet_at (outlets_at ends t)) (index_in-outs g a listed)

  input_on-is : (a : ℕ) → a < arc_count g → (input_on g teams a).inlet ≡ inlet_of g ends a
  input_on-is a listed =
      let t = (arc g a).to in
      let there = graph.ends_exist a listed in
      let k = length (first_ins g a t) in
      let low : k < length (inlets_at ends t) = omega (arith, laid.inlets t there, first_ins-below g a (arc_count g) listed) in
      ap (λ l. (input_at l (index_in (ins g t) a)).inlet) (station-new t there).inputs
      ∙ ap (λ n. (input_at (map empty_handed (inlets_at ends t)) n).inlet) (index_in-ins g a listed)
      ∙ ap (λ (i : Input). i.inlet) (get_or-map empty_handed (inlets_at ends t) k (inlet.Local 0) (record { inlet = inlet.Local 0; hand = None }) low)

  joined : (a : ℕ) → a < arc_count g → IsJoined g begun teams a
  joined a listed =
      let has = laid.each a listed in
      let out_is = outlet_on-is a listed in
      let in_is = input_on-is a listed in
      record {
        ring = λ two.
            subst (λ (o : Outlet). AreEnds o (input_on g teams a).inlet) (sym out_is) (
            subst (λ (i : Inlet). AreEnds (outlet_of g ends a) i) (sym in_is) (
            end-ring g begun (length teams) ends a has two));
        shelf = λ one.
            subst (λ (o : Outlet). ShareQueue o (input_on g teams a).inlet) (sym out_is) (
            subst (λ (i : Inlet). ShareQueue (outlet_of g ends a) i) (sym in_is) (
            end-shelf g begun (length teams) ends a has one));
        initial =
            ap (λ l. outlet_initial l (outlet_on g teams a)) (shelf-is (arc g a).from (graph.starts_exist a listed))
            ∙ ap (outlet_initial (shelf_at g ends (putter g (length teams) a))) out_is
            ∙ end-initial g begun (length teams) ends a has;
      }

  pub new_are_teams : AreTeams g begun teams
  new_are_teams = record {
    some = some;
    sizes = λ w low. (new w low).size;
    each = team-is;
    joined = joined;
  }

  met : (a : ℕ) → a < arc_count g → IsMetOn g teams a
  met a listed =
      let has = laid.each a listed in
      let out_is = outlet_on-is a listed in
      let in_is = input_on-is a listed in
      let to_shelf = shelf-is (arc g a).to (graph.ends_exist a listed) in
      let from_shelf = shelf-is (arc g a).from (graph.starts_exist a listed) in
      subst (λ l. IsQueueMet l (shelf_of g teams (arc g a).to) (outlet_on g teams a) (input_on g teams a).inlet) (sym from_shelf) (
      subst (λ l. IsQueueMet (shelf_at g ends (putter g (length teams) a)) l (outlet_on g teams a) (input_on g teams a).inlet) (sym to_shelf) (
      subst (λ o. IsQueueMet (shelf_at g ends (putter g (length teams) a)) (shelf_at g ends (taker g (length teams) a)) o (input_on g teams a).inlet) (sym out_is) (
      subst (λ i. IsQueueMet (shelf_at g ends (putter g (length teams) a)) (shelf_at g ends (taker g (length teams) a)) (outlet_of g ends a) i) (sym in_is) (
      end-met g begun (length teams) ends a has))))

  pub new_are_of_room : AreOfRoom ends.room g teams
  new_are_of_room a listed two =
      subst (IsOfRoom ends.room (arc g a).tokens) (sym (outlet_on-is a listed)) ((laid.each a listed).ring two).kind

  pub new_are_met : AreAllMet g teams
  new_are_met = met

  pub new_have_begun : HaveBegun g begun teams
  new_have_begun = record {
    logs = λ t there. (station-new t there).dates;
    turns = λ t there. (station-new t there).turns;
  }

-- ---- as the code has them

pub all_new : (g : Parts) (begun : State) (worker_count : ℕ) (ends : QueueEnds) (teams : List WorkTeam) → IsGraph g → 1 ≤ stations g → 1 ≤ worker_count → AreLaid g begun worker_count ends (arc_count g) → length teams ≡ worker_count → AreNewTeams g begun worker_count ends teams → AreAllNew ends.room g begun teams
all_new g begun worker_count ends teams graph any some laid count new =
    let some_team : 1 ≤ length teams = omega arith in
    let laid_for = subst (λ (w : ℕ). AreLaid g begun w ends (arc_count g)) (sym count) laid in
    let new_for = subst (λ (w : ℕ). AreNewTeams g begun w ends teams) (sym count) new in
    record {
      teams_are = new_are_teams g begun ends teams graph any some_team laid_for new_for;
      rooms_are = new_are_of_room g begun ends teams graph any some_team laid_for new_for;
      met = new_are_met g begun ends teams graph any some_team laid_for new_for;
      begun_are = new_have_begun g begun ends teams graph any some_team laid_for new_for;
    }

pub all_new_ok : (g : Parts) (begun : State) (worker_count : ℕ) (ends : QueueEnds) (r : Result (Vec WorkTeam Global) AllocError) → IsGraph g → 1 ≤ stations g → 1 ≤ worker_count → AreLaid g begun worker_count ends (arc_count g) → IfOk r (λ teams. length teams.items ≡ worker_count) → IfOk r (λ teams. AreNewTeams g begun worker_count ends teams.items) → IfOk r (λ teams. AreAllNew ends.room g begun teams.items)
all_new_ok g begun worker_count ends (Ok teams) graph any some laid count new = all_new g begun worker_count ends teams.items graph any some laid count new
all_new_ok g begun worker_count ends (Err e) graph any some laid count new = tt
