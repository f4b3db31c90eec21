-- A step keeps what a station together with its shelf keeps, and so does a step of another station.
use Rattle.std.proofs.Common.{◌≡◌, ◌≢◌, ℕ, ◌+◌, ◌-◌, ◌<◌, ◌≤◌, List, [], ◌∷◌, ◌++◌, length, get_or, map, drop, refl, sym, ap, ◌∙◌, subst, arith, ⊎_elim, length-append, set, get_or-set_same, get_or-set_other}
use Rattle.std.specs.Prelude.{Option, None, Some, IsSome, IfSome, option_to_list, slice_index, unwrap_or, All}
use Rattle.std.proofs.lemmas.List.{append-nil, drop_all, append_cancel_right, drop-append-le, length-drop, drop-drop, get_or-drop, get_or_append_left, map_push, length-map, length-set, get_or_push}
use Rattle.std.proofs.Math.Seq.{map-set_same}
use Rattle.std.proofs.Math.ListN.{get_or-map}
use Rattle.std.proofs.lemmas.Bool.{cases_lt, cases_eq}
use mathlib.Core.List.{IsPrefix}
use Rattle.line_base.specs.declared.event.Parts.{Parts}
use Rattle.line_base.specs.Roomy.{RoomyLog, with_date}
use Rattle.card_queue.specs.Plain.{PlainQueue, plain_taken, plain_waiting}
use Rattle.event_graph.specs.Network.{stations, jobs, delay, ins, outs}
use Rattle.station_step.specs.declared.ends.Inlet.{Inlet}
use Rattle.station_step.specs.declared.ends.Outlet.{Outlet}
use Rattle.station_step.specs.declared.ends.Inlet.TheVariants as inlet
use Rattle.station_step.specs.declared.ends.Outlet.TheVariants as outlet
use Rattle.station_step.specs.declared.input.Input.{Input}
use Rattle.station_step.specs.Shelf.{queue_at, unused_queue, OnlyTakes, OnlyPuts}
use Rattle.station_step.specs.Ends.{inlet_taken, inlet_ahead, inlet_queue, outlet_added, outlet_room, outlet_queue, bare_inlet, unseen_inlet, bare_outlet, unseen_outlet, IsUntaken, IsUnfilled, HasRingRoom, HasShelfRoom}
use Rattle.station_step.specs.Input.{empty_handed, input_at, IsHeld, IsRefilled, NoneTakes}
use Rattle.station_step.specs.Station.{new_station, WorkStation, firings, outlet_at, NonePuts, AreApart, IsStation, IsSeated, MayPut, bare_input, bare_station}
use Rattle.station_step.specs.Kept.{IsKept, IsFresh, date_for, token_for, saturating, dates_sent}
use Rattle.station_step.specs.Step.{MovesItsOwn, Grows, MovesApart, IsReady, FiredOnce}
use Rattle.station_step.proofs.OwnQueues.{input-same, outlet-same, inlet_queue-same, outlet_queue-same, bare-unseen, taken-unseen}
use Rattle.station_step.proofs.OutletLooks.{AreAlike, bare-alike, added-alike, ring_room-alike, at-set, beside-set}
use Rattle.station_step.proofs.Dates.{date_for-agree}

-- ---- what a shelf keeps for one end

taken-after_puts : (old new : List PlainQueue) (i : Inlet) → OnlyPuts old new → inlet_taken new i ≡ inlet_taken old i
taken-after_puts old new (inlet.Ring take) only = refl
taken-after_puts old new (inlet.Room take) only = refl
taken-after_puts old new (inlet.Local q) only = only.taken q

added-after_takes : (old new : List PlainQueue) (o : Outlet) → OnlyTakes old new → outlet_added new o ≡ outlet_added old o
added-after_takes old new (outlet.Ring put) only = refl
added-after_takes old new (outlet.Room put) only = refl
added-after_takes old new (outlet.Local q) only = ap (λ (queue : PlainQueue). queue.added) (only.puts q)

room-after_takes : (old new : List PlainQueue) (o : Outlet) → OnlyTakes old new → outlet_room new o ≡ outlet_room old o
room-after_takes old new (outlet.Ring put) only = refl
room-after_takes old new (outlet.Room put) only = refl
room-after_takes old new (outlet.Local q) only = ap (λ (queue : PlainQueue). queue.room) (only.puts q)

room-after_puts : (old new : List PlainQueue) (o : Outlet) → OnlyPuts old new → outlet_room new o ≡ outlet_room old o
room-after_puts old new (outlet.Ring put) only = refl
room-after_puts old new (outlet.Room put) only = refl
room-after_puts old new (outlet.Local q) only = ap (λ (queue : PlainQueue). queue.room) (only.takes q)

room-bare : (shelf : List PlainQueue) (o : Outlet) → outlet_room shelf (bare_outlet o) ≡ outlet_room shelf o
room-bare shelf (outlet.Ring put) = refl
room-bare shelf (outlet.Room put) = refl
room-bare shelf (outlet.Local q) = refl

room-same : (shelf : List PlainQueue) (before after : Outlet) → bare_outlet after ≡ bare_outlet before → outlet_room shelf after ≡ outlet_room shelf before
room-same shelf before after same =
    sym (room-bare shelf after) ∙ ap (outlet_room shelf) same ∙ room-bare shelf before

-- ---- what an input holds

-- an input that held one token for each firing still does, with its hand refilled
held_more : (fired : ℕ) (taken taken' : List ℕ) (before after : Option ℕ) → taken' ++ option_to_list before ≡ taken ++ option_to_list after → (IsSome before → after ≡ before) → fired ≤ length taken → drop fired taken ≡ option_to_list before → (fired ≤ length taken') × (drop fired taken' ≡ option_to_list after)
held_more fired taken taken' None after both full enough rest =
    let now : taken' ≡ taken ++ option_to_list after = sym (append-nil taken') ∙ both in
    let longer : length taken' ≡ length taken + length (option_to_list after) = ap length now ∙ length-append taken (option_to_list after) in (
      omega (arith, longer),
      ap (drop fired) now ∙ drop-append-le fired taken (option_to_list after) enough ∙ ap (λ l. l ++ option_to_list after) rest,
    )
held_more fired taken taken' (Some date) after both full enough rest =
    let same : after ≡ Some date = full refl in
    let now : taken' ≡ taken =
    append_cancel_right taken' taken (date ∷ []) (both ∙ ap (λ (h : Option ℕ). taken ++ option_to_list h) same) in (
      omega (arith, ap length now, enough),
      ap (drop fired) now ∙ rest ∙ ap (λ (h : Option ℕ). option_to_list h) (sym same),
    )

held-refilled : (old new : List PlainQueue) (fired : ℕ) (before after : Input) → IsRefilled old new before after → IsHeld old fired before → IsHeld new fired after
held-refilled old new fired before after is held =
    let more = held_more fired (inlet_taken old before.inlet) (inlet_taken new after.inlet) before.hand after.hand is.taken is.full held.enough held.rest in
    record { enough = more.0; rest = more.1 }

-- the tokens of the firings so far are as they were
spent-same : (n fired : ℕ) (taken taken' : List ℕ) (before after : Option ℕ) → taken' ++ option_to_list before ≡ taken ++ option_to_list after → fired ≤ length taken → fired ≤ length taken' → n < fired → get_or taken' n 0 ≡ get_or taken n 0
spent-same n fired taken taken' before after both enough enough' low =
    sym (get_or_append_left taken' (option_to_list before) 0 n (omega arith))
    ∙ ap (λ (l : List ℕ). get_or l n 0) both
    ∙ get_or_append_left taken (option_to_list after) 0 n (omega arith)

-- the token in the hand is the one for the next firing
hand-token : (fired : ℕ) (taken : List ℕ) (hand : Option ℕ) → IsSome hand → drop fired taken ≡ option_to_list hand → get_or taken fired 0 ≡ unwrap_or hand 0
hand-token fired taken None full rest = absurd (cc)
hand-token fired taken (Some date) full rest =
    let h : get_or (drop fired taken) 0 0 ≡ get_or taken (fired + 0) 0 = get_or-drop fired taken 0 0 in
    let at : get_or taken (fired + 0) 0 ≡ get_or taken fired 0 = ap (λ (n : ℕ). get_or taken n 0) (omega arith) in
    sym at ∙ sym h ∙ ap (λ (l : List ℕ). get_or l 0 0) rest

-- with its hand emptied, an input holds one token for one firing more
spent_more : (fired : ℕ) (taken : List ℕ) (hand : Option ℕ) → IsSome hand → fired ≤ length taken → drop fired taken ≡ option_to_list hand → (fired + 1 ≤ length taken) × (drop (fired + 1) taken ≡ [])
spent_more fired taken None full enough rest = absurd (cc)
spent_more fired taken (Some date) full enough rest =
    let left : length taken - fired ≡ 1 = sym (length-drop fired taken) ∙ ap length rest in (
      omega (arith, left),
      sym (drop-drop 1 fired taken) ∙ ap (drop 1) rest,
    )

-- ---- a station that waits

-- what a station keeps is kept where its hands are refilled
pub kept-waits : (old new : List PlainQueue) (s : WorkStation) (inputs : List Input) (turns : ℕ) → length s.inputs ≡ length (ins s.graph s.number) → length inputs ≡ length s.inputs → ((k : ℕ) → k < length s.inputs → IsRefilled old new (input_at s.inputs k) (input_at inputs k)) → OnlyTakes old new → IsKept old s → IsKept new (record s { inputs = inputs; turns = turns })
kept-waits old new s inputs turns each count refilled only kept =
    let held : (k : ℕ) → k < length s.inputs → IsHeld new (firings s) (input_at inputs k) =
    λ k low. held-refilled old new (firings s) (input_at s.inputs k) (input_at inputs k) (refilled k low) (kept.held k low) in
    record {
      held = λ k low. held k (omega (arith, count));
      dates = λ n low.
          kept.dates n low
          ∙ date_for-agree s.graph s.number (s.made + n + 1) _ _
          (λ k there.
          let below : k < length s.inputs = omega (arith, each) in
          sym (spent-same n (firings s) _ _ _ _ (refilled k below).taken (kept.held k below).enough (held k below).enough low));
      added = λ k low. added-after_takes old new (outlet_at s.outlets k) only ∙ kept.added k low;
      room = λ k low. subst (λ room. jobs s.graph ≤ s.made + room) (sym (room-after_takes old new (outlet_at s.outlets k) only)) (kept.room k low);
    }

pub station-waits : (s : WorkStation) (inputs : List Input) (turns : ℕ) → length inputs ≡ length s.inputs → IsStation s → IsStation (record s { inputs = inputs; turns = turns })
station-waits s inputs turns count sound = record {
  exists = sound.exists;
  an_input_each = count ∙ sound.an_input_each;
  an_outlet_each = sound.an_outlet_each;
  made = sound.made;
  few_dates = sound.few_dates;
  log_room = sound.log_room;
  ring_room = sound.ring_room;
}

-- ---- a station whose outlets have seen more

pub kept-alike : (shelf : List PlainQueue) (s : WorkStation) (outlets : List Outlet) → AreAlike s.outlets outlets → IsKept shelf s → IsKept shelf (record s { outlets = outlets })
kept-alike shelf s outlets alike kept = record {
  held = kept.held;
  dates = kept.dates;
  added = λ k low.
      let below : k < length s.outlets = omega (arith, alike.count) in
      added-alike shelf (outlet_at s.outlets k) (outlet_at outlets k) (alike.each k below) ∙ kept.added k below;
  room = λ k low.
      let below : k < length s.outlets = omega (arith, alike.count) in
      let same : outlet_room shelf (outlet_at outlets k) ≡ outlet_room shelf (outlet_at s.outlets k) =
      room-same shelf (outlet_at s.outlets k) (outlet_at outlets k) (bare-alike (outlet_at s.outlets k) (outlet_at outlets k) (alike.each k below)) in
      subst (λ room. jobs s.graph ≤ s.made + room) (sym same) (kept.room k below);
}

pub station-alike : (s : WorkStation) (outlets : List Outlet) → AreAlike s.outlets outlets → IsStation s → IsStation (record s { outlets = outlets })
station-alike s outlets alike sound = record {
  exists = sound.exists;
  an_input_each = sound.an_input_each;
  an_outlet_each = alike.count ∙ sound.an_outlet_each;
  made = sound.made;
  few_dates = sound.few_dates;
  log_room = sound.log_room;
  ring_room = λ k low.
      let below : k < length s.outlets = omega (arith, alike.count) in
      ring_room-alike (jobs s.graph - length s.log.dates) (outlet_at s.outlets k) (outlet_at outlets k) (alike.each k below) (sound.ring_room k below);
}

-- where one outlet has seen more
pub alike-set : (outlets : List Outlet) (k : ℕ) (o : Outlet) → k < length outlets → unseen_outlet o ≡ unseen_outlet (outlet_at outlets k) → AreAlike outlets (set outlets k o)
alike-set outlets k o low same = record {
  count = length-set outlets k o;
  each = λ j there.
      ⊎_elim
      (λ (e : j ≡ k).
      ap (λ (n : ℕ). unseen_outlet (outlet_at (set outlets k o) n)) e
      ∙ ap unseen_outlet (at-set outlets k o low)
      ∙ same
      ∙ ap (λ (n : ℕ). unseen_outlet (outlet_at outlets n)) (sym e))
      (λ (ne : j ≢ k). ap unseen_outlet (beside-set outlets k j o ne))
      (cases_eq j k);
}

-- ---- a station that fires

-- what every output got has one date more
sent-more : (s : WorkStation) (date k : ℕ) → s.made ≤ length s.log.dates → dates_sent (record s { log = with_date s.log date }) k ≡ dates_sent s k ++ saturating date (delay s.graph (slice_index (outs s.graph s.number) k)) ∷ []
sent-more s date k made =
    let later : ℕ → ℕ = λ d. saturating d (delay s.graph (slice_index (outs s.graph s.number) k)) in
    ap (map later) (drop-append-le s.made s.log.dates (date ∷ []) made) ∙ map_push later (drop s.made s.log.dates) date

-- what is known where the station has taken its tokens, emptied its hands and put its date on every output
pub record IsFiring (old mid new : List PlainQueue) (s : WorkStation) (full empty : List Input) (outlets : List Outlet) (date : ℕ) : Type 0 where
  pub full_count : length full ≡ length s.inputs
  pub empty_count : length empty ≡ length full
  pub outlet_count : length outlets ≡ length s.outlets
  pub refilled : (k : ℕ) → k < length s.inputs → IsRefilled old mid (input_at s.inputs k) (input_at full k)
  pub are_full : (k : ℕ) → k < length full → IsSome (input_at full k).hand
  pub inlets : (k : ℕ) → (input_at empty k).inlet ≡ (input_at full k).inlet
  pub are_empty : (k : ℕ) → k < length full → (input_at empty k).hand ≡ None
  pub date_is : date ≡ date_for s.graph s.number (length s.log.dates + 1) (λ k. unwrap_or (input_at full k).hand 0)
  pub outlets_same : map bare_outlet outlets ≡ map bare_outlet s.outlets
  pub got : (k : ℕ) → k < length s.outlets → outlet_added new (outlet_at outlets k) ≡ outlet_added mid (outlet_at s.outlets k) ++ saturating date (delay s.graph (slice_index (outs s.graph s.number) k)) ∷ []
  pub only_takes : OnlyTakes old mid
  pub only_puts : OnlyPuts mid new

-- the station after the firing
abbrev pub fired_station : WorkStation → List Input → List Outlet → ℕ → ℕ → WorkStation
fired_station s empty outlets date turns =
    record s { inputs = empty; outlets = outlets; log = with_date s.log date; turns = turns }

-- the tokens taken on input k, before and after
taken-emptied : (old mid new : List PlainQueue) (s : WorkStation) (full empty : List Input) (outlets : List Outlet) (date k : ℕ) → IsFiring old mid new s full empty outlets date → inlet_taken new (input_at empty k).inlet ≡ inlet_taken mid (input_at full k).inlet
taken-emptied old mid new s full empty outlets date k is =
    ap (inlet_taken new) (is.inlets k) ∙ taken-after_puts mid new (input_at full k).inlet is.only_puts

pub kept-fires : (old mid new : List PlainQueue) (s : WorkStation) (full empty : List Input) (outlets : List Outlet) (date turns : ℕ) → IsStation s → IsFiring old mid new s full empty outlets date → IsKept old s → IsKept new (fired_station s empty outlets date turns)
kept-fires old mid new s full empty outlets date turns sound is kept =
    let fired = firings s in
    let log = s.log.dates in
    let longer : length (log ++ date ∷ []) ≡ length log + 1 = length-append log (date ∷ []) in
    let fired' : length (log ++ date ∷ []) - s.made ≡ fired + 1 = omega (arith, longer, sound.made) in
    let held : (k : ℕ) → k < length s.inputs → IsHeld mid fired (input_at full k) =
    λ k low. held-refilled old mid fired (input_at s.inputs k) (input_at full k) (is.refilled k low) (kept.held k low) in
    let taken : (k : ℕ) → inlet_taken new (input_at empty k).inlet ≡ inlet_taken mid (input_at full k).inlet =
    λ k. taken-emptied old mid new s full empty outlets date k is in
    let token_before : (n k : ℕ) → n < fired → k < length (ins s.graph s.number) → token_for old s n k ≡ slice_index (inlet_taken new (input_at empty k).inlet) n =
    λ n k low there.
    let below : k < length s.inputs = omega (arith, sound.an_input_each) in
    sym (spent-same n fired _ _ _ _ (is.refilled k below).taken (kept.held k below).enough (held k below).enough low)
    ∙ ap (λ (l : List ℕ). slice_index l n) (sym (taken k)) in
    let token_now : (k : ℕ) → k < length (ins s.graph s.number) → unwrap_or (input_at full k).hand 0 ≡ slice_index (inlet_taken new (input_at empty k).inlet) fired =
    λ k there.
    let below : k < length s.inputs = omega (arith, sound.an_input_each) in
    sym (hand-token fired (inlet_taken mid (input_at full k).inlet) (input_at full k).hand (is.are_full k (omega (arith, is.full_count))) (held k below).rest)
    ∙ ap (λ (l : List ℕ). slice_index l fired) (sym (taken k)) in
    record {
      held = λ k there.
          let below : k < length s.inputs = omega (arith, is.empty_count, is.full_count) in
          let more = spent_more fired (inlet_taken mid (input_at full k).inlet) (input_at full k).hand (is.are_full k (omega (arith, is.full_count))) (held k below).enough (held k below).rest in
          record {
            enough = omega (arith, fired', ap length (taken k), more.0);
            rest = ap (λ (n : ℕ). drop n (inlet_taken new (input_at empty k).inlet)) fired'
                ∙ ap (drop (fired + 1)) (taken k)
                ∙ more.1
                ∙ ap (λ (h : Option ℕ). option_to_list h) (sym (is.are_empty k (omega (arith, is.full_count))));
          };
      dates = λ n low.
          ⊎_elim
          (λ (before : n < fired).
          get_or_append_left log (date ∷ []) 0 (s.made + n) (omega arith)
          ∙ kept.dates n before
          ∙ date_for-agree s.graph s.number (s.made + n + 1) _ _ (λ k there. token_before n k before there))
          (λ (now : fired ≤ n).
          let e : n ≡ fired = omega (arith, fired') in
          let at : s.made + n ≡ length log = omega (arith, sound.made) in
          let last : get_or (log ++ date ∷ []) (s.made + n) 0 ≡ date =
          ap (λ (m : ℕ). get_or (log ++ date ∷ []) m 0) at ∙ get_or_push log date 0 (length log) refl in
          last
          ∙ is.date_is
          ∙ date_for-agree s.graph s.number (length log + 1) _ _ (λ k there. token_now k there ∙ ap (slice_index (inlet_taken new (input_at empty k).inlet)) (sym e))
          ∙ ap (λ (m : ℕ). date_for s.graph s.number (m + 1) (λ k. slice_index (inlet_taken new (input_at empty k).inlet) n)) (sym at))
          (cases_lt n fired);
      added = λ k there.
          let below : k < length s.outlets = omega (arith, is.outlet_count) in
          let later = saturating date (delay s.graph (slice_index (outs s.graph s.number) k)) in
          is.got k below
          ∙ ap (λ (l : List ℕ). l ++ later ∷ []) (added-after_takes old mid (outlet_at s.outlets k) is.only_takes ∙ kept.added k below)
          ∙ sym (sent-more s date k sound.made);
      room = λ k there.
          let below : k < length s.outlets = omega (arith, is.outlet_count) in
          let same : outlet_room new (outlet_at outlets k) ≡ outlet_room old (outlet_at s.outlets k) =
          room-same new (outlet_at s.outlets k) (outlet_at outlets k) (outlet-same s.outlets outlets k is.outlets_same)
          ∙ room-after_puts mid new (outlet_at s.outlets k) is.only_puts
          ∙ room-after_takes old mid (outlet_at s.outlets k) is.only_takes in
          subst (λ room. jobs s.graph ≤ s.made + room) (sym same) (kept.room k below);
    }

-- ---- what holds of the station after the firing

ring_room-after : (mid new : List PlainQueue) (before after : Outlet) (date more less : ℕ) → bare_outlet after ≡ bare_outlet before → outlet_added new after ≡ outlet_added mid before ++ date ∷ [] → less + 1 ≤ more → HasRingRoom more before → HasRingRoom less after
ring_room-after mid new (outlet.Ring put) (outlet.Ring put') date more less same added fewer has =
    let room : put'.room ≡ put.room = room-same [] (outlet.Ring put) (outlet.Ring put') same in
    omega (arith, room, ap length added ∙ length-append put.added (date ∷ []), has)
ring_room-after mid new (outlet.Room put) (outlet.Room put') date more less same added fewer has =
    omega (arith, ap length added ∙ length-append put.added (date ∷ []), has)
ring_room-after mid new (outlet.Room put) (outlet.Ring put') date more less same added fewer has = absurd (cc)
ring_room-after mid new (outlet.Ring put) (outlet.Room put') date more less same added fewer has = absurd (cc)
ring_room-after mid new (outlet.Local q) (outlet.Ring put') date more less same added fewer has = absurd (cc)
ring_room-after mid new (outlet.Local q) (outlet.Room put') date more less same added fewer has = absurd (cc)
ring_room-after mid new before (outlet.Local q) date more less same added fewer has = tt

pub station-fires : (old mid new : List PlainQueue) (s : WorkStation) (full empty : List Input) (outlets : List Outlet) (date turns : ℕ) → IsStation s → length s.log.dates ≢ jobs s.graph → IsFiring old mid new s full empty outlets date → IsStation (fired_station s empty outlets date turns)
station-fires old mid new s full empty outlets date turns sound more is =
    let longer : length (s.log.dates ++ date ∷ []) ≡ length s.log.dates + 1 = length-append s.log.dates (date ∷ []) in
    let left : length s.log.dates + 1 ≤ jobs s.graph = omega (arith, more, sound.few_dates) in
    record {
      exists = sound.exists;
      an_input_each = is.empty_count ∙ is.full_count ∙ sound.an_input_each;
      an_outlet_each = is.outlet_count ∙ sound.an_outlet_each;
      made = omega (arith, longer, sound.made);
      few_dates = omega (arith, longer, left);
      log_room = sound.log_room;
      ring_room = λ k there.
          let below : k < length s.outlets = omega (arith, is.outlet_count) in
          ring_room-after mid new (outlet_at s.outlets k) (outlet_at outlets k) _ (jobs s.graph - length s.log.dates) (jobs s.graph - length (s.log.dates ++ date ∷ [])) (outlet-same s.outlets outlets k is.outlets_same) (is.got k below) (omega (arith, longer, left)) (sound.ring_room k below);
    }

-- the queues on the shelf stay where the ends without their tokens stay
within-same : (queue queue' : Option ℕ) (count count' : ℕ) → queue' ≡ queue → count' ≡ count → IfSome queue (λ q. q < count) → IfSome queue' (λ q. q < count')
within-same queue queue' count count' same more within =
    subst (λ (n : ℕ). IfSome queue' (λ q. q < n)) (sym more) (subst (λ (o : Option ℕ). IfSome o (λ q. q < count)) (sym same) within)

pub seated-same : (old new : List PlainQueue) (s t : WorkStation) → length new ≡ length old → length t.inputs ≡ length s.inputs → length t.outlets ≡ length s.outlets → map bare_input t.inputs ≡ map bare_input s.inputs → map bare_outlet t.outlets ≡ map bare_outlet s.outlets → IsSeated old s → IsSeated new t
seated-same old new s t count in_count out_count in_same out_same seated =
    let takes : (k : ℕ) → inlet_queue (input_at t.inputs k).inlet ≡ inlet_queue (input_at s.inputs k).inlet =
    λ k. inlet_queue-same (input_at s.inputs k).inlet (input_at t.inputs k).inlet (input-same s.inputs t.inputs k in_same) in
    let puts : (k : ℕ) → outlet_queue (outlet_at t.outlets k) ≡ outlet_queue (outlet_at s.outlets k) =
    λ k. outlet_queue-same (outlet_at s.outlets k) (outlet_at t.outlets k) (outlet-same s.outlets t.outlets k out_same) in
    record {
      takes_within = λ k low. within-same _ _ _ _ (takes k) count (seated.takes_within k (omega (arith, in_count)));
      takes_apart = λ j k lt low q here there.
          seated.takes_apart j k lt (omega (arith, in_count)) q (sym (takes j) ∙ here) (sym (takes k) ∙ there);
      puts_within = λ k low. within-same _ _ _ _ (puts k) count (seated.puts_within k (omega (arith, out_count)));
      puts_apart = λ j k lt low q here there.
          seated.puts_apart j k lt (omega (arith, out_count)) q (sym (puts j) ∙ here) (sym (puts k) ∙ there);
    }

-- ---- what a step leaves as it was, and what it says that it did

-- a station is the same but for what its steps change
pub bare-same : (s : WorkStation) (inputs : List Input) (outlets : List Outlet) (log : RoomyLog) (turns : ℕ) → map bare_input inputs ≡ map bare_input s.inputs → map bare_outlet outlets ≡ map bare_outlet s.outlets → log.room ≡ s.log.room → bare_station (record s { inputs = inputs; outlets = outlets; log = log; turns = turns }) ≡ bare_station s
bare-same s inputs outlets log turns in_same out_same room =
    let bare : List Input → List Outlet → ℕ → WorkStation =
    λ ins outs space. record s { inputs = ins; outlets = outs; log = record { dates = []; room = space }; turns = 0 } in
    ap (λ (l : List Input). bare l (map bare_outlet outlets) log.room) in_same
    ∙ ap (λ (l : List Outlet). bare (map bare_input s.inputs) l log.room) out_same
    ∙ ap (bare (map bare_input s.inputs) (map bare_outlet s.outlets)) room

-- a station with one date more, whose hands are empty
pub fired-once : (s : WorkStation) (inputs : List Input) (outlets : List Outlet) (log : RoomyLog) (date turns : ℕ) → log ≡ with_date s.log date → ((k : ℕ) → k < length s.inputs → (input_at inputs k).hand ≡ None) → FiredOnce s (record s { inputs = inputs; outlets = outlets; log = log; turns = turns })
fired-once s inputs outlets log date turns log_is hands =
    let n = length s.log.dates in
    let last : slice_index log.dates n ≡ date =
    ap (λ (l : RoomyLog). slice_index l.dates n) log_is ∙ get_or_push s.log.dates date 0 n refl in
    record { log = log_is ∙ ap (with_date s.log) (sym last); hands = hands }

-- ---- what a step does to the shelf

pub own-waits : (s : WorkStation) (old new : List PlainQueue) → OnlyTakes old new → ((q : ℕ) → NoneTakes q s.inputs → queue_at new q ≡ queue_at old q) → MovesItsOwn s old new
own-waits s old new only others = record {
  count = only.count;
  made = λ q. ap (λ (queue : PlainQueue). record queue { added = [] }) (only.puts q);
  takes = λ q none. ap (λ (queue : PlainQueue). queue.takes) (others q none);
  taken = λ q none. ap plain_taken (others q none);
  puts = λ q none. ap (λ (queue : PlainQueue). queue.added) (only.puts q);
}

pub own-fires : (s : WorkStation) (old mid new : List PlainQueue) → OnlyTakes old mid → ((q : ℕ) → NoneTakes q s.inputs → queue_at mid q ≡ queue_at old q) → OnlyPuts mid new → ((q : ℕ) → NonePuts q s.outlets → queue_at new q ≡ queue_at mid q) → MovesItsOwn s old new
own-fires s old mid new only others only' others' =
    let first = own-waits s old mid only others in
    record {
      count = only'.count ∙ first.count;
      made = λ q. ap (λ (queue : PlainQueue). record queue { takes = 0 }) (only'.takes q) ∙ first.made q;
      takes = λ q none. ap (λ (queue : PlainQueue). queue.takes) (only'.takes q) ∙ first.takes q none;
      taken = λ q none. only'.taken q ∙ first.taken q none;
      puts = λ q none. ap (λ (queue : PlainQueue). queue.added) (others' q none) ∙ first.puts q none;
    }

pub grows-waits : (old new : List PlainQueue) → OnlyTakes old new → Grows old new
grows-waits old new only q = ([], append-nil (queue_at old q).added ∙ ap (λ (queue : PlainQueue). queue.added) (sym (only.puts q)))

pub grows-fires : (old mid new : List PlainQueue) → OnlyTakes old mid → Grows mid new → Grows old new
grows-fires old mid new only grows q =
    subst (λ (l : List ℕ). IsPrefix l (queue_at new q).added) (ap (λ (queue : PlainQueue). queue.added) (only.puts q)) (grows q)

-- ---- other stations of the shelf

-- where two stations take from no queue together, one of them takes from none that the other takes from
takes-apart : (s other : WorkStation) (q k : ℕ) → AreApart s other → k < length other.inputs → inlet_queue (input_at other.inputs k).inlet ≡ Some q → NoneTakes q s.inputs
takes-apart s other q k apart low is =
    ⊎_elim (λ (none : NoneTakes q s.inputs). none) (λ (none : NoneTakes q other.inputs). absurd (none k low is)) (apart.takes q)

puts-apart : (s other : WorkStation) (q k : ℕ) → AreApart s other → k < length other.outlets → outlet_queue (outlet_at other.outlets k) ≡ Some q → NonePuts q s.outlets
puts-apart s other q k apart low is =
    ⊎_elim (λ (none : NonePuts q s.outlets). none) (λ (none : NonePuts q other.outlets). absurd (none k low is)) (apart.puts q)

taken-apart : (old new : List PlainQueue) (s : WorkStation) (i : Inlet) → MovesItsOwn s old new → ((q : ℕ) → inlet_queue i ≡ Some q → NoneTakes q s.inputs) → inlet_taken new i ≡ inlet_taken old i
taken-apart old new s (inlet.Ring take) own none = refl
taken-apart old new s (inlet.Room take) own none = refl
taken-apart old new s (inlet.Local q) own none = own.taken q (none q refl)

added-apart : (old new : List PlainQueue) (s : WorkStation) (o : Outlet) → MovesItsOwn s old new → ((q : ℕ) → outlet_queue o ≡ Some q → NonePuts q s.outlets) → outlet_added new o ≡ outlet_added old o
added-apart old new s (outlet.Ring put) own none = refl
added-apart old new s (outlet.Room put) own none = refl
added-apart old new s (outlet.Local q) own none = own.puts q (none q refl)

room-apart : (old new : List PlainQueue) (s : WorkStation) (o : Outlet) → MovesItsOwn s old new → outlet_room new o ≡ outlet_room old o
room-apart old new s (outlet.Ring put) own = refl
room-apart old new s (outlet.Room put) own = refl
room-apart old new s (outlet.Local q) own = ap (λ (queue : PlainQueue). queue.room) (own.made q)

kept-others : (old new : List PlainQueue) (s : WorkStation) → MovesItsOwn s old new → (other : WorkStation) → IsStation other → AreApart s other → IsKept old other → IsKept new other
kept-others old new s own other sound apart kept =
    let taken : (k : ℕ) → k < length other.inputs → inlet_taken new (input_at other.inputs k).inlet ≡ inlet_taken old (input_at other.inputs k).inlet =
    λ k low. taken-apart old new s (input_at other.inputs k).inlet own (λ q is. takes-apart s other q k apart low is) in
    record {
      held = λ k low.
          let was = kept.held k low in
          record {
            enough = omega (arith, was.enough, ap length (taken k low));
            rest = ap (drop (firings other)) (taken k low) ∙ was.rest;
          };
      dates = λ n low.
          kept.dates n low
          ∙ date_for-agree other.graph other.number (other.made + n + 1) _ _
          (λ k there. ap (λ (l : List ℕ). slice_index l n) (sym (taken k (omega (arith, sound.an_input_each)))));
      added = λ k low.
          added-apart old new s (outlet_at other.outlets k) own (λ q is. puts-apart s other q k apart low is) ∙ kept.added k low;
      room = λ k low. subst (λ room. jobs other.graph ≤ other.made + room) (sym (room-apart old new s (outlet_at other.outlets k) own)) (kept.room k low);
    }

-- at least as many tokens wait where nothing was taken
waiting-grows : (old new : List PlainQueue) (q : ℕ) → unused_queue (queue_at new q) ≡ unused_queue (queue_at old q) → (queue_at new q).takes ≡ (queue_at old q).takes → Grows old new → length (plain_waiting (queue_at old q)) ≤ length (plain_waiting (queue_at new q))
waiting-grows old new q made takes grows =
    let was = queue_at old q in
    let is = queue_at new q in
    let initial : is.initial ≡ was.initial = ap (λ (queue : PlainQueue). queue.initial) made in
    let more : length is.added ≡ length was.added + length (grows q).0 =
    ap length (sym (grows q).1) ∙ length-append was.added (grows q).0 in
    let before : length (plain_waiting was) ≡ length was.initial + length was.added - was.takes =
    length-drop was.takes (was.initial ++ was.added) ∙ ap (λ n. n - was.takes) (length-append was.initial was.added) in
    let after : length (plain_waiting is) ≡ length is.initial + length is.added - is.takes =
    length-drop is.takes (is.initial ++ is.added) ∙ ap (λ n. n - is.takes) (length-append is.initial is.added) in
    omega (arith, before, after, more, takes, ap length initial)

ahead-apart : (old new : List PlainQueue) (s : WorkStation) (i : Inlet) → MovesItsOwn s old new → Grows old new → ((q : ℕ) → inlet_queue i ≡ Some q → NoneTakes q s.inputs) → inlet_ahead old i ≤ inlet_ahead new i
ahead-apart old new s (inlet.Ring take) own grows none = omega arith
ahead-apart old new s (inlet.Room take) own grows none = omega arith
ahead-apart old new s (inlet.Local q) own grows none = waiting-grows old new q (own.made q) (own.takes q (none q refl)) grows

ready-others : (old new : List PlainQueue) (s : WorkStation) → MovesItsOwn s old new → Grows old new → (other : WorkStation) → AreApart s other → IsReady old other → IsReady new other
ready-others old new s own grows other apart ready = record {
  more = ready.more;
  tokens = λ k low.
      let input = input_at other.inputs k in
      let had = ready.tokens k low in
      let ahead = ahead-apart old new s input.inlet own grows (λ q is. takes-apart s other q k apart low is) in
      omega (arith, had, ahead);
  space = ready.space;
}

pub moves-apart : (old new : List PlainQueue) (s : WorkStation) → MovesItsOwn s old new → Grows old new → MovesApart s old new
moves-apart old new s own grows = record {
  grows = grows;
  own = own;
  others = kept-others old new s own;
  ready = ready-others old new s own grows;
}

pub moves-none : (shelf : List PlainQueue) (s : WorkStation) → MovesApart s shelf shelf
moves-none shelf s = record {
  grows = λ q. ([], append-nil (queue_at shelf q).added);
  own = record { count = refl; made = λ q. refl; takes = λ q none. refl; taken = λ q none. refl; puts = λ q none. refl };
  others = λ other sound apart kept. kept;
  ready = λ other apart ready. ready;
}

-- ---- before a step

-- where dates are left to be made, every output has room for one
shelf_room-left : (shelf : List PlainQueue) (o : Outlet) → length (outlet_added shelf o) < outlet_room shelf o → HasShelfRoom shelf o
shelf_room-left shelf (outlet.Ring put) less = tt
shelf_room-left shelf (outlet.Room put) less = tt
shelf_room-left shelf (outlet.Local q) less = less

pub kept-may_put : (shelf : List PlainQueue) (s : WorkStation) → IsStation s → IsKept shelf s → MayPut shelf s
kept-may_put shelf s sound kept more k low =
    let got : length (outlet_added shelf (outlet_at s.outlets k)) ≡ firings s =
    ap length (kept.added k low)
    ∙ length-map (drop s.made s.log.dates) (λ (d : ℕ). saturating d (delay s.graph (slice_index (outs s.graph s.number) k)))
    ∙ length-drop s.made s.log.dates in
    shelf_room-left shelf (outlet_at s.outlets k) (omega (arith, got, kept.room k low, sound.made, more))

-- ---- a meeting

-- a station whose inlet j knows other tokens
abbrev pub met_station : WorkStation → ℕ → Inlet → Option ℕ → WorkStation
met_station s j inlet hand = record s { inputs = set s.inputs j (record { inlet = inlet; hand = hand }) }

abbrev no_input : Input
no_input = record { inlet = inlet.Local 0; hand = None }

pub station-met : (s : WorkStation) (j : ℕ) (i : Inlet) (hand : Option ℕ) → IsStation s → IsStation (met_station s j i hand)
station-met s j i hand sound =
    station-waits s (set s.inputs j (record { inlet = i; hand = hand })) s.turns (length-set s.inputs j (record { inlet = i; hand = hand })) sound

pub bare-met : (inputs : List Input) (j : ℕ) (i : Inlet) (hand : Option ℕ) → unseen_inlet i ≡ unseen_inlet (input_at inputs j).inlet → map bare_input (set inputs j (record { inlet = i; hand = hand })) ≡ map bare_input inputs
bare-met inputs j i hand same =
    let bare : bare_inlet i ≡ bare_inlet (input_at inputs j).inlet =
    sym (bare-unseen i) ∙ ap bare_inlet same ∙ bare-unseen (input_at inputs j).inlet in
    map-set_same bare_input inputs j (record { inlet = i; hand = hand }) no_input (ap (λ (l : Inlet). record { inlet = l; hand = None }) bare)

taken-met : (shelf : List PlainQueue) (inputs : List Input) (j k : ℕ) (i : Inlet) (hand : Option ℕ) → j < length inputs → unseen_inlet i ≡ unseen_inlet (input_at inputs j).inlet → inlet_taken shelf (input_at (set inputs j (record { inlet = i; hand = hand })) k).inlet ≡ inlet_taken shelf (input_at inputs k).inlet
taken-met shelf inputs j k i hand low same =
    let new : Input = record { inlet = i; hand = hand } in
    let taken : Input → List ℕ = λ input. inlet_taken shelf input.inlet in
    ⊎_elim
    (λ (e : k ≡ j).
    ap (λ (n : ℕ). taken (input_at (set inputs j new) n)) e
    ∙ ap taken (get_or-set_same inputs j new no_input low)
    ∙ sym (taken-unseen shelf i)
    ∙ ap (inlet_taken shelf) same
    ∙ taken-unseen shelf (input_at inputs j).inlet
    ∙ ap (λ (n : ℕ). taken (input_at inputs n)) (sym e))
    (λ (ne : k ≢ j). ap taken (get_or-set_other inputs j k new no_input ne))
    (cases_eq k j)

hand-met : (inputs : List Input) (j k : ℕ) (i : Inlet) (hand : Option ℕ) → j < length inputs → hand ≡ (input_at inputs j).hand → (input_at (set inputs j (record { inlet = i; hand = hand })) k).hand ≡ (input_at inputs k).hand
hand-met inputs j k i hand low same =
    let new : Input = record { inlet = i; hand = hand } in
    ⊎_elim
    (λ (e : k ≡ j).
    ap (λ (n : ℕ). (input_at (set inputs j new) n).hand) e
    ∙ ap (λ (input : Input). input.hand) (get_or-set_same inputs j new no_input low)
    ∙ same
    ∙ ap (λ (n : ℕ). (input_at inputs n).hand) (sym e))
    (λ (ne : k ≢ j). ap (λ (input : Input). input.hand) (get_or-set_other inputs j k new no_input ne))
    (cases_eq k j)

pub kept-met : (shelf : List PlainQueue) (s : WorkStation) (j : ℕ) (i : Inlet) (hand : Option ℕ) → j < length s.inputs → unseen_inlet i ≡ unseen_inlet (input_at s.inputs j).inlet → hand ≡ (input_at s.inputs j).hand → IsKept shelf s → IsKept shelf (met_station s j i hand)
kept-met shelf s j i hand low same held kept =
    let new : Input = record { inlet = i; hand = hand } in
    let taken = λ (k : ℕ). taken-met shelf s.inputs j k i hand low same in
    record {
      held = λ k there.
          let was = kept.held k (omega (arith, length-set s.inputs j new)) in
          record {
            enough = omega (arith, was.enough, ap length (taken k));
            rest = ap (drop (firings s)) (taken k) ∙ was.rest ∙ ap (λ (h : Option ℕ). option_to_list h) (sym (hand-met s.inputs j k i hand low held));
          };
      dates = λ n before.
          kept.dates n before
          ∙ date_for-agree s.graph s.number (s.made + n + 1) _ _ (λ k there. ap (λ (l : List ℕ). slice_index l n) (sym (taken k)));
      added = kept.added;
      room = kept.room;
    }

-- ---- a new station

taken-fresh : (shelf : List PlainQueue) (i : Inlet) → IsUntaken i → IfSome (inlet_queue i) (λ q. plain_taken (queue_at shelf q) ≡ []) → inlet_taken shelf i ≡ []
taken-fresh shelf (inlet.Ring take) ring local = ring
taken-fresh shelf (inlet.Room take) ring local = ring
taken-fresh shelf (inlet.Local q) ring local = local

added-fresh : (shelf : List PlainQueue) (o : Outlet) → IsUnfilled o → IfSome (outlet_queue o) (λ q. (queue_at shelf q).added ≡ []) → outlet_added shelf o ≡ []
added-fresh shelf (outlet.Ring put) ring local = ring
added-fresh shelf (outlet.Room put) ring local = ring
added-fresh shelf (outlet.Local q) ring local = local

room-fresh : (shelf : List PlainQueue) (o : Outlet) (all made : ℕ) → HasRingRoom (all - made) o → IfSome (outlet_queue o) (λ q. all ≤ made + (queue_at shelf q).room) → all ≤ made + outlet_room shelf o
room-fresh shelf (outlet.Ring put) all made ring local = omega (arith, ring)
room-fresh shelf (outlet.Room put) all made ring local = omega (arith, ring)
room-fresh shelf (outlet.Local q) all made ring local = local

-- its inlets, and its hands
fresh-input : (inlets : List Inlet) (k : ℕ) → input_at (map empty_handed inlets) k ≡ empty_handed (get_or inlets k (inlet.Local 0))
fresh-input inlets k = get_or-map empty_handed inlets k (inlet.Local 0)

pub station-new : (g : Parts) (t : ℕ) (inlets : List Inlet) (outlets : List Outlet) (log : RoomyLog) → t < stations g → length inlets ≡ length (ins g t) → length outlets ≡ length (outs g t) → length log.dates ≤ jobs g → jobs g ≤ log.room → ((k : ℕ) → k < length outlets → HasRingRoom (jobs g - length log.dates) (outlet_at outlets k)) → IsStation (new_station g t inlets outlets log)
station-new g t inlets outlets log exists inlet_each outlet_each few room ring = record {
  exists = exists;
  an_input_each = length-map inlets empty_handed ∙ inlet_each;
  an_outlet_each = outlet_each;
  made = omega arith;
  few_dates = few;
  log_room = room;
  ring_room = ring;
}

pub kept-fresh : (g : Parts) (t : ℕ) (inlets : List Inlet) (outlets : List Outlet) (log : RoomyLog) → All IsUntaken inlets → All IsUnfilled outlets → ((k : ℕ) → k < length outlets → HasRingRoom (jobs g - length log.dates) (outlet_at outlets k)) → (shelf : List PlainQueue) → IsFresh shelf (new_station g t inlets outlets log) → IsKept shelf (new_station g t inlets outlets log)
kept-fresh g t inlets outlets log untaken unfilled ring_room shelf fresh =
    let inputs = map empty_handed inlets in
    let few : length inputs ≡ length inlets = length-map inlets empty_handed in
    let inlet_is : (k : ℕ) → (input_at inputs k).inlet ≡ get_or inlets k (inlet.Local 0) =
    λ k. ap (λ (i : Input). i.inlet) (fresh-input inlets k) in
    let hand_is : (k : ℕ) → (input_at inputs k).hand ≡ None = λ k. ap (λ (i : Input). i.hand) (fresh-input inlets k) in
    let taken : (k : ℕ) → k < length inputs → inlet_taken shelf (input_at inputs k).inlet ≡ [] =
    λ k low.
    taken-fresh shelf (input_at inputs k).inlet
    (subst IsUntaken (sym (inlet_is k)) (untaken k (inlet.Local 0) (omega (arith, few))))
    (fresh.untaken k low) in
    record {
      held = λ k low. record {
        enough = omega arith;
        rest = ap (drop (length log.dates - length log.dates)) (taken k low)
            ∙ drop_all (length log.dates - length log.dates) [] (omega arith)
            ∙ ap (λ (h : Option ℕ). option_to_list h) (sym (hand_is k));
      };
      dates = λ n low. absurd (omega arith);
      added = λ k low.
          added-fresh shelf (outlet_at outlets k) (unfilled k (outlet.Local 0) low) (fresh.unfilled k low)
          ∙ ap (map (λ date. saturating date (delay g (slice_index (outs g t) k)))) (sym (drop_all (length log.dates) log.dates (omega arith)));
      room = λ k low.
          room-fresh shelf (outlet_at outlets k) (jobs g) (length log.dates) (ring_room k low) (fresh.room k low);
    }
