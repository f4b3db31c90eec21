use Rattle.std.proofs.Common.{◌≡◌, ◌+◌, ◌<◌, ◌^◌, arith, subst, sym, ap, ◌∙◌, ℕ, [], set, length}
use Rattle.std.proofs.lemmas.List.{set-get_or}
use Rattle.std.specs.Prelude.{◌↔◌}
use Rattle.event_graph.specs.Network.{jobs}
use Rattle.line_base.specs.Roomy.{RoomyLog}
use Rattle.station_step.specs.declared.stepped.Stepped.TheVariants.{Blocked}
use Rattle.station_step.specs.Shelf.{WorkShelf}
use Rattle.station_step.specs.RingInputs.{HaveLooked}
use Rattle.station_step.specs.Station.{WorkStation, IsSeated, StandsAt, MayPut}
use Rattle.station_step.specs.Kept.{IsKept}
use Rattle.station_step.specs.Step.{FiresAt, IsReady, IsDone, HasFired, IfBlocked, IsBlocked, Did, MovesApart}
use Rattle.station_step.specs.Waits.{with_turn, StaysBlocked}
use Rattle.station_step.proofs.KeptStations.{moves-none}
use Rattle.station_step.proofs.WaitingStations.{looked-trans, looked-turned, seated-turned, stands-turned, kept-turned}
use Rattle.station_step.proofs.Looked.{bare_station-looked, seated-looked, may_put-looked, stands-looked, ready-looked, kept-looked, blocked-looked, full-looked, did-looked, moves-looked}
use Rattle.station_step.proofs.station.Station.step.Goals as goal
use Rattle.station_step.proofs.station.Station.step.Goals.{Then-fire_at_once, Else-fire_at_once, After-step_by_hands}

-- ---- the station fired at once

fires : (c : Then-fire_at_once) → FiresAt c.args.i c.args.shelf.now c.fire_at_once.new.shelf c.args.self.now c.fire_at_once.new.self
fires c = c.fire_at_once.ensures.fired c.if-fire_at_once.true

pub returns-then-fire_at_once-clause-turns : goal.returns-then-fire_at_once-clause-turns
returns-then-fire_at_once-clause-turns c = (fires (goal.at.returns-then-fire_at_once-clause-turns c).Then-fire_at_once).turns

pub returns-then-fire_at_once-clause-same : goal.returns-then-fire_at_once-clause-same
returns-then-fire_at_once-clause-same c = (fires (goal.at.returns-then-fire_at_once-clause-same c).Then-fire_at_once).same

pub returns-then-fire_at_once-clause-station : goal.returns-then-fire_at_once-clause-station
returns-then-fire_at_once-clause-station c = (fires (goal.at.returns-then-fire_at_once-clause-station c).Then-fire_at_once).station

pub returns-then-fire_at_once-clause-seated : goal.returns-then-fire_at_once-clause-seated
returns-then-fire_at_once-clause-seated c = (fires (goal.at.returns-then-fire_at_once-clause-seated c).Then-fire_at_once).seated

pub returns-then-fire_at_once-clause-stands : goal.returns-then-fire_at_once-clause-stands
returns-then-fire_at_once-clause-stands c = (fires (goal.at.returns-then-fire_at_once-clause-stands c).Then-fire_at_once).stands

pub returns-then-fire_at_once-clause-did : goal.returns-then-fire_at_once-clause-did
returns-then-fire_at_once-clause-did c = (fires (goal.at.returns-then-fire_at_once-clause-did c).Then-fire_at_once).did

pub returns-then-fire_at_once-clause-kept : goal.returns-then-fire_at_once-clause-kept
returns-then-fire_at_once-clause-kept c = (fires (goal.at.returns-then-fire_at_once-clause-kept c).Then-fire_at_once).kept

pub returns-then-fire_at_once-clause-moves : goal.returns-then-fire_at_once-clause-moves
returns-then-fire_at_once-clause-moves c = (fires (goal.at.returns-then-fire_at_once-clause-moves c).Then-fire_at_once).moves

pub returns-then-fire_at_once-clause-logs : goal.returns-then-fire_at_once-clause-logs
returns-then-fire_at_once-clause-logs c = (fires (goal.at.returns-then-fire_at_once-clause-logs c).Then-fire_at_once).logs

pub returns-then-fire_at_once-clause-sources : goal.returns-then-fire_at_once-clause-sources
returns-then-fire_at_once-clause-sources c = (fires (goal.at.returns-then-fire_at_once-clause-sources c).Then-fire_at_once).sources

pub returns-then-fire_at_once-clause-done : goal.returns-then-fire_at_once-clause-done
returns-then-fire_at_once-clause-done c =
    (λ never. absurd never, (fires (goal.at.returns-then-fire_at_once-clause-done c).Then-fire_at_once).left)

-- ---- it did not: it has looked at its rings at most, and the shelf is as it was

shelf_is : (c : Else-fire_at_once) → c.fire_at_once.new.shelf ≡ c.args.shelf.now
shelf_is c = c.fire_at_once.ensures.shelf c.if-fire_at_once.false

looked : (c : Else-fire_at_once) → HaveLooked c.args.self.now c.fire_at_once.new.self
looked c = c.fire_at_once.ensures.looked c.if-fire_at_once.false

-- ---- it has looked once more where it waits for one input, and no token was there

pub stay_blocked-requires-clause-turns : goal.stay_blocked-requires-clause-turns
stay_blocked-requires-clause-turns c =
    let from = (goal.at.stay_blocked-requires-clause-turns c).Else-fire_at_once in
    subst (λ (s : WorkStation). s.turns < 2 ^ 40) (sym (looked from).rest) c.requires.turns

pub stay_blocked-requires-clause-seated : goal.stay_blocked-requires-clause-seated
stay_blocked-requires-clause-seated c =
    let from = (goal.at.stay_blocked-requires-clause-seated c).Else-fire_at_once in
    subst (λ (w : WorkShelf). IsSeated w.queues c.fire_at_once.new.self) (sym (shelf_is from))
    (seated-looked c.args.shelf.now.queues c.args.self.now c.fire_at_once.new.self (looked from) c.requires.seated)

-- all that it looked at, and its turn
looked_still : (c : Else-fire_at_once) (after : WorkStation) (arc : ℕ) → StaysBlocked c.fire_at_once.new.shelf.queues c.fire_at_once.new.self after arc → HaveLooked (with_turn c.args.self.now) after
looked_still c after arc still =
    looked-trans (with_turn c.args.self.now) (with_turn c.fire_at_once.new.self) after
    (looked-turned c.args.self.now c.fire_at_once.new.self (looked c)) still.looked

pub returns-in-Some-clause-turns : goal.returns-in-Some-clause-turns
returns-in-Some-clause-turns c =
    let from = (goal.at.returns-in-Some-clause-turns c).Else-fire_at_once in
    ap (λ (s : WorkStation). s.turns) (looked_still from c.stay_blocked.new.self c.in-Some.arc c.in-Some.ensures.blocked).rest

pub returns-in-Some-clause-same : goal.returns-in-Some-clause-same
returns-in-Some-clause-same c =
    let from = (goal.at.returns-in-Some-clause-same c).Else-fire_at_once in
    bare_station-looked (with_turn c.args.self.now) c.stay_blocked.new.self
    (looked_still from c.stay_blocked.new.self c.in-Some.arc c.in-Some.ensures.blocked)

pub returns-in-Some-clause-station : goal.returns-in-Some-clause-station
returns-in-Some-clause-station c = c.in-Some.ensures.blocked.station

pub returns-in-Some-clause-seated : goal.returns-in-Some-clause-seated
returns-in-Some-clause-seated c =
    let from = (goal.at.returns-in-Some-clause-seated c).Else-fire_at_once in
    let shelf = c.args.shelf.now.queues in
    subst (λ (w : WorkShelf). IsSeated w.queues c.stay_blocked.new.self) (sym (shelf_is from))
    (seated-looked shelf (with_turn c.args.self.now) c.stay_blocked.new.self
    (looked_still from c.stay_blocked.new.self c.in-Some.arc c.in-Some.ensures.blocked)
    (seated-turned shelf c.args.self.now c.requires.seated))

pub returns-in-Some-clause-stands : goal.returns-in-Some-clause-stands
returns-in-Some-clause-stands c =
    let from = (goal.at.returns-in-Some-clause-stands c).Else-fire_at_once in
    let shelf = c.args.shelf.now in
    subst (λ (w : WorkShelf). StandsAt c.args.i w c.stay_blocked.new.self) (sym (shelf_is from))
    (stands-looked c.args.i shelf (with_turn c.args.self.now) c.stay_blocked.new.self
    (looked_still from c.stay_blocked.new.self c.in-Some.arc c.in-Some.ensures.blocked)
    (stands-turned c.args.i shelf c.args.self.now c.requires.stands))

pub returns-in-Some-clause-done : goal.returns-in-Some-clause-done
returns-in-Some-clause-done c =
    let from = (goal.at.returns-in-Some-clause-done c).Else-fire_at_once in
    let left : length c.args.self.now.log.dates < jobs c.args.self.now.graph =
    subst (λ (s : WorkStation). length s.log.dates < jobs s.graph) (looked from).rest c.in-Some.ensures.blocked.left in
    (λ never. absurd never, λ all. absurd (omega (arith, left, all)))

pub returns-in-Some-clause-blocked : goal.returns-in-Some-clause-blocked
returns-in-Some-clause-blocked c =
    let from = (goal.at.returns-in-Some-clause-blocked c).Else-fire_at_once in
    subst (λ (w : WorkShelf). IsBlocked w.queues c.args.self.now c.stay_blocked.new.self c.in-Some.arc) (shelf_is from)
    (blocked-looked (Blocked c.in-Some.arc) c.fire_at_once.new.shelf.queues c.args.self.now c.fire_at_once.new.self c.stay_blocked.new.self (looked from) c.in-Some.ensures.blocked.blocked)

pub returns-in-Some-clause-full : goal.returns-in-Some-clause-full
returns-in-Some-clause-full c = tt

pub returns-in-Some-clause-fires : goal.returns-in-Some-clause-fires
returns-in-Some-clause-fires c ready =
    let blocked = returns-in-Some-clause-blocked c in
    omega (arith, ready.tokens blocked.0 blocked.1.there, blocked.1.none)

pub returns-in-Some-clause-did : goal.returns-in-Some-clause-did
returns-in-Some-clause-did c =
    let from = (goal.at.returns-in-Some-clause-did c).Else-fire_at_once in
    let shelf = c.fire_at_once.new.shelf.queues in
    subst (λ (w : WorkShelf). Did (Blocked c.in-Some.arc) w.queues shelf c.args.self.now c.stay_blocked.new.self) (shelf_is from)
    (did-looked (Blocked c.in-Some.arc) shelf shelf c.args.self.now c.fire_at_once.new.self c.stay_blocked.new.self (looked from) (λ never. absurd never) c.in-Some.ensures.blocked.did)

pub returns-in-Some-clause-kept : goal.returns-in-Some-clause-kept
returns-in-Some-clause-kept c kept =
    let from = (goal.at.returns-in-Some-clause-kept c).Else-fire_at_once in
    let shelf = c.args.shelf.now.queues in
    subst (λ (w : WorkShelf). IsKept w.queues c.stay_blocked.new.self) (sym (shelf_is from))
    (kept-looked shelf (with_turn c.args.self.now) c.stay_blocked.new.self
    (looked_still from c.stay_blocked.new.self c.in-Some.arc c.in-Some.ensures.blocked)
    (kept-turned shelf c.args.self.now kept))

pub returns-in-Some-clause-moves : goal.returns-in-Some-clause-moves
returns-in-Some-clause-moves c =
    let from = (goal.at.returns-in-Some-clause-moves c).Else-fire_at_once in
    subst (λ (w : WorkShelf). MovesApart c.args.self.now c.args.shelf.now.queues w.queues) (sym (shelf_is from))
    (moves-none c.args.shelf.now.queues c.args.self.now)

pub returns-in-Some-clause-logs : goal.returns-in-Some-clause-logs
returns-in-Some-clause-logs c =
    let from = (goal.at.returns-in-Some-clause-logs c).Else-fire_at_once in
    let old = c.args.shelf.now.logs in
    let no_log : RoomyLog = record { dates = []; room = 0 } in
    let still = looked_still from c.stay_blocked.new.self c.in-Some.arc c.in-Some.ensures.blocked in
    ap (λ (w : WorkShelf). w.logs) (shelf_is from)
    ∙ sym (set-get_or old c.args.i no_log)
    ∙ ap (set old c.args.i) (c.requires.stands.log ∙ sym (ap (λ (s : WorkStation). s.log) still.rest))

pub returns-in-Some-clause-sources : goal.returns-in-Some-clause-sources
returns-in-Some-clause-sources c =
    let from = (goal.at.returns-in-Some-clause-sources c).Else-fire_at_once in
    ap (λ (w : WorkShelf). w.sources) (shelf_is from)

-- ---- it has looked there at most, and goes on by hands

-- all that it looked at
looked_all : (c : Else-fire_at_once) (after : WorkStation) → HaveLooked c.fire_at_once.new.self after → HaveLooked c.args.self.now after
looked_all c after more = looked-trans c.args.self.now c.fire_at_once.new.self after (looked c) more

pub step_by_hands-requires-clause-made_for : goal.step_by_hands-requires-clause-made_for
step_by_hands-requires-clause-made_for c =
    let from = (goal.at.step_by_hands-requires-clause-made_for c).Else-fire_at_once in
    c.requires.made_for ∙ sym (ap (λ (s : WorkStation). s.graph) (looked_all from c.stay_blocked.new.self c.in_default.ensures.looked).rest)

pub step_by_hands-requires-clause-turns : goal.step_by_hands-requires-clause-turns
step_by_hands-requires-clause-turns c =
    let from = (goal.at.step_by_hands-requires-clause-turns c).Else-fire_at_once in
    subst (λ (s : WorkStation). s.turns < 2 ^ 40) (sym (looked_all from c.stay_blocked.new.self c.in_default.ensures.looked).rest) c.requires.turns

pub step_by_hands-requires-clause-seated : goal.step_by_hands-requires-clause-seated
step_by_hands-requires-clause-seated c =
    let from = (goal.at.step_by_hands-requires-clause-seated c).Else-fire_at_once in
    subst (λ (w : WorkShelf). IsSeated w.queues c.stay_blocked.new.self) (sym (shelf_is from))
    (seated-looked c.args.shelf.now.queues c.args.self.now c.stay_blocked.new.self (looked_all from c.stay_blocked.new.self c.in_default.ensures.looked) c.requires.seated)

pub step_by_hands-requires-clause-may_put : goal.step_by_hands-requires-clause-may_put
step_by_hands-requires-clause-may_put c =
    let from = (goal.at.step_by_hands-requires-clause-may_put c).Else-fire_at_once in
    subst (λ (w : WorkShelf). MayPut w.queues c.stay_blocked.new.self) (sym (shelf_is from))
    (may_put-looked c.args.shelf.now.queues c.args.self.now c.stay_blocked.new.self (looked_all from c.stay_blocked.new.self c.in_default.ensures.looked) c.requires.may_put)

pub step_by_hands-requires-clause-stands : goal.step_by_hands-requires-clause-stands
step_by_hands-requires-clause-stands c =
    let from = (goal.at.step_by_hands-requires-clause-stands c).Else-fire_at_once in
    subst (λ (w : WorkShelf). StandsAt c.args.i w c.stay_blocked.new.self) (sym (shelf_is from))
    (stands-looked c.args.i c.args.shelf.now c.args.self.now c.stay_blocked.new.self (looked_all from c.stay_blocked.new.self c.in_default.ensures.looked) c.requires.stands)

pub returns-clause-turns : goal.returns-clause-turns
returns-clause-turns c =
    let from = (goal.at.returns-clause-turns c).Else-fire_at_once in
    c.step_by_hands.ensures.turns ∙ ap (λ (s : WorkStation). s.turns + 1) (looked_all from c.stay_blocked.new.self c.in_default.ensures.looked).rest

pub returns-clause-same : goal.returns-clause-same
returns-clause-same c =
    let from = (goal.at.returns-clause-same c).Else-fire_at_once in
    c.step_by_hands.ensures.same ∙ bare_station-looked c.args.self.now c.stay_blocked.new.self (looked_all from c.stay_blocked.new.self c.in_default.ensures.looked)

pub returns-clause-done : goal.returns-clause-done
returns-clause-done c =
    let from = (goal.at.returns-clause-done c).Else-fire_at_once in
    subst (λ (s : WorkStation). IsDone c.step_by_hands.result ↔ (length s.log.dates ≡ jobs s.graph)) (looked_all from c.stay_blocked.new.self c.in_default.ensures.looked).rest c.step_by_hands.ensures.done

pub returns-clause-blocked : goal.returns-clause-blocked
returns-clause-blocked c =
    let from = (goal.at.returns-clause-blocked c).Else-fire_at_once in
    subst (λ (w : WorkShelf). IfBlocked c.step_by_hands.result (IsBlocked w.queues c.args.self.now c.step_by_hands.new.self)) (shelf_is from)
    (blocked-looked c.step_by_hands.result c.fire_at_once.new.shelf.queues c.args.self.now c.stay_blocked.new.self c.step_by_hands.new.self (looked_all from c.stay_blocked.new.self c.in_default.ensures.looked) c.step_by_hands.ensures.blocked)

pub returns-clause-full : goal.returns-clause-full
returns-clause-full c =
    let from = (goal.at.returns-clause-full c).Else-fire_at_once in
    full-looked c.step_by_hands.result c.args.self.now c.stay_blocked.new.self c.step_by_hands.new.self (looked_all from c.stay_blocked.new.self c.in_default.ensures.looked) c.step_by_hands.ensures.full

pub returns-clause-fires : goal.returns-clause-fires
returns-clause-fires c =
    let from = (goal.at.returns-clause-fires c).Else-fire_at_once in
    subst (λ (w : WorkShelf). IsReady w.queues c.args.self.now → HasFired c.step_by_hands.result) (shelf_is from)
    (λ ready. c.step_by_hands.ensures.fires (ready-looked c.fire_at_once.new.shelf.queues c.args.self.now c.stay_blocked.new.self (looked_all from c.stay_blocked.new.self c.in_default.ensures.looked) ready))

-- where the answer is that the station is done, it was done before, and so it has not looked
stays : (c : After-step_by_hands) → HaveLooked c.fire_at_once.new.self c.stay_blocked.new.self → IsDone c.step_by_hands.result → c.stay_blocked.new.self ≡ c.args.self.now
stays c more done =
    let before = c.fire_at_once.ensures.looked c.if-fire_at_once.false in
    let all : length c.fire_at_once.new.self.log.dates ≡ jobs c.fire_at_once.new.self.graph =
    subst (λ (s : WorkStation). length s.log.dates ≡ jobs s.graph) more.rest (c.step_by_hands.ensures.done.0 done) in
    c.stay_blocked.ensures.stays all
    ∙ c.fire_at_once.ensures.stays (subst (λ (s : WorkStation). length s.log.dates ≡ jobs s.graph) before.rest all)

pub returns-clause-did : goal.returns-clause-did
returns-clause-did c =
    let from = (goal.at.returns-clause-did c).Else-fire_at_once in
    subst (λ (w : WorkShelf). Did c.step_by_hands.result w.queues c.step_by_hands.new.shelf.queues c.args.self.now c.step_by_hands.new.self) (shelf_is from)
    (did-looked c.step_by_hands.result c.fire_at_once.new.shelf.queues c.step_by_hands.new.shelf.queues c.args.self.now c.stay_blocked.new.self c.step_by_hands.new.self (looked_all from c.stay_blocked.new.self c.in_default.ensures.looked) (stays (goal.at.returns-clause-did c).After-step_by_hands c.in_default.ensures.looked) c.step_by_hands.ensures.did)

pub returns-clause-kept : goal.returns-clause-kept
returns-clause-kept c =
    let from = (goal.at.returns-clause-kept c).Else-fire_at_once in
    subst (λ (w : WorkShelf). IsKept w.queues c.args.self.now → IsKept c.step_by_hands.new.shelf.queues c.step_by_hands.new.self) (shelf_is from)
    (λ kept. c.step_by_hands.ensures.kept (kept-looked c.fire_at_once.new.shelf.queues c.args.self.now c.stay_blocked.new.self (looked_all from c.stay_blocked.new.self c.in_default.ensures.looked) kept))

pub returns-clause-moves : goal.returns-clause-moves
returns-clause-moves c =
    let from = (goal.at.returns-clause-moves c).Else-fire_at_once in
    subst (λ (w : WorkShelf). MovesApart c.args.self.now w.queues c.step_by_hands.new.shelf.queues) (shelf_is from)
    (moves-looked c.fire_at_once.new.shelf.queues c.step_by_hands.new.shelf.queues c.args.self.now c.stay_blocked.new.self (looked_all from c.stay_blocked.new.self c.in_default.ensures.looked) c.step_by_hands.ensures.moves)

pub returns-clause-logs : goal.returns-clause-logs
returns-clause-logs c =
    let from = (goal.at.returns-clause-logs c).Else-fire_at_once in
    c.step_by_hands.ensures.logs ∙ ap (λ (w : WorkShelf). set w.logs c.args.i c.step_by_hands.new.self.log) (shelf_is from)

pub returns-clause-sources : goal.returns-clause-sources
returns-clause-sources c =
    let from = (goal.at.returns-clause-sources c).Else-fire_at_once in
    c.step_by_hands.ensures.sources ∙ ap (λ (w : WorkShelf). w.sources) (shelf_is from)
