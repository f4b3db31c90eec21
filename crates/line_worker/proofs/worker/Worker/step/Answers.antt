use Rattle.std.proofs.Common.{ℕ, ◌+◌, ◌<◌, ◌^◌, ◌≡◌, length, set, sym, ap, ◌∙◌, subst, arith}
use Rattle.std.proofs.lemmas.Bool.{cond-true, cond-false}
use Rattle.std.proofs.lemmas.List.{get_or-set_same, get_or_read}
use Rattle.live_check.specs.Order.{LiveGraph}
use Rattle.station_step.specs.Station.{WorkStation, StandsAt, bare_station}
use Rattle.station_step.specs.Step.{HasFired}
use Rattle.station_step.proofs.KeptStations.{kept-may_put}
use Rattle.line_worker.specs.contracts.worker.Worker.{the_view}
use Rattle.line_worker.specs.Team.{WorkTeam, IsMember, member, no_station}
use Rattle.line_worker.specs.Worker.{LineWorker, IsWorker, with_team}
use Rattle.line_worker.specs.Work.{dates_of, SteppedAt}
use Rattle.line_worker.proofs.TeamSteps.{IsStep, gains-did, more-did, none-did, worker-after, member-in, found-in, count-in}
use Rattle.line_worker.proofs.Posts.{at-set}
use Rattle.line_worker.proofs.worker.Worker.step.Goals as goal
use Rattle.line_worker.proofs.worker.Worker.step.Goals.{After-index_mut, Joined-matches, in-Fired, in_default}

there : (c : After-index_mut) → c.args.i < length c.team.inside.stations.items
there c =
    omega (arith, c.requires.station, count-in (the_view c.self.inside) c.args.self.now c.team.inside.stations.items c.team.inside.shelf.queues c.self.view_is c.team.view_is)

-- the station is in its place
is-member : (c : After-index_mut) → (let seen : LineWorker = the_view c.self.inside in IsMember seen.live.graph seen.begun (seen.first + c.args.i) c.team.inside.shelf.queues c.index_mut.result.now)
is-member c =
    member-in (the_view c.self.inside) c.team.inside.stations.items c.team.inside.shelf.queues c.args.i c.index_mut.result.now c.self.invariant c.team.view_is (there c) c.index_mut.ensures.value

is-found : (c : After-index_mut) → c.index_mut.result.now ≡ member c.args.self.now.team.stations c.args.i
is-found c =
    found-in (the_view c.self.inside) c.args.self.now c.team.inside.stations.items c.team.inside.shelf.queues c.args.i c.index_mut.result.now c.self.view_is c.team.view_is (there c) c.index_mut.ensures.value

-- the worker and its team after the step
after : (c : Joined-matches) → (let seen : LineWorker = the_view c.self.inside in let new : WorkTeam = record { stations = set c.team.inside.stations.items c.args.i c.step-stepped.new.self; shelf = c.step-stepped.new.shelf.queues } in IsWorker (with_team seen new) × SteppedAt c.args.i seen.team new)
after c =
    let e = c.step-stepped.ensures in
    let step : IsStep c.team.inside.shelf.queues c.step-stepped.new.shelf.queues c.index_mut.result.now c.step-stepped.new.self =
    record { turn = e.turns; same = e.same; station = e.station; seated = e.seated; gains = gains-did _ _ _ _ _ e.did; fires = λ ready. more-did _ _ _ _ _ (e.fires ready) e.did; kept = e.kept; own = e.moves.own; others = e.moves.others; ready = e.moves.ready } in
    worker-after (the_view c.self.inside) c.team.inside.stations.items c.team.inside.shelf.queues c.step-stepped.new.shelf.queues c.args.i c.index_mut.result.now c.step-stepped.new.self c.self.invariant c.team.view_is (there (goal.at.invariant_of-self c).After-index_mut) c.index_mut.ensures.value step

-- the station stands on the shelf
stands : (c : After-index_mut) → StandsAt c.args.i c.team.inside.shelf c.index_mut.result.now
stands c =
    let t = c.team.inside in
    let low = there c in
    subst (StandsAt c.args.i t.shelf) (sym (get_or_read t.stations.items c.args.i c.index_mut.result.now low c.index_mut.ensures.value no_station)) (c.team.invariant.each c.args.i low)

pub step-stepped-requires-clause-stands : goal.step-stepped-requires-clause-stands
step-stepped-requires-clause-stands c = stands (goal.at.step-stepped-requires-clause-stands c).After-index_mut

-- and all of them after it
pub invariant_of-team : goal.invariant_of-team
invariant_of-team c =
    let from = (goal.at.invariant_of-team c).After-index_mut in
    let t = c.team.inside in
    let e = c.step-stepped.ensures in
    let low = there from in
    at-set t.shelf c.step-stepped.new.shelf t.stations.items c.args.i c.step-stepped.new.self low
    (e.same ∙ ap bare_station (get_or_read t.stations.items c.args.i c.index_mut.result.now low c.index_mut.ensures.value no_station))
    e.logs e.sources e.moves.own.count c.team.invariant

pub step-stepped-requires-clause-made_for : goal.step-stepped-requires-clause-made_for
step-stepped-requires-clause-made_for c =
    ap (λ (l : LiveGraph). l.graph) c.requires.made_for
    ∙ ap (λ (w : LineWorker). w.live.graph) (sym c.self.view_is)
    ∙ sym (is-member (goal.at.step-stepped-requires-clause-made_for c).After-index_mut).graph

pub step-stepped-requires-clause-turns : goal.step-stepped-requires-clause-turns
step-stepped-requires-clause-turns c = subst (λ (s : WorkStation). s.turns < 2 ^ 40) (sym (is-found (goal.at.step-stepped-requires-clause-turns c).After-index_mut)) c.requires.turns

pub step-stepped-requires-clause-seated : goal.step-stepped-requires-clause-seated
step-stepped-requires-clause-seated c = (is-member (goal.at.step-stepped-requires-clause-seated c).After-index_mut).seated

pub step-stepped-requires-clause-may_put : goal.step-stepped-requires-clause-may_put
step-stepped-requires-clause-may_put c =
    let m = is-member (goal.at.step-stepped-requires-clause-may_put c).After-index_mut in
    kept-may_put c.team.inside.shelf.queues c.index_mut.result.now m.station m.kept

pub invariant_of-self : goal.invariant_of-self
invariant_of-self c = (after c).0

pub returns-clause-stepped : goal.returns-clause-stepped
returns-clause-stepped c =
    subst (λ (w : LineWorker). SteppedAt c.args.i w.team (record { stations = set c.team.inside.stations.items c.args.i c.step-stepped.new.self; shelf = c.step-stepped.new.shelf.queues })) c.self.view_is (after c).1

pub returns-clause-fired : goal.returns-clause-fired
returns-clause-fired c =
    let before = (goal.at.returns-clause-fired c).After-index_mut in
    let here = ap dates_of (get_or-set_same c.team.inside.stations.items c.args.i c.step-stepped.new.self no_station (there before)) in
    let was = ap dates_of (is-found before) in
    let did = c.step-stepped.ensures.did in
    elim c.match-matches.branch [
      | in-Fired w ↦
          let fired = subst HasFired (sym w.in-Fired.is) tt in
          omega (arith, here, was, more-did _ _ _ _ _ fired did, cond-true {A = ℕ} c.match-matches.matches 1 0 w.matches-is)
      | in_default w ↦
          omega (arith, here, was, none-did _ _ _ _ _ w.in_default.not-Fired did, cond-false {A = ℕ} c.match-matches.matches 1 0 w.matches-is)
    ]

pub returns-clause-worker : goal.returns-clause-worker
returns-clause-worker c = invariant_of-self c
