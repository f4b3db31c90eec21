use Rattle.std.proofs.Common.{◌≡◌, ◌<◌, length, ap, sym, subst, arith}
use Rattle.station_step.specs.Ends.{AreEnds}
use Rattle.station_step.specs.Input.{input_at}
use Rattle.station_step.specs.Station.{WorkStation, outlet_at}
use Rattle.line_worker.specs.Team.{WorkTeam, member}
use Rattle.line_worker.proofs.MetStations.{team-found, outlet-met, inlet-met, are-met}
use Rattle.line_worker.proofs.TeamSteps.{team-met}
use Rattle.line_worker.proofs.Posts.{at-met}
use Rattle.line_worker.proofs.team.meet_teams.Goals as goal
use Rattle.line_worker.proofs.team.meet_teams.Goals.{After-index_mut-2}

pub returns-clause-from_team : goal.returns-clause-from_team
returns-clause-from_team c g begun first =
    let e = c.meet_at.ensures in
    let shelf = c.from.inside.shelf.queues in
    team-met g begun first c.from.inside.stations.items shelf c.args.from.now c.args.i c.index_mut.result.now c.meet_at.new.from c.from.view_is c.requires.from c.index_mut.ensures.value e.from_bare (ap (λ (s : WorkStation). s.log) e.from) e.from_station (e.from_kept shelf)

pub returns-clause-to_team : goal.returns-clause-to_team
returns-clause-to_team c g begun first =
    let e = c.meet_at.ensures in
    let shelf = c.to.inside.shelf.queues in
    team-met g begun first c.to.inside.stations.items shelf c.args.to.now c.args.j c.index_mut-2.result.now c.meet_at.new.to c.to.view_is c.requires.to c.index_mut-2.ensures.value e.to_bare (ap (λ (s : WorkStation). s.log) e.to) e.to_station (e.to_kept shelf)

pub invariant_of-from : goal.invariant_of-from
invariant_of-from c =
    let e = c.meet_at.ensures in
    let t = c.from.inside in
    at-met t.shelf t.stations.items c.args.from.now c.args.i c.index_mut.result.now c.meet_at.new.from c.from.view_is c.requires.from c.index_mut.ensures.value e.from_bare (ap (λ (s : WorkStation). s.log) e.from) c.from.invariant

pub invariant_of-to : goal.invariant_of-to
invariant_of-to c =
    let e = c.meet_at.ensures in
    let t = c.to.inside in
    at-met t.shelf t.stations.items c.args.to.now c.args.j c.index_mut-2.result.now c.meet_at.new.to c.to.view_is c.requires.to c.index_mut-2.ensures.value e.to_bare (ap (λ (s : WorkStation). s.log) e.to) c.to.invariant

-- the stations that meet, as the teams have them
from_is : (c : After-index_mut-2) → c.index_mut.result.now ≡ member c.args.from.now.stations c.args.i
from_is c = team-found c.from.inside.stations.items c.from.inside.shelf.queues c.args.from.now c.args.i c.index_mut.result.now c.from.view_is c.requires.from c.index_mut.ensures.value

to_is : (c : After-index_mut-2) → c.index_mut-2.result.now ≡ member c.args.to.now.stations c.args.j
to_is c = team-found c.to.inside.stations.items c.to.inside.shelf.queues c.args.to.now c.args.j c.index_mut-2.result.now c.to.view_is c.requires.to c.index_mut-2.ensures.value

pub meet_at-requires-clause-output : goal.meet_at-requires-clause-output
meet_at-requires-clause-output c =
    subst (λ (s : WorkStation). c.args.k < length s.outlets) (sym (from_is c)) c.requires.output

pub meet_at-requires-clause-input : goal.meet_at-requires-clause-input
meet_at-requires-clause-input c =
    subst (λ (s : WorkStation). c.args.l < length s.inputs) (sym (to_is c)) c.requires.input

pub meet_at-requires-clause-ends : goal.meet_at-requires-clause-ends
meet_at-requires-clause-ends c =
    let out = outlet_at c.index_mut.result.now.outlets c.args.k in
    let into = (input_at (member c.args.to.now.stations c.args.j).inputs c.args.l).inlet in
    subst (λ (s : WorkStation). AreEnds out (input_at s.inputs c.args.l).inlet) (sym (to_is c)) (
    subst (λ (s : WorkStation). AreEnds (outlet_at s.outlets c.args.k) into) (sym (from_is c)) c.requires.ends)

pub returns-clause-from : goal.returns-clause-from
returns-clause-from c =
    let e = c.meet_at.ensures in
    outlet-met c.from.inside.stations.items c.from.inside.shelf.queues c.args.from.now c.args.i c.args.k c.index_mut.result.now c.meet_at.new.from c.from.view_is c.requires.from c.index_mut.ensures.value e.from e.outlet e.from_bare

pub returns-clause-to : goal.returns-clause-to
returns-clause-to c =
    let e = c.meet_at.ensures in
    inlet-met c.to.inside.stations.items c.to.inside.shelf.queues c.args.to.now c.args.j c.args.l c.index_mut-2.result.now c.meet_at.new.to c.to.view_is c.requires.to c.index_mut-2.ensures.value e.to e.inlet e.to_bare

pub returns-clause-met : goal.returns-clause-met
returns-clause-met c =
    are-met c.from.inside.stations.items c.to.inside.stations.items c.args.i c.args.j c.args.k c.args.l c.meet_at.new.from c.meet_at.new.to
    (omega (arith, c.requires.from, ap (λ (t : WorkTeam). length t.stations) c.from.view_is))
    (omega (arith, c.requires.to, ap (λ (t : WorkTeam). length t.stations) c.to.view_is))
    c.meet_at.ensures.met
