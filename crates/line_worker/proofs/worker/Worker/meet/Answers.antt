use Rattle.std.proofs.Common.{◌<◌, length, refl, sym, subst}
use Rattle.std.proofs.lemmas.List.{length-set}
use Rattle.station_step.specs.Ends.{AreEnds}
use Rattle.station_step.specs.Input.{input_at}
use Rattle.station_step.specs.Station.{outlet_at}
use Rattle.line_worker.specs.contracts.worker.Worker.{the_view}
use Rattle.line_worker.specs.Team.{member}
use Rattle.line_worker.specs.Worker.{LineWorker, with_team}
use Rattle.line_worker.specs.Workers.{IsSameWorker}
use Rattle.line_worker.specs.Meeting.{OutletMet, InletMet}
use Rattle.line_worker.proofs.TeamSteps.{worker-met}
use Rattle.line_worker.proofs.worker.Worker.meet.Goals as goal

pub invariant_of-self : goal.invariant_of-self
invariant_of-self c =
    let seen : LineWorker = the_view c.self.inside in
    let e = c.meet_teams.ensures in
    worker-met seen _ c.meet_teams.new.from c.self.invariant e.from.only (length-set seen.team.stations c.args.i _) e.from_team

pub invariant_of-to : goal.invariant_of-to
invariant_of-to c =
    let seen : LineWorker = the_view c.to.inside in
    let e = c.meet_teams.ensures in
    worker-met seen _ c.meet_teams.new.to c.to.invariant e.to.only (length-set seen.team.stations c.args.j _) e.to_team

pub meet_teams-requires-clause-from : goal.meet_teams-requires-clause-from
meet_teams-requires-clause-from c = subst (λ (w : LineWorker). c.args.i < length w.team.stations) (sym c.self.view_is) c.requires.from

pub meet_teams-requires-clause-output : goal.meet_teams-requires-clause-output
meet_teams-requires-clause-output c =
    subst (λ (w : LineWorker). c.args.k < length (member w.team.stations c.args.i).outlets) (sym c.self.view_is) c.requires.output

pub meet_teams-requires-clause-to : goal.meet_teams-requires-clause-to
meet_teams-requires-clause-to c = subst (λ (w : LineWorker). c.args.j < length w.team.stations) (sym c.to.view_is) c.requires.to

pub meet_teams-requires-clause-input : goal.meet_teams-requires-clause-input
meet_teams-requires-clause-input c =
    subst (λ (w : LineWorker). c.args.l < length (member w.team.stations c.args.j).inputs) (sym c.to.view_is) c.requires.input

pub meet_teams-requires-clause-ends : goal.meet_teams-requires-clause-ends
meet_teams-requires-clause-ends c =
    let into = (input_at (member c.args.to.now.team.stations c.args.j).inputs c.args.l).inlet in
    let out = outlet_at (member (the_view c.self.inside).team.stations c.args.i).outlets c.args.k in
    subst (λ (w : LineWorker). AreEnds out (input_at (member w.team.stations c.args.j).inputs c.args.l).inlet) (sym c.to.view_is) (
    subst (λ (w : LineWorker). AreEnds (outlet_at (member w.team.stations c.args.i).outlets c.args.k) into) (sym c.self.view_is) c.requires.ends)

pub returns-clause-from_same : goal.returns-clause-from_same
returns-clause-from_same c =
    subst (λ (w : LineWorker). IsSameWorker w (with_team (the_view c.self.inside) c.meet_teams.new.from)) c.self.view_is (record { worker = invariant_of-self c; frame = refl })

pub returns-clause-to_same : goal.returns-clause-to_same
returns-clause-to_same c =
    subst (λ (w : LineWorker). IsSameWorker w (with_team (the_view c.to.inside) c.meet_teams.new.to)) c.to.view_is (record { worker = invariant_of-to c; frame = refl })

pub returns-clause-from : goal.returns-clause-from
returns-clause-from c = subst (λ (w : LineWorker). OutletMet c.args.i c.args.k w.team c.meet_teams.new.from) c.self.view_is c.meet_teams.ensures.from

pub returns-clause-to : goal.returns-clause-to
returns-clause-to c = subst (λ (w : LineWorker). InletMet c.args.j c.args.l w.team c.meet_teams.new.to) c.to.view_is c.meet_teams.ensures.to

pub returns-clause-met : goal.returns-clause-met
returns-clause-met c = c.meet_teams.ensures.met
