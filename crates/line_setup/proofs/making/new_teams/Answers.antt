use Rattle.std.proofs.Common.{ℕ, ◌+◌, ap, subst, sym, refl, List, length, arith}
use Rattle.std.proofs.lemmas.List.{length_push}
use Rattle.std.proofs.lemmas.Result.{err_from_is_err_and}
use Rattle.event_graph.specs.Network.{stations}
use Rattle.line_worker.specs.Share.{first_of}
use Rattle.line_worker.specs.Team.{WorkTeam}
use Rattle.line_setup.specs.Making.{AreNewTeams, MayShelve}
use Rattle.line_setup.proofs.MadeStations.{sources-same, fit-same, same-then, shelves-then, team-same, one_more_team, next-rises}
use Rattle.line_setup.proofs.making.new_teams.Goals as goal

pub new_team-requires-clause-fit : goal.new_team-requires-clause-fit
new_team-requires-clause-fit c =
    let g = c.args.live.now.graph in
    fit-same g c.args.state.now.state 0 (first_of c.args.worker_count (stations g) c.loop-worker_number.worker_number) c.args.ends.now c.loop-worker_number.ends (omega arith) c.loop-worker_number.invariant.rest c.requires.fit

pub new_team-requires-clause-shelf : goal.new_team-requires-clause-shelf
new_team-requires-clause-shelf c =
    let w = c.loop-worker_number.worker_number in
    subst (λ (l : List (List ℕ)). MayShelve c.args.live.now.graph l) (sym (c.loop-worker_number.invariant.shelves.shelves w (omega arith))) (
    c.requires.each_shelf w)

pub loop-worker_number-preserved : goal.loop-worker_number-preserved
loop-worker_number-preserved c =
    let g = c.args.live.now.graph in
    let begun = c.args.state.now.state in
    let worker_count = c.args.worker_count in
    let w = c.loop-worker_number.worker_number in
    let before = c.loop-worker_number.invariant in
    let pushed = c.push_reserved.ensures.items in
    let made = c.in_ok-team.ensures in
    record {
      count = omega (arith, before.count, ap length pushed, length_push c.loop-worker_number.teams.items c.in_ok-team.team);
      teams =
          subst (λ (l : List WorkTeam). AreNewTeams g begun worker_count c.args.ends.now l) (sym pushed) (
          one_more_team g begun worker_count w c.args.ends.now c.loop-worker_number.teams.items c.in_ok-team.team before.count before.teams (
          team-same g begun worker_count w c.args.ends.now c.loop-worker_number.ends c.in_ok-team.team before.rest before.shelves made.team));
      rest = same-then (first_of worker_count (stations g) w) (first_of worker_count (stations g) (w + 1)) c.args.ends.now c.loop-worker_number.ends c.new_team.new.ends (next-rises worker_count (stations g) w c.requires.some_station c.loop-worker_number-test.true) before.rest made.stations;
      shelves = shelves-then w c.args.ends.now c.loop-worker_number.ends c.new_team.new.ends before.shelves made.shelves;
      room = omega (arith, before.room, c.push_reserved.ensures.capacity);
    }

pub loop-worker_number-init : goal.loop-worker_number-init
loop-worker_number-init c =
    let none = c.in_ok-teams.ensures.items in
    record {
      count = ap length none;
      teams = λ w low. absurd (omega (arith, low, ap length none));
      rest = record { outlet_lists = refl; inlet_lists = refl; outlets = λ u low. refl; inlets = λ u low. refl };
      shelves = record { count = refl; shelves = λ v low. refl; arc_count = refl; arcs = λ v low. refl };
      room = omega (arith, c.in_ok-teams.ensures.capacity);
    }

pub push_reserved-requires : goal.push_reserved-requires
push_reserved-requires c =
    let before = c.loop-worker_number.invariant in
    omega (arith, c.loop-worker_number.teams.ok.0, before.count, before.room, c.loop-worker_number-test.true)

pub new_team-requires-clause-shelves : goal.new_team-requires-clause-shelves
new_team-requires-clause-shelves c = omega (arith, c.loop-worker_number.invariant.shelves.count, c.requires.shelves)

pub returns-in_err-teams : goal.returns-in_err-teams
returns-in_err-teams c = rw (err_from_is_err_and c.from_residual.result c.from_residual.ensures.1).1 (record { count = tt; teams = tt })

pub returns-in_err-team : goal.returns-in_err-team
returns-in_err-team c = rw (err_from_is_err_and c.from_residual-in_err-team.result c.from_residual-in_err-team.ensures.1).1 (record { count = tt; teams = tt })

pub new_team-requires-clause-arcs : goal.new_team-requires-clause-arcs
new_team-requires-clause-arcs c = omega (arith, c.loop-worker_number.invariant.shelves.arc_count, c.requires.arcs)

pub new_team-requires-clause-sources : goal.new_team-requires-clause-sources
new_team-requires-clause-sources c =
    let w = c.loop-worker_number.worker_number in
    let before = c.loop-worker_number.invariant in
    sources-same c.args.live.now.graph c.args.worker_count w c.args.ends.now c.loop-worker_number.ends before.rest before.shelves (c.requires.sources w c.loop-worker_number-test.true)
