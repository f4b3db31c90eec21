use Rattle.std.proofs.Common.{ℕ, Option, subst, arith}
use Rattle.std.specs.Prelude.{IfOk}
use Rattle.line_setup.specs.Making.{AreAllNew}
use Rattle.line_setup.proofs.NewTeams.{all_new_ok, laid_fit_from, laid_sources}
use Rattle.line_setup.proofs.making.teams_of.Goals as goal

pub new_teams-teams-requires-clause-fit : goal.new_teams-teams-requires-clause-fit
new_teams-teams-requires-clause-fit c =
    let start = c.args.start.now in
    laid_fit_from start.live.now.graph start.state.now.state start.worker_count c.in_ok-ends.ends c.in_ok-ends.ensures.sound c.in_ok-ends.ensures.laid

pub new_teams-teams-requires-clause-each_shelf : goal.new_teams-teams-requires-clause-each_shelf
new_teams-teams-requires-clause-each_shelf c w =
    let laid = c.in_ok-ends.ensures in
    record { few = omega (arith, laid.laid.queues w, laid.few_arcs); small = laid.laid.small w }

pub returns-clause-teams : goal.returns-clause-teams
returns-clause-teams c =
    let start = c.args.start.now in
    let laid = c.in_ok-ends.ensures in
    let made = c.new_teams-teams.ensures in
    subst (λ (r : Option ℕ). IfOk c.new_teams-teams.result (λ teams. AreAllNew r start.live.now.graph start.state.now.state teams.items)) laid.room (
    all_new_ok start.live.now.graph start.state.now.state start.worker_count c.in_ok-ends.ends c.new_teams-teams.result laid.sound laid.some_station c.requires.some laid.laid made.count made.teams)

pub new_teams-teams-requires-clause-sources : goal.new_teams-teams-requires-clause-sources
new_teams-teams-requires-clause-sources c w low =
    let start = c.args.start.now in
    let laid = c.in_ok-ends.ensures in
    laid_sources start.live.now.graph start.state.now.state start.worker_count c.in_ok-ends.ends laid.sound laid.laid w laid.some_station c.requires.some
