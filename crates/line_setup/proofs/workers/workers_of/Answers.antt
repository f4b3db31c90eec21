use Rattle.std.proofs.Common.{◌≡◌, ℕ, ◌+◌, ◌<◌, List, [], ◌∷◌, ◌++◌, length, get_or, drop, ap, ◌∙◌, sym, subst, arith, length-append}
use Rattle.std.proofs.lemmas.Result.{IfOk-from_err}
use Rattle.event_graph.specs.Network.{stations}
use Rattle.line_worker.specs.Share.{first_of}
use Rattle.line_worker.specs.Team.{WorkTeam, IsTeam}
use Rattle.line_worker.specs.Teams.{team_at}
use Rattle.line_worker.specs.Worker.{LineWorker}
use Rattle.line_setup.specs.NewWorkers.{AreNewWorkers, AreMakingWorkers}
use Rattle.line_setup.proofs.NewWorkers.{making_begins, making_goes_on, next-team, some-taken, none-left, team-fits, team-size, new_workers, held_some}
use Rattle.line_setup.proofs.workers.workers_of.Goals as goal
use Rattle.line_setup.proofs.workers.workers_of.Goals.{In-Some}

pub loop-team-init : goal.loop-team-init
loop-team-init c =
    let start = c.args.start.now in
    let teams = c.into_iter-team-iterator.result.rest.items in
    let none = c.in_ok-workers.ensures.items in
    record {
      making =
          subst (λ (l : List LineWorker). AreMakingWorkers start.live.now start.state.now.state start.worker_count start.room teams teams l (length l)) (sym none)
          (making_begins start.live.now start.state.now.state start.worker_count start.room teams);
      few = omega (arith, ap length none);
      room = omega (arith, c.in_ok-workers.ensures.capacity);
    }

-- the workers that are made, of the teams of the line
making : (c : In-Some) → AreMakingWorkers c.args.start.now.live.now c.args.start.now.state.now.state c.args.start.now.worker_count c.args.start.now.room c.in_ok-teams.teams.items c.loop-team.team-iterator.rest.items c.loop-team.workers.items (length c.loop-team.workers.items)
making c =
    let start = c.args.start.now in
    let workers = c.loop-team.workers.items in
    subst (λ (l : List WorkTeam). AreMakingWorkers start.live.now start.state.now.state start.worker_count start.room l c.loop-team.team-iterator.rest.items workers (length workers)) c.into_iter-team-iterator.ensures.into_iter_gives.0 c.loop-team.invariant.making

-- they are fewer than all
fewer : (c : In-Some) → length c.loop-team.workers.items < c.args.start.now.worker_count
fewer c =
    let start = c.args.start.now in
    some-taken start.live.now start.state.now.state start.worker_count start.room c.in_ok-teams.teams.items c.in_ok-teams.ensures.count c.loop-team.team-iterator.rest.items c.next.new.self.rest.items c.loop-team.workers.items (length c.loop-team.workers.items) c.in-Some.team (making c) c.in-Some.ensures.steps.0

-- what is taken is the team of the next worker
team_is : (c : In-Some) → c.in-Some.team ≡ team_at c.in_ok-teams.teams.items (length c.loop-team.workers.items)
team_is c =
    let start = c.args.start.now in
    let team = c.in-Some.team in
    sym (ap (λ (l : List WorkTeam). get_or l 0 team) c.in-Some.ensures.steps.0)
    ∙ next-team start.live.now start.state.now.state start.worker_count start.room c.in_ok-teams.teams.items c.in_ok-teams.ensures.count c.loop-team.team-iterator.rest.items c.loop-team.workers.items (length c.loop-team.workers.items) (making c) (fewer c) team

pub overflow_cast-worker_number : goal.overflow_cast-worker_number
overflow_cast-worker_number c =
    omega (arith, c.len-worker_number.ensures, c.loop-team.workers.ok.0, fewer (goal.at.overflow_cast-worker_number c).In-Some, c.requires.may_begin.few)

pub of-requires-clause-worker_number : goal.of-requires-clause-worker_number
of-requires-clause-worker_number c =
    omega (arith, c.len-worker_number.ensures, c.loop-team.workers.ok.0, fewer (goal.at.of-requires-clause-worker_number c).In-Some)

pub push_reserved-requires : goal.push_reserved-requires
push_reserved-requires c =
    omega (arith, c.loop-team.workers.ok.0, c.loop-team.invariant.room, fewer (goal.at.push_reserved-requires c).In-Some)

pub of-requires-clause-team : goal.of-requires-clause-team
of-requires-clause-team c =
    let from = (goal.at.of-requires-clause-team c).In-Some in
    let start = c.args.start.now in
    let live = start.live.now in
    let begun = start.state.now.state in
    let made = c.in_ok-teams.ensures in
    let w : c.len-worker_number.result ≡ length c.loop-team.workers.items = omega (arith, c.len-worker_number.ensures, c.loop-team.workers.ok.0) in
    let first = first_of start.worker_count (stations live.graph) in
    subst (λ (n : ℕ). IsTeam live.graph begun (first n) c.in-Some.team) (sym w) (
    subst (λ (team : WorkTeam). IsTeam live.graph begun (first (length c.loop-team.workers.items)) team) (sym (team_is from)) (
    team-fits live begun start.worker_count start.room c.in_ok-teams.teams.items made.count made.teams.teams_are (length c.loop-team.workers.items) (fewer from)))

pub of-requires-clause-size : goal.of-requires-clause-size
of-requires-clause-size c =
    let from = (goal.at.of-requires-clause-size c).In-Some in
    let start = c.args.start.now in
    let live = start.live.now in
    let made = c.in_ok-teams.ensures in
    let w : c.len-worker_number.result ≡ length c.loop-team.workers.items = omega (arith, c.len-worker_number.ensures, c.loop-team.workers.ok.0) in
    let first = first_of start.worker_count (stations live.graph) in
    subst (λ (n : ℕ). first n + length c.in-Some.team.stations ≡ first (n + 1)) (sym w) (
    subst (λ (team : WorkTeam). first (length c.loop-team.workers.items) + length team.stations ≡ first (length c.loop-team.workers.items + 1)) (sym (team_is from)) (
    team-size live start.state.now.state start.worker_count start.room c.in_ok-teams.teams.items made.count made.teams.teams_are (length c.loop-team.workers.items) (fewer from)))

pub returns-in_err-workers : goal.returns-in_err-workers
returns-in_err-workers c =
    let start = c.args.start.now in
    IfOk-from_err c.from_residual-in_err-workers.result (λ workers. AreNewWorkers start.live.now start.state.now.state start.worker_count start.room workers.items) c.from_residual-in_err-workers.ensures.0

pub returns-in_err-worker : goal.returns-in_err-worker
returns-in_err-worker c =
    let start = c.args.start.now in
    IfOk-from_err c.from_residual-in_err-worker.result (λ workers. AreNewWorkers start.live.now start.state.now.state start.worker_count start.room workers.items) c.from_residual-in_err-worker.ensures.0

pub returns-in_err-teams : goal.returns-in_err-teams
returns-in_err-teams c =
    let start = c.args.start.now in
    IfOk-from_err c.from_residual.result (λ workers. AreNewWorkers start.live.now start.state.now.state start.worker_count start.room workers.items) c.from_residual.ensures.0

pub loop-team-preserved : goal.loop-team-preserved
loop-team-preserved c =
    let from = (goal.at.loop-team-preserved c).In-Some in
    let teams = c.in_ok-teams.teams.items in
    let left = c.loop-team.team-iterator.rest.items in
    let rest = c.next.new.self.rest.items in
    let workers = c.loop-team.workers.items in
    let made = length workers in
    let e = c.in_ok-worker.ensures in
    let worker = c.in_ok-worker.worker in
    let t = c.in_ok-teams.ensures in
    let start = c.args.start.now in
    let live = start.live.now in
    let begun = start.state.now.state in
    let w : c.len-worker_number.result ≡ made = omega (arith, c.len-worker_number.ensures, c.loop-team.workers.ok.0) in
    let more =
    making_goes_on live begun start.worker_count start.room teams t.count t.teams.teams_are left rest workers made worker (making from) (sym (ap (drop 1) c.in-Some.ensures.steps.0))
    (record { worker = e.worker; live_is = e.live; begun_is = e.begun; workers_are = e.worker_count; room_is = e.room; worker_is = e.worker_number ∙ w; team_is = e.team ∙ team_is from }) in
    record {
      making =
          subst (λ (l : List WorkTeam). AreMakingWorkers live begun start.worker_count start.room l rest c.push_reserved.new.self.items (length c.push_reserved.new.self.items)) (sym c.into_iter-team-iterator.ensures.into_iter_gives.0) (
          subst (λ (l : List LineWorker). AreMakingWorkers live begun start.worker_count start.room teams rest l (length l)) (sym c.push_reserved.ensures.items) (
          subst (AreMakingWorkers live begun start.worker_count start.room teams rest (workers ++ worker ∷ [])) (sym (length-append workers (worker ∷ []))) more));
      few = omega (arith, ap length c.push_reserved.ensures.items, length-append workers (worker ∷ []), fewer from);
      room = omega (arith, c.loop-team.invariant.room, c.push_reserved.ensures.capacity);
    }

pub returns : goal.returns
returns c =
    let start = c.args.start.now in
    let live = start.live.now in
    let begun = start.state.now.state in
    let teams = c.in_ok-teams.teams.items in
    let made = c.in_ok-teams.ensures in
    let left = c.loop-team.team-iterator.rest.items in
    let workers = c.loop-team.workers.items in
    let inv =
    subst (λ (l : List WorkTeam). AreMakingWorkers live begun start.worker_count start.room l left workers (length workers)) c.into_iter-team-iterator.ensures.into_iter_gives.0 c.loop-team.invariant.making in
    let all : length workers ≡ start.worker_count =
    none-left live begun start.worker_count start.room teams made.count left workers (length workers) inv (omega (arith, c.in-None.ensures.steps.0, c.loop-team.team-iterator.rest.ok.0)) c.loop-team.invariant.few in
    new_workers live begun start.worker_count start.room teams made.count made.teams.teams_are c.requires.may_begin.some (held_some start.room live.graph begun c.requires.may_begin.fits) made.teams.rooms_are made.teams.met made.teams.begun_are left workers (
    subst (AreMakingWorkers live begun start.worker_count start.room teams left workers) all inv)
