use Rattle.std.proofs.Common.{sym, subst}
use Rattle.line_worker.specs.contracts.worker.Worker.{the_view}
use Rattle.line_worker.specs.Team.{WorkTeam}
use Rattle.line_worker.specs.Worker.{LineWorker, IsWorker, with_team}
use Rattle.line_worker.proofs.Cleared.{worker_cleared}
use Rattle.line_worker.proofs.worker.Worker.clear_turns.Goals as goal

pub invariant_of-self : goal.invariant_of-self
invariant_of-self c =
    let seen : LineWorker = the_view c.self.inside in
    subst (λ (team : WorkTeam). IsWorker (with_team seen team)) (sym c.clear_team.ensures) (worker_cleared seen c.self.invariant)
