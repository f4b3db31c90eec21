use Rattle.std.proofs.Common.{length, ap, ◌∙◌, subst, arith}
use Rattle.line_worker.specs.Team.{member}
use Rattle.line_worker.specs.Worker.{LineWorker, IsWorker}
use Rattle.line_worker.proofs.worker.Worker.log.Goals as goal

pub log-requires : goal.log-requires
log-requires c = omega (arith, c.requires, ap (λ (w : LineWorker). length w.team.stations) c.self.view_is)

pub returns-clause-log : goal.returns-clause-log
returns-clause-log c =
    c.log.ensures ∙ ap (λ (w : LineWorker). (member w.team.stations c.args.i).log.dates) c.self.view_is

pub returns-clause-worker : goal.returns-clause-worker
returns-clause-worker c = subst IsWorker c.self.view_is c.self.invariant
