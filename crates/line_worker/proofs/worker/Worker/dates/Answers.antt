use Rattle.std.proofs.Common.{length, ap, ◌∙◌, subst, arith}
use Rattle.std.proofs.lemmas.List.{length-map}
use Rattle.std.specs.List.{sum_by}
use Rattle.line_base.specs.declared.limits.TheConstants.{MAX_DEMANDS}
use Rattle.line_worker.specs.Logs.{dates_in, log_of}
use Rattle.line_worker.specs.contracts.worker.Worker.{the_view}
use Rattle.line_worker.specs.Worker.{LineWorker, IsWorker}
use Rattle.line_worker.specs.Work.{dates_made}
use Rattle.line_worker.proofs.StationCounts.{dates-few, target-few, worker-few}
use Rattle.line_worker.proofs.Posts.{dates-map, logs-few}
use Rattle.line_worker.proofs.worker.Worker.dates.Goals as goal

pub returns-clause-dates : goal.returns-clause-dates
returns-clause-dates c =
    c.dates_made.ensures.dates
    ∙ ap (sum_by dates_in) c.logs.ensures
    ∙ dates-map c.self.inside.team.stations
    ∙ ap (λ (w : LineWorker). dates_made w.team) c.self.view_is

pub dates_made-requires-clause-few : goal.dates_made-requires-clause-few
dates_made-requires-clause-few c =
    let seen = the_view c.self.inside in
    logs-few c.logs.result.now.items seen.team.stations MAX_DEMANDS c.logs.ensures
    (λ i low. omega (arith, dates-few seen i c.self.invariant low, target-few seen c.self.invariant))

pub dates_made-requires-clause-count : goal.dates_made-requires-clause-count
dates_made-requires-clause-count c =
    let seen = the_view c.self.inside in
    omega (arith, worker-few seen c.self.invariant, ap length c.logs.ensures, length-map seen.team.stations log_of)

pub returns-clause-few : goal.returns-clause-few
returns-clause-few c = c.dates_made.ensures.few

pub returns-clause-worker : goal.returns-clause-worker
returns-clause-worker c = subst IsWorker c.self.view_is c.self.invariant
