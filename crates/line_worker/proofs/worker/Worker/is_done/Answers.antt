use Rattle.std.proofs.Common.{subst}
use Rattle.std.specs.Prelude.{IsTrue, ◌↔◌}
use Rattle.line_worker.specs.contracts.worker.Worker.{the_view}
use Rattle.line_worker.specs.Worker.{LineWorker, IsWorker}
use Rattle.line_worker.specs.Work.{AllDone}
use Rattle.line_worker.proofs.StationCounts.{dates-few}
use Rattle.line_worker.proofs.Posts.{logs-few, all-done, done-all}
use Rattle.line_worker.proofs.worker.Worker.is_done.Goals as goal

pub all_done-requires : goal.all_done-requires
all_done-requires c =
    let seen = the_view c.self.inside in
    logs-few c.logs.result.now.items seen.team.stations c.self.inside.target c.logs.ensures (λ i low. dates-few seen i c.self.invariant low)

pub returns-clause-done : goal.returns-clause-done
returns-clause-done c =
    let seen = the_view c.self.inside in
    let logs = c.logs.result.now.items in
    let known : IsTrue c.all_done.result ↔ AllDone seen.target seen.team = (
      λ is. all-done logs seen.team.stations seen.target c.logs.ensures (c.all_done.ensures.0 is),
      λ done. c.all_done.ensures.1 (done-all logs seen.team.stations seen.target c.logs.ensures done),
    ) in
    subst (λ (w : LineWorker). IsTrue c.all_done.result ↔ AllDone w.target w.team) c.self.view_is known

pub returns-clause-worker : goal.returns-clause-worker
returns-clause-worker c = subst IsWorker c.self.view_is c.self.invariant
