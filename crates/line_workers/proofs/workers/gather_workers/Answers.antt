use Rattle.line_workers.proofs.TurnsCleared.{workers_of_line, workers_met, workers-few, gathers}
use Rattle.line_workers.proofs.workers.gather_workers.Goals as goal

pub meet_all-requires-clause-workers : goal.meet_all-requires-clause-workers
meet_all-requires-clause-workers c =
    (workers_of_line c.args.live.now c.args.workers.now c.clear_workers.new.workers c.requires.workers c.requires.made_for c.clear_workers.ensures).0

pub meet_all-requires-clause-made_for : goal.meet_all-requires-clause-made_for
meet_all-requires-clause-made_for c =
    (workers_of_line c.args.live.now c.args.workers.now c.clear_workers.new.workers c.requires.workers c.requires.made_for c.clear_workers.ensures).1

pub meet_all-requires-clause-few : goal.meet_all-requires-clause-few
meet_all-requires-clause-few c =
    workers-few c.clear_workers.new.workers (workers_of_line c.args.live.now c.args.workers.now c.clear_workers.new.workers c.requires.workers c.requires.made_for c.clear_workers.ensures).0

pub dates_of-requires-clause-workers : goal.dates_of-requires-clause-workers
dates_of-requires-clause-workers c =
    let e = c.meet_all.ensures in
    (workers_met c.args.live.now c.args.workers.now c.clear_workers.new.workers c.meet_all.new.workers c.requires.workers c.requires.made_for c.clear_workers.ensures e.same e.worked).0

pub dates_of-requires-clause-few : goal.dates_of-requires-clause-few
dates_of-requires-clause-few c =
    let e = c.meet_all.ensures in
    (workers_met c.args.live.now c.args.workers.now c.clear_workers.new.workers c.meet_all.new.workers c.requires.workers c.requires.made_for c.clear_workers.ensures e.same e.worked).1

pub returns : goal.returns
returns c =
    let e = c.meet_all.ensures in
    gathers c.args.live.now c.args.workers.now c.clear_workers.new.workers c.meet_all.new.workers c.dates_of.result c.requires.workers c.requires.made_for c.clear_workers.ensures e.same e.worked e.still e.met c.dates_of.ensures
