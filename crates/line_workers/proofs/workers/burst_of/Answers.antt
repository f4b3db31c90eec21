use Rattle.std.proofs.Common.{◌<◌, length, ap, ◌∙◌, sym, subst, arith}
use Rattle.std.proofs.lemmas.List.{get_or_default}
use Rattle.line_base.specs.declared.event.Parts.{Parts}
use Rattle.live_check.specs.Order.{LiveGraph}
use Rattle.line_worker.specs.Worker.{LineWorker, teams_of}
use Rattle.line_worker.specs.Workers.{no_worker}
use Rattle.line_worker.specs.Teams.{AreAllMet}
use Rattle.line_workers.specs.Burst.{WorkersBurst}
use Rattle.line_workers.specs.Link.{AreLinks}
use Rattle.line_workers.specs.Meeting.{AreStill}
use Rattle.line_workers.proofs.AllBurst.{are-mid, same-mid, workers_burst}
use Rattle.line_workers.proofs.LineBurst.{fired-since, turns-since, turns-below}
use Rattle.line_workers.proofs.workers.burst_of.Given.{Over}
use Rattle.line_workers.proofs.workers.burst_of.Goals.{After-meet_by}
use Rattle.line_workers.proofs.workers.burst_of.Goals as goal

pub work_all-looks-requires-clause-ready : goal.work_all-looks-requires-clause-ready
work_all-looks-requires-clause-ready g c =
    λ κs h k d low. record {
      made_for =
          c.requires.made_for
          ∙ sym (c.requires.workers.lives k low)
          ∙ ap (λ (w : LineWorker). w.live) (get_or_default c.args.workers.now k no_worker d low);
      turns = c.requires.turns k d low;
    }

pub meet_by-requires-clause-workers : goal.meet_by-requires-clause-workers
meet_by-requires-clause-workers g c =
    are-mid c.args.workers.now c.work_all-looks.new.workers c.requires.workers c.work_all-looks.auto.workers c.work_all-looks.ensures.worked

pub meet_by-requires-clause-made_for : goal.meet_by-requires-clause-made_for
meet_by-requires-clause-made_for g c =
    let first : 0 < length c.args.workers.now = omega (arith, c.requires.workers.some) in
    c.requires.made_for
    ∙ sym (ap (λ (w : LineWorker). w.live) ((same-mid c.args.workers.now c.work_all-looks.new.workers c.requires.workers c.work_all-looks.auto.workers c.work_all-looks.ensures.worked).each 0 first).frame)

-- the workers have made a burst
burst : (g : Over) (c : After-meet_by g) → WorkersBurst c.args.workers.now c.meet_by.new.workers
burst g c =
    let old = c.args.workers.now in
    let mid = c.work_all-looks.new.workers in
    let new = c.meet_by.new.workers in
    let m = c.meet_by.ensures in
    let graph = ap (λ (l : LiveGraph). l.graph) c.requires.made_for in
    workers_burst old mid c.requires.workers c.work_all-looks.auto.workers c.work_all-looks.ensures.worked new m.same m.worked
    (subst (λ (h : Parts). AreStill h (teams_of mid) (teams_of new)) graph m.still)
    (subst (λ (h : Parts). AreAllMet h (teams_of new)) graph m.met)

pub dates_of-fired-requires-clause-workers : goal.dates_of-fired-requires-clause-workers
dates_of-fired-requires-clause-workers g c = (burst g (goal.at.dates_of-fired-requires-clause-workers g c).After-meet_by).whole

pub overflow_sub-fired_since : goal.overflow_sub-fired_since
overflow_sub-fired_since g c =
    (fired-since c.args.workers.now c.meet_by.new.workers c.requires.workers (burst g (goal.at.overflow_sub-fired_since g c).After-meet_by) c.args.counts.now.fired c.dates_of-fired.result c.requires.counts.fired c.dates_of-fired.ensures).0

pub turns_of-steps-requires-clause-workers : goal.turns_of-steps-requires-clause-workers
turns_of-steps-requires-clause-workers g c = (burst g (goal.at.turns_of-steps-requires-clause-workers g c).After-meet_by).whole

pub turns_of-steps-requires-clause-turns : goal.turns_of-steps-requires-clause-turns
turns_of-steps-requires-clause-turns g c =
    turns-below c.args.workers.now c.meet_by.new.workers c.requires.workers (burst g (goal.at.turns_of-steps-requires-clause-turns g c).After-meet_by) c.requires.turns

pub overflow_sub-steps_since : goal.overflow_sub-steps_since
overflow_sub-steps_since g c =
    (turns-since c.args.workers.now c.meet_by.new.workers c.requires.workers (burst g (goal.at.overflow_sub-steps_since g c).After-meet_by) c.args.counts.now.steps c.turns_of-steps.result c.requires.counts.steps c.turns_of-steps.ensures).0

pub returns-clause-burst : goal.returns-clause-burst
returns-clause-burst g c = burst g (goal.at.returns-clause-burst g c).After-meet_by

pub returns-clause-fired : goal.returns-clause-fired
returns-clause-fired g c =
    (fired-since c.args.workers.now c.meet_by.new.workers c.requires.workers (burst g (goal.at.returns-clause-fired g c).After-meet_by) c.args.counts.now.fired c.dates_of-fired.result c.requires.counts.fired c.dates_of-fired.ensures).1

pub returns-clause-steps : goal.returns-clause-steps
returns-clause-steps g c =
    (turns-since c.args.workers.now c.meet_by.new.workers c.requires.workers (burst g (goal.at.returns-clause-steps g c).After-meet_by) c.args.counts.now.steps c.turns_of-steps.result c.requires.counts.steps c.turns_of-steps.ensures).1

pub meet_by-requires-clause-links : goal.meet_by-requires-clause-links
meet_by-requires-clause-links g c =
    subst (λ n. AreLinks c.args.live.now.graph n c.args.links.now) (sym c.work_all-looks.auto.workers) c.requires.links
