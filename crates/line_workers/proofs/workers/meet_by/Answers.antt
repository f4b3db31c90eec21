use Rattle.std.proofs.Common.{sym, subst}
use Rattle.live_check.specs.Order.{LiveGraph}
use Rattle.line_worker.specs.Teams.{AreAllMet}
use Rattle.line_worker.specs.Worker.{teams_of}
use Rattle.line_workers.specs.Meeting.{AreStill}
use Rattle.line_workers.proofs.workers.meet_by.Goals as goal

pub returns-in-Listed-clause-same : goal.returns-in-Listed-clause-same
returns-in-Listed-clause-same c = c.meet_listed.ensures.same

pub returns-in-Listed-clause-worked : goal.returns-in-Listed-clause-worked
returns-in-Listed-clause-worked c = c.meet_listed.ensures.worked

pub returns-in-Listed-clause-still : goal.returns-in-Listed-clause-still
returns-in-Listed-clause-still c =
    subst (λ (v : LiveGraph). AreStill v.graph (teams_of c.args.workers.now) (teams_of c.meet_listed.new.workers)) (sym c.requires.made_for) c.meet_listed.ensures.still

pub returns-in-Listed-clause-met : goal.returns-in-Listed-clause-met
returns-in-Listed-clause-met c =
    subst (λ (v : LiveGraph). AreAllMet v.graph (teams_of c.meet_listed.new.workers)) (sym c.requires.made_for) c.meet_listed.ensures.met
