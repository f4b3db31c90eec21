use Rattle.std.proofs.Common.{◌∙◌}
use Rattle.event_graph.proofs.ArcNumbers.{All-ins}
use Rattle.station_step.proofs.NotedExtras.{extras-into}
use Rattle.station_step.proofs.noted.note_job.Goals as goal

pub returns-then-not-fixed-clause-extras : goal.returns-then-not-fixed-clause-extras
returns-then-not-fixed-clause-extras c =
    c.note_time.ensures.extras
    ∙ extras-into c.args.graph.now c.args.t c.args.job c.time.result c.args.worked.now c.requires.worked c.time.ensures.time (All-ins c.args.graph.now c.args.t)
