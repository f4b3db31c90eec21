use Rattle.std.proofs.Common.{◌∙◌}
use Rattle.line_worker.proofs.Posts.{logs-in_team}
use Rattle.line_worker.proofs.team.Team.into_logs.Goals as goal

pub returns : goal.returns
returns c =
    c.into_logs.ensures ∙ logs-in_team c.self.inside.shelf c.self.inside.stations.items c.args.self c.self.view_is c.self.invariant
