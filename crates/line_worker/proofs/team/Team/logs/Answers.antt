use Rattle.std.proofs.Common.{◌∙◌}
use Rattle.line_worker.proofs.Posts.{logs-in_team}
use Rattle.line_worker.proofs.team.Team.logs.Goals as goal

pub returns : goal.returns
returns c =
    c.logs.ensures ∙ logs-in_team c.self.inside.shelf c.self.inside.stations.items c.args.self.now c.self.view_is c.self.invariant
