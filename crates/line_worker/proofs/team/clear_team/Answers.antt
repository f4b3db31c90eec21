use Rattle.std.proofs.Common.{List, sym, subst}
use Rattle.station_step.specs.Station.{WorkStation}
use Rattle.line_worker.specs.Team.{AreAt}
use Rattle.line_worker.proofs.Posts.{at-cleared}
use Rattle.line_worker.proofs.team.clear_team.Goals as goal

pub invariant_of-team : goal.invariant_of-team
invariant_of-team c =
    let t = c.team.inside in
    subst (λ (l : List WorkStation). AreAt t.shelf l) (sym c.clear_stations.ensures) (at-cleared t.shelf t.stations.items c.team.invariant)
