use Rattle.std.proofs.Common.{◌<◌, length, ap, ◌∙◌, arith}
use Rattle.line_base.specs.Roomy.{RoomyLog}
use Rattle.line_worker.specs.Team.{WorkTeam, member}
use Rattle.line_worker.proofs.team.Team.log.Goals as goal

pub log-requires : goal.log-requires
log-requires c =
    omega (arith, c.requires, c.self.invariant.count, ap (λ (t : WorkTeam). length t.stations) c.self.view_is)

pub returns : goal.returns
returns c =
    let i = c.args.i in
    let there : i < length c.self.inside.stations.items = omega (arith, c.requires, ap (λ (t : WorkTeam). length t.stations) c.self.view_is) in
    c.dates.ensures
    ∙ ap (λ (l : RoomyLog). l.dates) c.log.ensures
    ∙ ap (λ (l : RoomyLog). l.dates) (c.self.invariant.each i there).log
    ∙ ap (λ (t : WorkTeam). (member t.stations i).log.dates) c.self.view_is
