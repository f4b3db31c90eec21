use Rattle.std.proofs.Common.{◌∷◌, [], ap, ◌∙◌}
use Rattle.station_step.specs.Shelf.{later_by}
use Rattle.station_step.specs.declared.tally.Origin.{Origin}
use Rattle.station_step.proofs.Queues.{front-date, front-first}
use Rattle.station_step.proofs.tally.Tally.take.Goals as goal

pub returns-in-Some-clause-front : goal.returns-in-Some-clause-front
returns-in-Some-clause-front c room is =
    ap (λ n. n ∷ []) (c.saturating_add.ensures
    ∙ ap (λ n. later_by n c.in-Some.date) (ap (λ (o : Origin). o.delay) c.requires.origin)
    ∙ ap (later_by c.args.self.now.source.delay) c.in-Some.ensures.date)
    ∙ front-date c.args.firsts.now room c.args.logs.now c.args.self.now is c.in-Some.ensures.past c.in-Some.ensures.more

pub returns-clause-front : goal.returns-clause-front
returns-clause-front c room is =
    front-first c.args.firsts.now room c.args.logs.now c.args.self.now is c.take_first.result c.take_date.new.self c.in_default.ensures.stays c.take_first.ensures.before c.take_first.ensures.token c.take_first.ensures.none c.in_default.ensures.none
