use Rattle.std.proofs.Common.{◌∙◌, true≢false, sym}
use Rattle.line_workers.proofs.AllWorkers.{may_meet, met_inside, met_between, same_after, workers-stay}
use Rattle.line_workers.proofs.workers.meet_on.Goals as goal

pub returns-then-is_inside-clause-same : goal.returns-then-is_inside-clause-same
returns-then-is_inside-clause-same c = workers-stay c.args.workers.now c.requires.workers

pub returns-then-is_inside-clause-met : goal.returns-then-is_inside-clause-met
returns-then-is_inside-clause-met c =
    met_inside c.args.workers.now c.requires.workers c.args.live.now c.requires.made_for c.args.a c.requires.arc (c.is_inside.ensures.0 c.if-is_inside.true)

pub meet_over-requires : goal.meet_over-requires
meet_over-requires c =
    may_meet c.args.workers.now c.requires.workers c.args.live.now c.requires.made_for c.args.a c.requires.arc c.link_of-link.result c.link_of-link.ensures (λ inside. true≢false (sym (c.is_inside.ensures.1 inside) ∙ c.if-is_inside.false))

pub returns-clause-same : goal.returns-clause-same
returns-clause-same c =
    same_after c.args.workers.now c.requires.workers c.args.live.now c.requires.made_for c.args.a c.requires.arc c.link_of-link.result c.link_of-link.ensures c.meet_over.new.workers c.meet_over.ensures

pub returns-clause-met : goal.returns-clause-met
returns-clause-met c =
    met_between c.args.workers.now c.requires.workers c.args.live.now c.requires.made_for c.args.a c.requires.arc c.link_of-link.result c.link_of-link.ensures c.meet_over.new.workers c.meet_over.ensures (λ inside. true≢false (sym (c.is_inside.ensures.1 inside) ∙ c.if-is_inside.false))
