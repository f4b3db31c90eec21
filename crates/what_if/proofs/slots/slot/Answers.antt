use Rattle.std.proofs.Common.{◌+◌, ◌-◌, ◌*◌, ap, ◌∙◌}
use Rattle.event_graph.specs.Network.{stations}
use Rattle.what_if.specs.Page.{slot}
use Rattle.what_if.proofs.slots.slot.Goals as goal

pub returns-clause-slot : goal.returns-clause-slot
unfolding slot
returns-clause-slot c =
    c.slot_at.ensures
    ∙ ap (λ w. (c.args.n - 1) * w + c.place_of.result) (c.stations.ensures.count ∙ ap stations c.graph.ensures.graph)
    ∙ ap (λ p. (c.args.n - 1) * stations c.args.live.now.graph + p) c.place_of.ensures.rank
