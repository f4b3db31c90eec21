use Rattle.std.proofs.Common.{Vec, Global, ℕ, ap, ◌∙◌}
use Rattle.line_setup.specs.Making.{QueueEnds}
use Rattle.line_setup.proofs.LaidLists.{map-emptied, map-no_tokens}
use Rattle.line_setup.proofs.LaidEnds.{ends-same}
use Rattle.line_setup.proofs.laying.Ends.take_shelf.Goals as goal

pub returns-clause-rest : goal.returns-clause-rest
returns-clause-rest c =
    ends-same
    _
    _
    _
    _
    _
    _
    _
    _
    _
    _
    (ap (λ (e : QueueEnds). e.outlets) c.self.view_is)
    (ap (λ (e : QueueEnds). e.inlets) c.self.view_is)
    (map-no_tokens c.self.inside.shelves.items c.args.worker_number c.replace-tokens.new.dest c.args.self.now.shelves (ap (λ (e : QueueEnds). e.shelves) c.self.view_is) (ap (λ (v : Vec (Vec ℕ Global) Global). v.items) c.replace-tokens.ensures.after ∙ c.new.ensures.items))
    (map-emptied c.self.inside.arcs.items c.args.worker_number c.replace-arcs.new.dest c.args.self.now.arcs (ap (λ (e : QueueEnds). e.arcs) c.self.view_is) (ap (λ (v : Vec ℕ Global). v.items) c.replace-arcs.ensures.after ∙ c.new-2.ensures.items))
    (ap (λ (e : QueueEnds). e.room) c.self.view_is)
