use Rattle.std.proofs.Common.{Vec, Global, ap, ◌∙◌}
use Rattle.station_step.specs.declared.ends.Inlet.{Inlet}
use Rattle.station_step.specs.declared.ends.Outlet.{Outlet}
use Rattle.line_setup.specs.Making.{QueueEnds}
use Rattle.line_setup.proofs.LaidLists.{map-emptied}
use Rattle.line_setup.proofs.LaidEnds.{ends-same}
use Rattle.line_setup.proofs.laying.Ends.take_station.Goals as goal

pub returns-clause-rest : goal.returns-clause-rest
returns-clause-rest c =
    ends-same
    _
    _
    _
    _
    _
    _
    _
    _
    _
    _
    (map-emptied c.self.inside.outlets.items c.args.t c.replace-outlets.new.dest c.args.self.now.outlets (ap (λ (e : QueueEnds). e.outlets) c.self.view_is) (ap (λ (v : Vec Outlet Global). v.items) c.replace-outlets.ensures.after ∙ c.new.ensures.items))
    (map-emptied c.self.inside.inlets.items c.args.t c.replace-inlets.new.dest c.args.self.now.inlets (ap (λ (e : QueueEnds). e.inlets) c.self.view_is) (ap (λ (v : Vec Inlet Global). v.items) c.replace-inlets.ensures.after ∙ c.new-2.ensures.items))
    (ap (λ (e : QueueEnds). e.shelves) c.self.view_is)
    (ap (λ (e : QueueEnds). e.arcs) c.self.view_is)
    (ap (λ (e : QueueEnds). e.room) c.self.view_is)
