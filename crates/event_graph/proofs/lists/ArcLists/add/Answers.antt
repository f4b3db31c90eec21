use Rattle.std.proofs.Common.{ℕ, Vec, Global}
use Rattle.event_graph.proofs.Mapped.{map-set_push}
use Rattle.event_graph.proofs.lists.ArcLists.add.Goals as goal

pub returns : goal.returns
returns c =
    map-set_push (λ (l : Vec ℕ Global). l.items) c.self.inside.lists.items c.args.station c.index_mut.result.now c.push.new.self c.args.arc c.args.self.now c.self.view_is c.requires c.index_mut.ensures.value c.in_ok-push.ensures.items
