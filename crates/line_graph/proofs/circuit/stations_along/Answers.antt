use Rattle.std.proofs.Common.{◌<◌, ◌∙◌, ◌++◌, ◌∷◌, [], sym, ap, take, get_or}
use Rattle.std.proofs.lemmas.List.{take_more, take_all, map_push}
use Rattle.std.proofs.lemmas.List.Elements.{All-push}
use Rattle.line_base.specs.declared.event.Arc.{Arc}
use Rattle.event_graph.specs.Network.{arc, stations}
use Rattle.event_graph.specs.Circuit.{starting_stations}
use Rattle.line_graph.proofs.circuit.stations_along.Goals as goal

pub loop-a-preserved : goal.loop-a-preserved
loop-a-preserved c =
    let g = c.args.graph.now in
    let arcs = c.args.arcs.now in
    let i = c.loop-a.a-index in
    let a = get_or arcs i 0 in
    let before = c.loop-a.stations.items in
    let pushed = c.in_ok-push.ensures.items in
    record {
      along =
          pushed
          ∙ ap (λ (start : Arc). before ++ start.from ∷ []) c.arc.ensures.arc
          ∙ ap (λ all. all ++ (arc g a).from ∷ []) c.loop-a.invariant.along
          ∙ sym (map_push (λ b. (arc g b).from) (take i arcs) a)
          ∙ ap (starting_stations g) (sym (take_more arcs i 0 c.loop-a-test.true));
      exist = rw pushed (All-push (λ t. t < stations g) before c.arc.result.from c.loop-a.invariant.exist c.arc.ensures.starts);
    }

pub returns-clause-along : goal.returns-clause-along
returns-clause-along c =
    c.loop-a.invariant.along ∙ ap (starting_stations c.args.graph.now) (take_all c.loop-a.a-index c.args.arcs.now c.loop-a-test.false)
