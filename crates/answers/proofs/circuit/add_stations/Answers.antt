use Rattle.std.proofs.Common.{◌≡◌, [], ◌∷◌, ◌++◌, get_or, refl, append_assoc}
use Rattle.event_graph.specs.Network.{label}
use Rattle.answers.specs.CycleText.{spaced_label}
use Rattle.answers.proofs.SinkLines.{item_more}
use Rattle.answers.proofs.circuit.add_stations.Goals as goal

pub loop-t-preserved : goal.loop-t-preserved
loop-t-preserved c =
    let t = get_or c.args.list.now c.loop-t.t-index 0 in
    let added : c.extend_from_slice.new.self.items ≡ c.loop-t.text.items ++ spaced_label c.args.graph.now t =
    rw (c.in_ok-extend_from_slice.ensures.items, c.in_ok-push.ensures.items, c.label.ensures.text)
    (append_assoc c.loop-t.text.items (32 ∷ []) (label c.args.graph.now t))
    in
    item_more (spaced_label c.args.graph.now) c.args.list.now c.loop-t.t-index 0 t
    c.args.text.now.items c.loop-t.text.items c.extend_from_slice.new.self.items
    c.loop-t-test.true refl c.loop-t.invariant added
