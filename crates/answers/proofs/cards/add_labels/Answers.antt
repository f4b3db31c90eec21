use Rattle.std.proofs.Common.{◌≡◌, [], ◌∷◌, ◌++◌, append_assoc}
use Rattle.command_line.specs.Lines.{after_space}
use Rattle.answers.proofs.SinkLines.{item_more}
use Rattle.answers.proofs.cards.add_labels.Goals as goal

pub loop-label-preserved : goal.loop-label-preserved
loop-label-preserved c =
    let items = c.loop-label.text.items in
    let label = c.label-item.result in
    let added : c.extend_from_slice.new.self.items ≡ items ++ after_space label =
    rw (c.in_ok-extend_from_slice.ensures.items, c.text.ensures.text, c.in_ok-push.ensures.items)
    (append_assoc items (32 ∷ []) label)
    in
    item_more after_space c.args.labels.now c.loop-label.label-index _ label
    c.args.text.now.items items c.extend_from_slice.new.self.items
    c.loop-label-test.true c.label-item.is c.loop-label.invariant added
