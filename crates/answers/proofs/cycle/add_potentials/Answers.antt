use Rattle.answers.specs.CycleText.{potential_line}
use Rattle.answers.proofs.SinkLines.{text_more}
use Rattle.answers.proofs.cycle.add_potentials.Goals as goal

pub loop-t-preserved : goal.loop-t-preserved
loop-t-preserved c =
    let added = rw (c.label.ensures.text) at c.in_ok-add_potential.ensures in
    text_more (potential_line c.args.graph.now c.args.potentials.now) c.args.text.now.items c.loop-t.text.items c.add_potential.new.text.items c.loop-t.t
    c.loop-t.invariant added
