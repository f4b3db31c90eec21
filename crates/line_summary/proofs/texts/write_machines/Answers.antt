use Rattle.std.proofs.Common.{arith}
use Rattle.std.proofs.lemmas.List.{take_all}
use Rattle.outside_io.proofs.OutgoingLemmas.{pushed_none, pushed_element}
use Rattle.line_summary.specs.SummaryText.{machine_line}
use Rattle.line_summary.proofs.texts.write_machines.Goals as goal

pub loop-of-init : goal.loop-of-init
loop-of-init g c = pushed_none _

pub loop-of-preserved : goal.loop-of-preserved
loop-of-preserved g c =
    pushed_element (machine_line c.args.plant.now c.args.last) c.args.uses.now c.loop-of.of-index _ c.loop-of-test.true c.loop-of.invariant c.write_machine.ensures

pub returns : goal.returns
returns g c =
    let all = take_all c.loop-of.of-index c.args.uses.now (omega arith) in
    rw all at c.loop-of.invariant
