use Rattle.std.proofs.lemmas.Result.{IfOk-weaker}
use Rattle.cycle_time.specs.CycleTime.{IsCycleTime}
use Rattle.cycle_time.specs.Ratio.{Holds}
use Rattle.cycle_time.proofs.Certified.{cycle_time}
use Rattle.cycle_time.proofs.Ratios.{heavier_falls}
use Rattle.cycle_time.proofs.greatest_ratio.certificate_of.Goals as goal

pub loop-best-smaller : goal.loop-best-smaller
loop-best-smaller c =
    let heavy = rw c.in-Circuit.is at c.in_ok-circuit.ensures in
    heavier_falls c.args.live.now.graph c.loop-best.best c.ratio_of-best.result c.in-Circuit.circuit.items c.loop-best.invariant (rw c.graph-graph.ensures.graph at c.ratio_of-best.ensures.ratio) heavy c.ratio_of-best.ensures.kept

pub returns-in-Potentials : goal.returns-in-Potentials
returns-in-Potentials c =
    let g = c.args.live.now.graph in
    let r = c.loop-best.best in
    let potentials = c.in-Potentials.potentials.items in
    let ranked = c.graph-graph.ensures.ranked in
    let final = rw c.in-Potentials.is at c.in_ok-circuit.ensures in
    let holds = rw c.deref.ensures.value at c.certificate_with.ensures in
    IfOk-weaker c.certificate_with.result (Holds r potentials) (IsCycleTime g)
    (λ certificate is. cycle_time g r potentials certificate ranked.sound ranked.limits c.requires c.loop-best.invariant final is) holds

pub loop-best-preserved : goal.loop-best-preserved
loop-best-preserved c = rw c.graph-graph.ensures.graph at c.ratio_of-best.ensures.ratio
