use Rattle.std.proofs.Common.{ne_eqb}
use Rattle.std.proofs.lemmas.Bool.{eq-eqb}
use Rattle.plant_model.proofs.Soundness.{IsSound-Parts}
use Rattle.plant_model.proofs.Paths.{stages_left-falls}
use Rattle.circuit_sums.proofs.ArcPlaces.{WalksOn-ends, WalksOn-goes}
use Rattle.circuit_sums.proofs.circuit_arcs.add_path.Goals as goal

pub returns-then-stage-last : goal.returns-then-stage-last
returns-then-stage-last c =
    WalksOn-ends c.args.layout.now c.args.first c.args.last c.args.arcs.now.items c.loop-next.arcs.items _ c.loop-next.next c.in-Some.stage
    c.requires.sound c.loop-next.invariant c.in-Some.is (eq-eqb c.in-Some.stage c.args.last c.if-stage-last.true) c.in_ok-add_stage.ensures

pub loop-next-preserved : goal.loop-next-preserved
loop-next-preserved c =
    WalksOn-goes c.args.layout.now c.args.first c.args.last c.args.arcs.now.items c.loop-next.arcs.items _ c.loop-next.next _ c.in-Some.stage
    c.requires.sound c.loop-next.invariant c.in-Some.is (ne_eqb c.in-Some.stage c.args.last c.if-stage-last.false) c.in_ok-add_stage.ensures
    c.next-next.ensures

pub loop-next-smaller : goal.loop-next-smaller
loop-next-smaller c =
    stages_left-falls c.args.layout.now (IsSound-Parts c.requires.sound).later c.loop-next.next c.in-Some.stage _ c.in-Some.is
    (c.loop-next.invariant.there c.in-Some.stage c.in-Some.is) c.next-next.ensures
