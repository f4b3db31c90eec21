use Rattle.std.proofs.Common.{◌<◌, arith, ap, length}
use Rattle.plant_model.proofs.PathTables.{FedSoFar-kept, FedSoFar-marked, fed-inside}
use Rattle.plant_model.proofs.path_table.fed_marks.Goals as goal
use Rattle.plant_model.proofs.path_table.fed_marks.Goals.{in-Some, in_default}

pub index_mut-requires : goal.index_mut-requires
index_mut-requires c =
    let stages = c.as_slice-stage-items.ensures in
    let there =
    fed-inside c.args.plant.now c.requires c.loop-stage.stage-index c.in-Some.next c.stage-item.result
    (omega (arith, ap length stages)) (rw stages at c.stage-item.is) c.in-Some.is
    in
    omega (arith, there, c.loop-stage.fed.ok.0, c.loop-stage.invariant.long)

pub loop-stage-preserved : goal.loop-stage-preserved
loop-stage-preserved c =
    let stages = c.as_slice-stage-items.ensures in
    let p = c.args.plant.now in
    let i = c.loop-stage.stage-index in
    let s = c.stage-item.result in
    let below : i < length p.stages = omega (arith, ap length stages) in
    let here = rw stages at c.stage-item.is in
    elim c.match-stage.branch [
      | in-Some w ↦
          let there = fed-inside p c.requires i w.in-Some.next s below here w.in-Some.is in
          let marked = FedSoFar-marked p i w.in-Some.next c.loop-stage.fed.items s c.loop-stage.invariant below here w.in-Some.is there in
          rw w.fed-is marked
      | in_default w ↦ rw w.fed-is (FedSoFar-kept p i c.loop-stage.fed.items s c.loop-stage.invariant below here w.in_default.is)
    ]
