use Rattle.std.proofs.Common.{◌≡◌, ◌*◌, ◌^◌, ◌≤◌, take}
use Rattle.plant_model.specs.Line.{stations_of}
use Rattle.plant_check.proofs.refusals.sizes.count_stations.Given as goal

abbrev pub invariant-loop-stage : goal.invariant-loop-stage
invariant-loop-stage g l = (l.count ≡ stations_of (take l.stage-index l.stages)) × (l.count ≤ l.stage-index * 2 ^ 64)
