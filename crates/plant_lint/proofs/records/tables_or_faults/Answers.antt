use Rattle.std.proofs.Common.{◌<◌, length, arith}
use Rattle.plant_lint.specs.Records.{record_faults}
use Rattle.plant_lint.proofs.FaultLints.{not_none}
use Rattle.plant_lint.proofs.records.tables_or_faults.Goals as goal

pub returns-then-list-gt0 : goal.returns-then-list-gt0
returns-then-list-gt0 c d demands times held holds are =
    let some : 0 < length (record_faults d demands times) = omega (arith, are.count) in
    (not_none (record_faults d demands times) some, are)
