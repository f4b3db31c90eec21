use Rattle.std.proofs.Common.{◌≤◌, length, ap, arith}
use Rattle.std.proofs.lemmas.List.{get_or_past}
use Rattle.plant_model.specs.Line.{no_stage}
use Rattle.outside_io.proofs.OutgoingLemmas.{pushed_none}
use Rattle.line_summary.proofs.texts.write_stage_name.Goals as goal

pub returns-in-None : goal.returns-in-None
returns-in-None g c =
    let missing = c.in-None.ensures.lookup in
    let past : length c.args.plant.now.stages ≤ c.args.stage = omega (arith, ap length c.as_slice.ensures) in
    rw (get_or_past c.args.plant.now.stages c.args.stage no_stage past) (pushed_none _)
