use Rattle.std.proofs.Common.{◌≤◌, length, arith}
use Rattle.std.proofs.lemmas.List.{get_or_past}
use Rattle.plant_model.specs.Line.{no_machine}
use Rattle.outside_io.proofs.OutgoingLemmas.{pushed_none}
use Rattle.line_summary.proofs.texts.write_name_of.Goals as goal

pub returns-in-None : goal.returns-in-None
returns-in-None g c =
    let missing = c.in-None.ensures.lookup in
    let past : length c.args.machines.now ≤ c.args.machine = omega arith in
    rw (get_or_past c.args.machines.now c.args.machine no_machine past) (pushed_none _)
