use Rattle.std.proofs.Common.{refl}
use Rattle.plant_file.specs.Reading.{stage_of}
use Rattle.plant_keys.proofs.ValueLists.{map_views}
use Rattle.plant_file.proofs.build.draft_of.Goals as goal

pub returns : goal.returns
returns c =
    rw
    (c.policy_of.ensures, c.time_at.ensures, c.in_ok-demands.ensures, c.in_ok-times_file.ensures, c.in_ok-observe.ensures, c.in_ok-loops.ensures, c.in_ok-stages.ensures, ← c.requires, ← c.tables_at.ensures, map_views (stage_of c.args.names.now) c.tables_at.result.now)
    refl
