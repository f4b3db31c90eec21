use Rattle.std.proofs.Common.{refl}
use Rattle.plant_file.specs.Reading.{machine_of}
use Rattle.plant_keys.proofs.ValueLists.{map_views}
use Rattle.plant_file.proofs.build.stage_of.Goals as goal

pub returns : goal.returns
returns c =
    rw
    (c.in_ok-name.ensures, c.in_ok-feeds.ensures, c.in_ok-machines.ensures, c.count_at.ensures, c.count_at-2.ensures, c.time_at.ensures, c.time_at-2.ensures, ← c.tables_at.ensures, map_views machine_of c.tables_at.result.now)
    refl
