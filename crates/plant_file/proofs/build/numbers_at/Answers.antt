use Rattle.plant_keys.specs.Readers.{number_of}
use Rattle.plant_keys.proofs.ValueLists.{map_views}
use Rattle.plant_file.proofs.build.numbers_at.Goals as goal

pub returns-in-Some : goal.returns-in-Some
returns-in-Some c =
    rw (← c.in-Some.ensures, ← c.elements_of.ensures, map_views (number_of 0 c.args.most 0) c.elements_of.result.now)
    c.numbers_of.ensures
