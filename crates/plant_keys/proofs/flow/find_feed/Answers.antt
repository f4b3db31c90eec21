use Rattle.std.proofs.Common.{ap, ◌∙◌}
use Rattle.plant_keys.specs.Walk.{fed_fault, fed_faults}
use Rattle.plant_keys.proofs.FoundFaults.{finds_same}
use Rattle.plant_keys.proofs.SeenNames.{fed_same}
use Rattle.plant_keys.proofs.flow.find_feed.Goals as goal

pub returns-in-Some : goal.returns-in-Some
returns-in-Some c names all before =
    let name = c.text_of-name.result.now in
    rw (← c.in-Some.ensures)
    (finds_same _ _ _ _ c.find_fed.ensures
    (ap (λ later. fed_fault later c.args.i name) c.is_later.ensures
    ∙ fed_same c.args.all.now c.args.before.now names c.args.i name all before
    ∙ ap (fed_faults names c.args.i) c.text_of-name.ensures))
