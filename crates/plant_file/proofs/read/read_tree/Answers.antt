use Rattle.std.proofs.Common.{◌≡◌, []}
use Rattle.plant_keys.specs.declared.faults.Asked.TheVariants.{First}
use Rattle.plant_keys.specs.Faults.{errors}
use Rattle.plant_keys.specs.Walk.{tree_faults}
use Rattle.toml.specs.View.{view}
use Rattle.plant_file.specs.Reading.{draft_of}
use Rattle.plant_file.proofs.NoFaults.{no_errors}
use Rattle.plant_file.proofs.Trees.{first_answers, builds_reading}
use Rattle.plant_file.proofs.read.read_tree.Goals as goal

pub draft_with-requires : goal.draft_with-requires
draft_with-requires c =
    let top = view c.args.top.now in
    let found = c.find_in_plant-names.ensures.found.more First [] c.new-faults.ensures in
    record { sound = no_errors (tree_faults top) (c.in-Ok.ensures (tree_faults top) found); names = c.find_in_plant-names.ensures.names }

pub returns-in-Ok : goal.returns-in-Ok
returns-in-Ok c =
    let top = view c.args.top.now in
    let found = c.find_in_plant-names.ensures.found.more First [] c.new-faults.ensures in
    let none : errors (tree_faults top) ≡ [] = c.in-Ok.ensures (tree_faults top) found in
    rw none (builds_reading c.draft_with.result (draft_of top) c.draft_with.ensures)

pub returns-in-Err : goal.returns-in-Err
returns-in-Err c =
    let top = view c.args.top.now in
    let found = c.find_in_plant-names.ensures.found.more First [] c.new-faults.ensures in
    first_answers (errors (tree_faults top)) (draft_of top) _ (c.in-Err.ensures (tree_faults top) found)
