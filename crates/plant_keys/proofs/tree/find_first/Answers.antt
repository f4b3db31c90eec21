use Rattle.plant_keys.proofs.FoundFaults.{finds_both}
use Rattle.plant_keys.proofs.tree.find_first.Goals as goal

pub returns : goal.returns
returns c =
    finds_both _ _ _ _ _ c.find_in_tree.ensures
    (finds_both _ _ _ _ _ c.find_in_tree-2.ensures
    (finds_both _ _ _ _ _ c.find_in_tree-3.ensures c.find_in_tree-4.ensures))
