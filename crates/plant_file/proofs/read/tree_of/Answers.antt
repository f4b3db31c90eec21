use Rattle.std.proofs.Common.{refl, rules, sym, ap, Some, ◌∙◌}
use Rattle.toml.specs.View.{table_view}
use Rattle.toml.proofs.Views.{view-Table}
use Rattle.plant_file.proofs.Trees.{tree_of_text, tree_of_refused}
use Rattle.plant_file.proofs.read.tree_of.Goals as goal

pub returns-in-Ok : goal.returns-in-Ok
returns-in-Ok c =
    tree_of_text c.args.bytes.now (table_view c.in-Ok.top) c.in-Ok.ensures.ok ∙ ap Some (sym (view-Table c.in-Ok.top))

pub returns-in-Err-2 : goal.returns-in-Err-2
returns-in-Err-2 c = λ _. (tree_of_refused c.args.bytes.now (c.in-Err.ensures.refused (search rules)), refl)
