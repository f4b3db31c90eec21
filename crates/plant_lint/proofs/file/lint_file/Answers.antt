use Rattle.std.proofs.Common.{Some, ap, sym, ◌∙◌}
use Rattle.toml.specs.View.{table_view}
use Rattle.toml.proofs.Views.{view-Table}
use Rattle.plant_file.proofs.Trees.{tree_of_text}
use Rattle.plant_lint.proofs.NoToml.{lints_no_toml, lints_tree}
use Rattle.plant_lint.proofs.file.lint_file.Goals as goal

pub returns-in-Ok : goal.returns-in-Ok
returns-in-Ok c =
    lints_tree c.args.bytes.now _ _
    (tree_of_text c.args.bytes.now (table_view c.in-Ok.top) c.in-Ok.ensures.ok ∙ ap Some (sym (view-Table c.in-Ok.top)))
    c.lint_tree.ensures

pub returns-in-Err : goal.returns-in-Err
returns-in-Err c =
    lints_no_toml c.args.bytes.now c.in-Err.error _ c.in-Err.ensures.span c.lint_error.ensures.line c.lint_error.ensures.memory
    c.in-Err.ensures.refused
