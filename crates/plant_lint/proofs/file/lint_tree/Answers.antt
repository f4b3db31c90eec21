use Rattle.toml.specs.View.{view}
use Rattle.plant_lint.proofs.NoToml.{wrong_tree}
use Rattle.plant_lint.proofs.file.lint_tree.Goals as goal

pub returns-in-Faults : goal.returns-in-Faults
returns-in-Faults c =
    let read = rw c.in-Faults.is at c.in_ok-draft.ensures in
    wrong_tree (view c.args.top.now) c.refused_by-lint.result read.0 (c.refused_by-lint.ensures _ read.1)
