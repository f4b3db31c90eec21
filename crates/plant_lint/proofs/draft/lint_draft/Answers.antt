use Rattle.plant_lint.proofs.DraftLints.{bad_lints, whole_lints}
use Rattle.plant_lint.proofs.draft.lint_draft.Goals as goal

pub lint_tables-requires : goal.lint_tables-requires
lint_tables-requires c =
    let read = rw c.in-Ok-Whole.field-0-is at c.in-Ok-Whole.ensures in
    record {
      dates_where_used = read.0.given;
      some_dates = read.0.some;
      dates_limit = read.0.limit;
      times_where_used = read.1.given;
      times_columns = read.1.columns;
    }

pub returns-in-Ok-Whole : goal.returns-in-Ok-Whole
returns-in-Ok-Whole c =
    let read = rw c.in-Ok-Whole.field-0-is at c.in-Ok-Whole.ensures in
    whole_lints c.args.draft _ _ c.lint_tables.result _ _ read.0.held read.1.held read.2 c.lint_tables.ensures

pub returns-in-Ok-Bad : goal.returns-in-Ok-Bad
returns-in-Ok-Bad c =
    let read = rw c.in-Ok-Bad.field-0-is at c.in-Ok-Bad.ensures in
    bad_lints c.args.draft _ _ c.refused_by-lint.result read.0 (c.refused_by-lint.ensures _ read.1)
