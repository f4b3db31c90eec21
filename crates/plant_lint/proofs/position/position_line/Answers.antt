use Rattle.plant_lint.proofs.position.position_line.Goals as goal

pub returns : goal.returns
returns c = rw (c.line_at-line.ensures, c.column_at-column.ensures) at c.format.ensures.ok
