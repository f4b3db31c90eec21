use Rattle.line_summary.proofs.rows.push_row.Goals as goal

pub returns-in-Dead : goal.returns-in-Dead
returns-in-Dead g c = rw c.in-Dead.is c.push_dead.ensures
