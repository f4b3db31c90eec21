use Rattle.plant_file.proofs.ColumnLists.{columns_of-ascends, columns_of-within}
use Rattle.plant_file.proofs.draft.Draft.columns.Goals as goal

pub returns-clause-ascending : goal.returns-clause-ascending
returns-clause-ascending c = rw (c.as_slice.ensures.value, c.self.invariant.used) (columns_of-ascends _)

pub returns-clause-within : goal.returns-clause-within
returns-clause-within c = rw (c.as_slice.ensures.value, c.self.invariant.used) (columns_of-within _)
