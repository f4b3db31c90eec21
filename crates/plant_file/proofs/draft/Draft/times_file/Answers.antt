use Rattle.std.proofs.Common.{refl}
use Rattle.plant_file.proofs.ColumnLists.{nil-where_none, filled-where_some}
use Rattle.plant_file.proofs.draft.Draft.times_file.Goals as goal

pub returns-in-None-clause-none : goal.returns-in-None-clause-none
returns-in-None-clause-none c =
    rw (← c.self.view_is) (λ _. nil-where_none _ _ c.self.invariant.sound.times_file c.in-None.is, λ _. refl)

pub returns-in-Some-clause-none : goal.returns-in-Some-clause-none
returns-in-Some-clause-none c =
    rw (← c.self.view_is)
    (λ e. cc, λ e. absurd (filled-where_some _ _ _ c.self.invariant.sound.times_file c.in-Some.is e))
