use Rattle.std.proofs.Common.{sym, ◌∙◌}
use Rattle.plant_keys.proofs.ClassFaults.{refused_value, passed_value}
use Rattle.plant_keys.proofs.walk.Table.find_value.Goals as goal

pub returns-then-passes : goal.returns-then-passes
returns-then-passes c =
    rw (passed_value _ _ _ _ (sym c.passes.ensures ∙ c.if-passes.true)) c.find_numbers.ensures

pub returns : goal.returns
returns c =
    rw
    (refused_value _ _ _ _ (sym c.passes.ensures ∙ c.if-passes.false), ← c.wants_of-wants.ensures)
    (c.add-2.ensures _ c.fault_at.ensures)
