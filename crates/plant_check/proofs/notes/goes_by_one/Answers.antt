use Rattle.std.proofs.Common.{◌-◌, length, sym, ◌∙◌, arith}
use Rattle.plant_check.specs.PlantNotes.{goes_by_one_at}
use Rattle.plant_check.proofs.RangeLemmas.{range_all_more, range_all_not}
use Rattle.plant_check.proofs.notes.goes_by_one.Goals as goal

pub loop-k-preserved : goal.loop-k-preserved
loop-k-preserved c =
    range_all_more (goes_by_one_at c.args.dates.now) c.loop-k.k c.loop-k.invariant (sym c.is_next.ensures ∙ c.if-not-is_next.false)

pub returns-then-not-is_next : goal.returns-then-not-is_next
returns-then-not-is_next c =
    range_all_not (goes_by_one_at c.args.dates.now) (length c.args.dates.now - 1) c.loop-k.k (omega arith) (sym c.is_next.ensures ∙ c.if-not-is_next.true)
