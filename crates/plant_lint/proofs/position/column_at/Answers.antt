use Rattle.std.proofs.Common.{get_or, sym, ◌∙◌, arith}
use Rattle.plant_lint.specs.Positions.{ends_line, begins_character}
use Rattle.plant_lint.proofs.Columns.{begun_more, begun_bound}
use Rattle.plant_lint.proofs.position.column_at.Goals as goal

pub loop-n-preserved : goal.loop-n-preserved
loop-n-preserved c =
    let n = c.loop-n.n in
    let byte = get_or c.args.bytes.now n 0 in (
      rw c.loop-n.invariant.0 at c.begun_after-begun.ensures ∙ sym (begun_more c.args.bytes.now n 0 (omega (arith, c.requires))),
      rw c.begun_after-begun.ensures (begun_bound (ends_line byte) (begins_character byte) c.loop-n.begun n c.loop-n.invariant.1),
    )
