use Rattle.std.proofs.Common.{◌≡◌, ◌+◌, false, arith, sym, ◌∙◌}
use Rattle.std.proofs.lemmas.List.{get_or_default}
use Rattle.plant_file.specs.Draft.{is_used}
use Rattle.plant_file.proofs.ColumnLists.{filter_one, filter_none, filter_all}
use Rattle.plant_file.proofs.columns.columns_of.Goals as goal
use Rattle.plant_file.proofs.columns.columns_of.Goals.{then-index+in_ok-push, else-index}

pub loop-before-preserved : goal.loop-before-preserved
loop-before-preserved c =
    let column = c.loop-before.before + 1 in
    let marks = c.in_ok-marks.marks.items in
    let known = c.in_ok-marks.ensures in
    let mark : is_used c.args.plant.now column ≡ c.index.result.now =
    sym (known.used column (omega arith)) ∙ get_or_default marks column false c.index.result.now (omega (arith, known.enough)) ∙ sym c.index.ensures in
    elim c.if-index.branch [
      | then-index+in_ok-push w ↦
          rw (filter_one (is_used c.args.plant.now) c.loop-before.before (mark ∙ w.if-index.true), w.columns-is, ← c.loop-before.invariant)
          w.in_ok-push.ensures.items
      | else-index w ↦
          rw (filter_none (is_used c.args.plant.now) c.loop-before.before (mark ∙ w.if-index.false), w.columns-is) c.loop-before.invariant
    ]

pub returns : goal.returns
returns c =
    filter_all c.args.plant.now c.loop-before.columns.items c.loop-before.before (omega arith) c.loop-before.invariant
