use Rattle.std.proofs.Common.{refl, arith}
use Rattle.plant_model.specs.Place.{key_of}
use Rattle.plant_model.specs.Refusals.{element_above}
use Rattle.plant_model.proofs.Passes.{stops_read}
use Rattle.plant_check.proofs.PassedElements.{passed_none, passed_more_read, passed_all}
use Rattle.plant_check.proofs.ranges.check_numbers.Goals as goal

pub loop-k-init : goal.loop-k-init
loop-k-init c = passed_none _ _

pub returns-in_err-check_element : goal.returns-in_err-check_element
returns-in_err-check_element c =
    let items = c.as_slice-items.result.now in
    rw (← c.as_slice-items.ensures)
    (stops_read (element_above (key_of c.args.table c.args.key.now) c.args.limit) items items c.loop-k.k _ c.from_residual.result
    c.from_residual.ensures.1 c.loop-k.invariant refl (omega arith) c.in_err-check_element.ensures)

pub loop-k-preserved : goal.loop-k-preserved
loop-k-preserved c =
    passed_more_read (element_above (key_of c.args.table c.args.key.now) c.args.limit) c.as_slice-items.result.now c.loop-k.k _
    c.loop-k.invariant (omega arith) c.in_ok-check_element.ensures

pub returns : goal.returns
returns c =
    rw (← c.as_slice-items.ensures)
    (passed_all (element_above (key_of c.args.table c.args.key.now) c.args.limit) c.as_slice-items.result.now c.loop-k.k c.loop-k.invariant (omega arith))
