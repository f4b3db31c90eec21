use Rattle.std.proofs.Common.{◌∙◌, Some, ap, sym, arith}
use Rattle.csv.specs.Records.{fields_of}
use Rattle.demand_feed.proofs.BadFields.{HasPassed-header, HasPassed-job, HasPassed-open, HasPassed-room, bad_field-found, bad_field-none}
use Rattle.demand_feed.proofs.bad_field.find_bad_field.Goals as goal

pub records-init : goal.records-init
records-init c = HasPassed-open c.args.file.now c.args.used.now c.args.most _ c.open-reader.ensures

pub overflow_add-number : goal.overflow_add-number
overflow_add-number c =
    let next = rw c.if-branch.true at c.in_ok-read_next.ensures.next in
    let room = HasPassed-room _ _ _ _ _ _ _ c.records.invariant next in
    omega (arith, room)

pub records-smaller-then-is_header : goal.records-smaller-then-is_header
records-smaller-then-is_header c =
    let next = rw c.if-branch.true at c.in_ok-read_next.ensures.next in
    let room = HasPassed-room _ _ _ _ _ _ _ c.records.invariant next in
    omega (arith, room)

pub records-preserved-then-is_header : goal.records-preserved-then-is_header
records-preserved-then-is_header c =
    let next = rw c.if-branch.true at c.in_ok-read_next.ensures.next in
    HasPassed-header _ _ _ _ _ _ _ c.records.invariant next (sym c.if-is_header.ensures)

pub records-smaller : goal.records-smaller
records-smaller c =
    let next = rw c.if-branch.true at c.in_ok-read_next.ensures.next in
    let room = HasPassed-room _ _ _ _ _ _ _ c.records.invariant next in
    omega (arith, room)

pub records-preserved : goal.records-preserved
records-preserved c =
    let next = rw c.if-branch.true at c.in_ok-read_next.ensures.next in
    HasPassed-job _ _ _ _ _ _ _ c.records.invariant next (sym c.if-is_header.ensures) (sym c.lacking_column.ensures.column ∙ c.in_default.is)

pub returns-in-Some : goal.returns-in-Some
returns-in-Some c =
    let next = rw c.if-branch.true at c.in_ok-read_next.ensures.next in
    let lacks = sym c.lacking_column.ensures.column ∙ c.in-Some.is in
    ap Some c.in_ok-found.ensures ∙ sym (bad_field-found _ _ _ _ _ _ _ _ c.records.invariant next (sym c.if-is_header.ensures) lacks)

pub returns : goal.returns
returns c =
    let next = rw c.if-branch.false at c.in_ok-read_next.ensures.next in
    sym (bad_field-none _ _ _ _ c.read_next.new.reader (fields_of c.read_next.new.row) _ c.records.invariant next)
