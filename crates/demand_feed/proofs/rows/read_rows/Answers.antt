use Rattle.std.proofs.Common.{◌∙◌, sym, arith}
use Rattle.std.proofs.lemmas.Bool.{not-false, not-true}
use Rattle.csv.specs.Records.{fields_of}
use Rattle.demand_feed.proofs.ReadRecords.{HasRead-header, HasRead-job, HasRead-open, HasRead-room, rows_of-all, rows_of-bad}
use Rattle.demand_feed.proofs.rows.read_rows.Goals as goal

pub records-init : goal.records-init
records-init c = HasRead-open c.args.file.now c.args.used.now c.args.most _ _ c.open-reader.ensures c.new-numbers.ensures.items

pub overflow_add-number : goal.overflow_add-number
overflow_add-number c =
    let next = rw c.if-branch.true at c.in_ok-read_next.ensures.next in
    let room = HasRead-room _ _ _ _ _ _ _ _ _ c.records.invariant next in
    omega (arith, room.0)

pub records-smaller-then-is_header : goal.records-smaller-then-is_header
records-smaller-then-is_header c =
    let next = rw c.if-branch.true at c.in_ok-read_next.ensures.next in
    let room = HasRead-room _ _ _ _ _ _ _ _ _ c.records.invariant next in
    omega (arith, room.0)

pub records-preserved-then-is_header : goal.records-preserved-then-is_header
records-preserved-then-is_header c =
    let next = rw c.if-branch.true at c.in_ok-read_next.ensures.next in
    HasRead-header _ _ _ _ _ _ _ _ _ c.records.invariant next (sym c.if-is_header.ensures)

pub returns-then-not-branch-clause-rows : goal.returns-then-not-branch-clause-rows
returns-then-not-branch-clause-rows c = tt

pub returns-then-not-branch-clause-bad_record : goal.returns-then-not-branch-clause-bad_record
returns-then-not-branch-clause-bad_record c =
    let next = rw c.if-branch.true at c.in_ok-read_next.ensures.next in
    let bad = not-false _ (sym c.in_ok-add_numbers.ensures.good ∙ c.if-not-branch.true) in
    rows_of-bad _ _ _ _ _ _ _ _ _ c.records.invariant next (sym c.if-is_header.ensures) bad

pub overflow_add-jobs : goal.overflow_add-jobs
overflow_add-jobs c =
    let next = rw c.if-branch.true at c.in_ok-read_next.ensures.next in
    let room = HasRead-room _ _ _ _ _ _ _ _ _ c.records.invariant next in
    omega (arith, room.0, room.1)

pub records-smaller : goal.records-smaller
records-smaller c =
    let next = rw c.if-branch.true at c.in_ok-read_next.ensures.next in
    let room = HasRead-room _ _ _ _ _ _ _ _ _ c.records.invariant next in
    omega (arith, room.0)

pub records-preserved : goal.records-preserved
records-preserved c =
    let next = rw c.if-branch.true at c.in_ok-read_next.ensures.next in
    let good = not-true _ (sym c.in_ok-add_numbers.ensures.good ∙ c.if-not-branch.false) in
    HasRead-job _ _ _ _ _ _ _ _ _ _ c.records.invariant next (sym c.if-is_header.ensures) good (c.in_ok-add_numbers.ensures.added c.if-not-branch.false)

pub returns-clause-rows : goal.returns-clause-rows
returns-clause-rows c =
    let next = rw c.if-branch.false at c.in_ok-read_next.ensures.next in
    rows_of-all _ _ _ _ c.read_next.new.reader (fields_of c.read_next.new.row) _ _ _ c.records.invariant next
