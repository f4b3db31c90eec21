use Rattle.std.proofs.Common.{◌+◌, leb, length, ◌∙◌, rules, arith}
use Rattle.std.proofs.lemmas.List.Sorted.{IsPartitionPoint-from_clause, IsPartitionedBy-leb}
use Rattle.std.proofs.lemmas.List.{get_or_default}
use Rattle.line_chart.proofs.FirstAfter.{Passed, next-above, none-before, tells-below, tells-not}
use Rattle.line_chart.proofs.dates.first_after.Goals.{After-partition_point-passed}
use Rattle.line_chart.proofs.dates.first_after.Goals as goal

-- the dates up to there are passed
passed : (c : After-partition_point-passed) → Passed c.args.dates.now c.args.late c.args.at c.partition_point-passed.result
passed c =
    let parted = IsPartitionedBy-leb (λ date. date + c.args.late) c.args.dates.now c.args.at (λ j k d le below. let up = c.requires.order j k d le below in omega arith) in
    IsPartitionPoint-from_clause (λ date. leb (date + c.args.late) c.args.at) _ _ c.partition_point-passed.ensures.partitioned parted (λ a r q k. search rules)

pub returns-in-Some-clause-after : goal.returns-in-Some-clause-after
returns-in-Some-clause-after c =
    let dates = c.args.dates.now in
    let i = c.partition_point-passed.result in
    let point = passed (goal.at.returns-in-Some-clause-after c).After-partition_point-passed in
    let below = tells-below i (length dates) c.in-Some.ensures.lookup.0 in
    let read = c.in-Some.ensures.lookup.1 ∙ get_or_default dates i _ 0 below in
    omega (arith, next-above dates c.args.late c.args.at i point below, read, c.min.ensures, c.saturating_add.ensures, c.requires.before, c.ranges.end.fits)

pub returns-in-Some-clause-none : goal.returns-in-Some-clause-none
returns-in-Some-clause-none c =
    let i = c.partition_point-passed.result in
    let point = passed (goal.at.returns-in-Some-clause-none c).After-partition_point-passed in
    none-before c.args.dates.now c.args.late c.args.at i c.min.result c.requires.order point c.partition_point-passed.ensures.bound (λ below.
    let read = c.in-Some.ensures.lookup.1 ∙ get_or_default c.args.dates.now i _ 0 below in
    omega (arith, read, c.min.ensures, c.saturating_add.ensures))

pub returns-in-None-clause-none : goal.returns-in-None-clause-none
returns-in-None-clause-none c =
    let i = c.partition_point-passed.result in
    let point = passed (goal.at.returns-in-None-clause-none c).After-partition_point-passed in
    let none = tells-not i (length c.args.dates.now) c.in-None.ensures.lookup.0 in
    none-before c.args.dates.now c.args.late c.args.at i c.args.end c.requires.order point c.partition_point-passed.ensures.bound (λ below. absurd (none below))
