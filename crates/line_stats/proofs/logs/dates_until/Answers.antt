use Rattle.std.proofs.Common.{leb, sym, rules}
use Rattle.std.proofs.lemmas.List.Sorted.{IsPartitionPoint-from_clause, IsPartitionedBy-leb}
use Rattle.line_stats.proofs.DateLists.{count-point}
use Rattle.line_stats.proofs.logs.dates_until.Goals as goal

pub returns-clause-count : goal.returns-clause-count
returns-clause-count c =
    let dates = c.args.dates.now in
    let parted = IsPartitionedBy-leb (λ date. date) dates c.args.at c.requires in
    let point = IsPartitionPoint-from_clause (λ date. leb date c.args.at) _ _ c.partition_point.ensures.partitioned parted (λ a r q k. search rules) in
    sym (count-point (λ date. leb date c.args.at) dates c.partition_point.result c.partition_point.ensures.bound point)
