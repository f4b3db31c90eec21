use Rattle.std.proofs.Common.{◌-◌, length}
use Rattle.demand_feed.proofs.ReadRecords.{HasRead}
use Rattle.demand_feed.proofs.rows.read_rows.Given as goal

abbrev pub invariant-records : goal.invariant-records
invariant-records l = HasRead l.file l.used l.most l.reader l.number l.numbers.items l.jobs

abbrev pub decreases-records : goal.decreases-records
decreases-records l = length l.file - l.number
