use Rattle.std.proofs.Common.{◌-◌, length}
use Rattle.demand_feed.proofs.BadFields.{HasPassed}
use Rattle.demand_feed.proofs.bad_field.find_bad_field.Given as goal

abbrev pub invariant-records : goal.invariant-records
invariant-records l = HasPassed l.file l.used l.most l.reader l.number

abbrev pub decreases-records : goal.decreases-records
decreases-records l = length l.file - l.number
