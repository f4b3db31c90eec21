use Rattle.std.proofs.Common.{◌-◌, ◌≤◌, length}
use Rattle.line_stats.specs.Between.{dates_until}
use Rattle.line_stats.proofs.logs.dates_until_from.Given as goal

abbrev pub invariant-loop-count : goal.invariant-loop-count
invariant-loop-count l = l.count ≤ dates_until l.dates l.at

abbrev pub decreases-loop-count : goal.decreases-loop-count
decreases-loop-count l = length l.dates - l.count
