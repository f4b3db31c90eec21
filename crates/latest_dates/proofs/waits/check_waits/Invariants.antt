use Rattle.std.proofs.Common.{ℕ, ◌≤◌}
use Rattle.event_graph.specs.Table.{date_in}
use Rattle.latest_dates.specs.Found.{wait_of}
use Rattle.latest_dates.proofs.waits.check_waits.Given as goal

-- no job before waits longer
abbrev pub invariant-loop-before : goal.invariant-loop-before
invariant-loop-before l = (n : ℕ) → 1 ≤ n → n ≤ l.before → wait_of l.graph (date_in l.table.rows) n ≤ l.may
