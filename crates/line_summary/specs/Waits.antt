-- How long the jobs wait for their delivery. Jobs count from 1.
use Rattle.std.specs.Prelude.{ℕ, ◌+◌, ◌-◌, ◌*◌, ◌==◌, nat_le, Bool, List, map, find, unwrap_or, count_by}
use Rattle.std.specs.List.{range_with_len}
use Rattle.line_base.specs.declared.event.Parts.{Parts}
use Rattle.event_graph.specs.Network.{stations, jobs}
use Rattle.event_graph.specs.Table.{Table}
use Rattle.event_graph.specs.GreatestValue.{greatest}
use Rattle.line_stats.specs.Counts.{job_numbers}

-- how long job n waits: the delivery is the last station, the feed the first
abbrev pub wait : Parts → Table → ℕ → ℕ
wait g x n = x (stations g - 1) n - x 0 n

-- the waits of the jobs, in order
abbrev pub waits : Parts → Table → List ℕ
waits g x = map (wait g x) (job_numbers g)

-- the first of these numbers that passes a test, 0 where none does
abbrev pub first_of : (ℕ → Bool) → List ℕ → ℕ
first_of test numbers = unwrap_or (find test numbers) 0

-- the greatest wait
unfoldable pub most_wait : Parts → Table → ℕ
most_wait g x = greatest (wait g x) (job_numbers g)

-- the first job that waits that long
unfoldable pub worst_job : Parts → Table → ℕ
worst_job g x = first_of (λ n. wait g x n == most_wait g x) (job_numbers g)

-- how many jobs wait at most this long
unfoldable pub within : Parts → Table → ℕ → ℕ
within g x most = count_by (λ n. nat_le (wait g x n) most) (job_numbers g)

-- the least wait that at least this many percent of the jobs don't exceed
unfoldable pub percentile : Parts → Table → ℕ → ℕ
percentile g x percent =
    first_of (λ most. nat_le (percent * jobs g) (100 * within g x most)) (range_with_len 0 (most_wait g x + 1))

-- how many jobs don't wait
unfoldable pub at_once : Parts → Table → ℕ
at_once g x = count_by (λ n. wait g x n == 0) (job_numbers g)
