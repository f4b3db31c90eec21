use Rattle.std.proofs.Common.{◌≡◌, ◌+◌, ◌*◌, ◌≤◌, length, take}
use Rattle.event_graph.specs.Network.{label}
use Rattle.event_graph.specs.Table.{date_in}
use Rattle.latest_dates.specs.declared.writing.TheConstants.{MAX_LINE}
use Rattle.latest_dates.specs.Found.{found_of, latest_of}
use Rattle.latest_dates.specs.JobLines.{job_lines, tight_jobs}
use Rattle.latest_dates.proofs.writing.write_jobs.Given as goal

-- the lines of the jobs before are there, those of them without slack counted, and the start is that of the next
abbrev pub invariant-loop-done : goal.invariant-loop-done
invariant-loop-done l = record {
  size : length l.room ≡ length l.fn.room;
  within : l.end ≤ l.done * MAX_LINE;
  start : l.start ≡ record { label = label l.run.live.graph l.t; job = l.before + 1 + l.done };
  lines : take l.end l.room ≡ job_lines l.run.live.graph (date_in l.run.table.rows) (latest_of (found_of l.run)) l.t l.before l.done;
  tight : l.tight ≡ tight_jobs (date_in l.run.table.rows) (latest_of (found_of l.run)) l.t l.before l.done;
  few : l.tight ≤ l.done;
}
