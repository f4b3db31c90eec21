use Rattle.std.proofs.Common.{◌≡◌, ◌+◌, ◌++◌, ◌≤◌, length, take}
use Rattle.event_graph.specs.Network.{label}
use Rattle.event_graph.specs.Table.{date_in}
use Rattle.line_report.specs.Portions.{job_lines}
use Rattle.line_report.proofs.portion.write_jobs.Given as goal

-- the lines of the jobs before are there, and the start is that of the next
abbrev pub invariant-loop-done : goal.invariant-loop-done
invariant-loop-done l = record {
  within : l.end ≤ length l.room;
  size : length l.room ≡ length l.fn.room;
  lines : take l.end l.room ≡ take l.at l.fn.room ++ job_lines l.graph (date_in l.table.rows) l.t l.before l.done;
  start : l.start ≡ record { label = label l.graph l.t; job = l.before + 1 + l.done };
}
