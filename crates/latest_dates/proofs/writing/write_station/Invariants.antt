use Rattle.std.proofs.Common.{◌≡◌, ◌+◌, ◌-◌, ◌≤◌, length}
use Rattle.event_graph.specs.Network.{label}
use Rattle.event_graph.specs.Table.{date_in}
use Rattle.outside_io.specs.Outgoing.{Pushed, stream}
use Rattle.latest_dates.specs.Found.{found_of, latest_of}
use Rattle.latest_dates.specs.JobLines.{job_lines, tight_jobs}
use Rattle.latest_dates.proofs.writing.write_station.Given as goal

-- the lines of the jobs before are written, and those of them without slack counted
abbrev pub invariant-loop-next : goal.invariant-loop-next
invariant-loop-next g l = record {
  size : length l.room ≡ length l.fn.room;
  within : l.next ≤ l.jobs;
  start : l.start ≡ record { label = label l.run.live.graph l.t; job = l.next + 1 };
  lines : Pushed (stream (g.K.Sink.shown l.initial.sink) l.initial.out)
      (stream (g.K.Sink.shown l.sink) l.out)
      (job_lines l.run.live.graph (date_in l.run.table.rows) (latest_of (found_of l.run)) l.t 0 l.next);
  tight : l.tight ≡ tight_jobs (date_in l.run.table.rows) (latest_of (found_of l.run)) l.t 0 l.next;
  few : l.tight ≤ l.next;
}

abbrev pub decreases-loop-next : goal.decreases-loop-next
decreases-loop-next g l = l.jobs - l.next
