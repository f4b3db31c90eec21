use Rattle.std.proofs.Common.{◌+◌, ◌-◌, ◌*◌}
use Rattle.event_graph.specs.Network.{stations}
use Rattle.latest_dates.specs.Found.{latest_in, HasDates}
use Rattle.latest_dates.specs.Pass.{AreLatestFrom}
use Rattle.latest_dates.proofs.pass.find_job.Given as goal

-- the dates of the job at the stations above are the latest ones, and those of later jobs
abbrev pub invariant-loop-above : goal.invariant-loop-above
invariant-loop-above l = record {
  one_for_each : HasDates l.live l.dates;
  latest : AreLatestFrom l.live l.wait (latest_in l.live l.dates) ((l.n - 1) * stations l.live.graph + (stations l.live.graph - l.above));
}
