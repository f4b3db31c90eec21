use Rattle.std.proofs.Common.{◌-◌, ◌*◌}
use Rattle.event_graph.specs.Network.{stations}
use Rattle.latest_dates.specs.Found.{latest_in, HasDates}
use Rattle.latest_dates.specs.Pass.{AreLatestFrom}
use Rattle.latest_dates.proofs.pass.latest_of.Given as goal

-- the dates of the jobs behind are the latest ones
abbrev pub invariant-loop-behind : goal.invariant-loop-behind
invariant-loop-behind l = record {
  one_for_each : HasDates l.live l.dates.items;
  latest : AreLatestFrom l.live l.wait (latest_in l.live l.dates.items) ((l.jobs - l.behind) * stations l.live.graph);
}
