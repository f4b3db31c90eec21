use Rattle.std.proofs.Common.{◌≡◌, ◌-◌, refl, ap, arith}
use Rattle.event_graph.specs.Network.{stations}
use Rattle.event_graph.specs.Table.{date_in}
use Rattle.outside_io.proofs.OutgoingLemmas.{pushed_none}
use Rattle.latest_dates.specs.Found.{found_of, latest_of}
use Rattle.latest_dates.specs.LatestText.{station_lines, tight_at, all_lines, tight_count}
use Rattle.latest_dates.proofs.Lines.{pushed_next, sum_by-next}
use Rattle.latest_dates.proofs.writing.write_stations.Goals as goal

pub loop-before-init : goal.loop-before-init
loop-before-init g c = (pushed_none _, refl, omega arith)

pub loop-before-preserved : goal.loop-before-preserved
loop-before-preserved g c =
    let h = c.args.run.now.live.graph in
    let x = date_in c.args.run.now.table.rows in
    let y = latest_of (found_of c.args.run.now) in
    let n = c.loop-before.before in (
      pushed_next (station_lines h x y) n c.loop-before.invariant.0 c.write_station-tight.ensures.written,
      omega (arith, c.loop-before.invariant.1, c.write_station-tight.ensures.tight, sum_by-next (tight_at h x y) n),
      omega (arith, c.loop-before.invariant.2, c.write_station-tight.ensures.few),
    )

pub returns-clause-written : goal.returns-clause-written
unfolding all_lines
returns-clause-written g c =
    let all : c.loop-before.before ≡ stations c.args.run.now.live.graph - 1 = omega (arith, c.stations-before-end.ensures.count, ap stations c.graph.ensures.graph) in
    rw all at c.loop-before.invariant.0

pub returns-clause-tight : goal.returns-clause-tight
unfolding tight_count
returns-clause-tight g c =
    let all : c.loop-before.before ≡ stations c.args.run.now.live.graph - 1 = omega (arith, c.stations-before-end.ensures.count, ap stations c.graph.ensures.graph) in
    rw all at c.loop-before.invariant.1
