use Rattle.std.proofs.Common.{◌≡◌, ◌+◌, ◌-◌, ◌*◌, set, ap, ◌∙◌, subst, arith}
use Rattle.std.proofs.lemmas.List.{length-set}
use Rattle.event_graph.specs.Network.{stations}
use Rattle.what_if.specs.Page.{IsDate, slot}
use Rattle.latest_dates.specs.Found.{date_index, latest_in}
use Rattle.latest_dates.specs.Pass.{AreLatestFrom}
use Rattle.latest_dates.proofs.DateIndices.{date_index-below}
use Rattle.latest_dates.proofs.BackwardSteps.{leaves_time, one_earlier, job_start, slot_above}
use Rattle.latest_dates.proofs.pass.find_job.Goals as goal
use Rattle.latest_dates.proofs.pass.find_job.Goals.{After-station_at-t}

many : (c : After-station_at-t) → c.stations-stations.result ≡ stations c.args.live.now.graph
many c = c.stations-stations.ensures.count ∙ ap stations c.graph-graph.ensures.graph

-- the date of the job at the station
here : (c : After-station_at-t) → IsDate c.args.live.now.graph c.station_at-t.result c.args.n
here c = record {
  station = c.station_at-t.ensures.exists;
  from_one = c.requires.from_one;
  job = c.requires.job;
}

-- its slot
at : (c : After-station_at-t) → slot c.args.live.now c.station_at-t.result c.args.n ≡ (c.args.n - 1) * stations c.args.live.now.graph + (stations c.args.live.now.graph - 1 - c.loop-above.above)
at c =
    slot_above c.args.live.now c.station_at-t.result c.args.n _ (c.station_at-t.ensures.rank ∙ ap (λ k. k - 1 - c.loop-above.above) (many c))

-- the dates behind are the latest ones
behind : (c : After-station_at-t) → AreLatestFrom c.args.live.now c.args.wait (latest_in c.args.live.now c.loop-above.dates) (slot c.args.live.now c.station_at-t.result c.args.n + 1)
behind c =
    let live = c.args.live.now in
    let from : (c.args.n - 1) * stations live.graph + (stations live.graph - c.loop-above.above) ≡ slot live c.station_at-t.result c.args.n + 1 = omega (arith, at c, many c, c.loop-above-test.true) in
    subst (AreLatestFrom live c.args.wait (latest_in live c.loop-above.dates)) from c.loop-above.invariant.latest

pub loop-above-init : goal.loop-above-init
loop-above-init c =
    let live = c.args.live.now in
    record {
      one_for_each = c.requires.one_for_each;
      latest = subst (AreLatestFrom live c.args.wait (latest_in live c.args.dates.now)) (job_start c.args.n (stations live.graph) c.requires.from_one) c.requires.later;
    }

pub earliest_bound-latest-requires-clause-date : goal.earliest_bound-latest-requires-clause-date
earliest_bound-latest-requires-clause-date c = here (goal.at.earliest_bound-latest-requires-clause-date c).After-station_at-t

pub earliest_bound-latest-requires-clause-time : goal.earliest_bound-latest-requires-clause-time
earliest_bound-latest-requires-clause-time c =
    let live = c.args.live.now in
    let ranked = c.graph-graph.ensures.ranked in
    let before = (goal.at.earliest_bound-latest-requires-clause-time c).After-station_at-t in
    let some = c.requires.servable in
    leaves_time live ranked.upward ranked.sound c.args.wait (latest_in live c.loop-above.dates) (slot live c.station_at-t.result c.args.n + 1) (behind before) some.table some.solves some.served c.station_at-t.result c.args.n (here before) (omega arith)

pub loop-above-preserved : goal.loop-above-preserved
loop-above-preserved c =
    let live = c.args.live.now in
    let ranked = c.graph-graph.ensures.ranked in
    let t = c.station_at-t.result in
    let n = c.args.n in
    let before = (goal.at.loop-above-preserved c).After-station_at-t in
    let dates = c.loop-above.dates in
    let v = c.earliest_bound-latest.result in
    let held = c.loop-above.invariant in
    let to : c.date_index.result ≡ date_index live.graph t n = c.date_index.ensures.date_index ∙ ap (λ h. date_index h t n) c.graph-graph.ensures.graph in
    let next : slot live t n ≡ (n - 1) * stations live.graph + (stations live.graph - (c.loop-above.above + 1)) = omega (arith, at before) in
    record {
      one_for_each = length-set dates c.date_index.result v ∙ held.one_for_each;
      latest = subst (AreLatestFrom live c.args.wait (latest_in live (set dates c.date_index.result v))) next
          (rw to (one_earlier live ranked.upward ranked.sound c.args.wait dates t n (here before) v (omega (arith, held.one_for_each, date_index-below live.graph t n (here before))) (behind before) c.earliest_bound-latest.ensures));
    }

pub returns-clause-latest : goal.returns-clause-latest
returns-clause-latest c =
    let live = c.args.live.now in
    let all : (c.args.n - 1) * stations live.graph + (stations live.graph - c.loop-above.above) ≡ (c.args.n - 1) * stations live.graph = omega (arith, c.stations-stations.ensures.count, ap stations c.graph-graph.ensures.graph, c.loop-above-test.false) in
    subst (AreLatestFrom live c.args.wait (latest_in live c.loop-above.dates)) all c.loop-above.invariant.latest
