use Rattle.std.proofs.Common.{◌≡◌, ◌+◌, ◌-◌, ◌*◌, ◌++◌, length, take, drop, sym, ap, ◌∙◌, subst, arith}
use Rattle.std.proofs.Math.Nat.{mul_comm}
use Rattle.line_base.specs.declared.event.Parts.{Parts}
use Rattle.event_graph.specs.Network.{stations, jobs}
use Rattle.event_graph.specs.Table.{date_in}
use Rattle.what_if.specs.Sheet.{date_count}
use Rattle.what_if.proofs.SlotOrder.{slot-below}
use Rattle.latest_dates.specs.ArcBounds.{AreBoundsOf}
use Rattle.latest_dates.specs.Found.{latest_in, HasDates}
use Rattle.latest_dates.specs.Pass.{AreLatestFrom}
use Rattle.latest_dates.proofs.NoneLater.{none_later}
use Rattle.latest_dates.proofs.BackwardSteps.{run_solves, run_serves, no_slot_left, lent_back}
use Rattle.latest_dates.proofs.pass.latest_of.Goals as goal
use Rattle.latest_dates.proofs.pass.latest_of.Goals.{After-jobs-jobs}

job_count : (c : After-jobs-jobs) → c.jobs-jobs.result ≡ jobs c.args.live.now.graph
job_count c = c.jobs-jobs.ensures.count ∙ ap jobs c.graph-graph.ensures.graph

pub loop-behind-init : goal.loop-behind-init
loop-behind-init c =
    let live = c.args.live.now in
    let ranked = c.graph-graph.ensures.ranked in
    let all = job_count (goal.at.loop-behind-init c).After-jobs-jobs in
    let stations_are = c.stations.ensures.count ∙ ap stations c.graph-graph.ensures.graph in
    let many : c.stations.result * c.jobs-jobs.result ≡ date_count live.graph = ap (λ k. k * c.jobs-jobs.result) stations_are ∙ ap (λ k. stations live.graph * k) all in
    record {
      one_for_each = omega (arith, c.in_ok-dates.ensures.len, many);
      latest = λ t n date from. absurd (omega (arith, slot-below live ranked.upward t n date, no_slot_left c.jobs-jobs.result (stations live.graph), mul_comm (stations live.graph) c.jobs-jobs.result, ap (λ k. stations live.graph * k) all));
    }

pub find_job-requires-clause-servable : goal.find_job-requires-clause-servable
find_job-requires-clause-servable c =
    let g = c.args.live.now.graph in
    let least = c.stations-least.ensures.least in
    record {
      table = date_in c.args.table.now.rows;
      solves = run_solves c.args.table.now g least c.requires.of_graph;
      served = run_serves c.args.table.now g c.args.wait least c.requires.of_graph c.requires.in_time;
    }

pub loop-behind-preserved : goal.loop-behind-preserved
loop-behind-preserved c =
    let live = c.args.live.now in
    let next : c.jobs-jobs.result - c.loop-behind.behind - 1 ≡ c.jobs-jobs.result - (c.loop-behind.behind + 1) = omega arith in
    let all : c.loop-behind.dates.len ≡ length c.loop-behind.dates.items = omega arith in
    let same : length c.find_job.new.dates ≡ length c.loop-behind.dates.items = omega (arith, c.find_job.ensures.one_for_each, c.loop-behind.invariant.one_for_each) in
    let items = take c.loop-behind.dates.len (c.find_job.new.dates ++ drop (length c.find_job.new.dates) c.loop-behind.dates.items) in
    let back = sym (lent_back c.find_job.new.dates c.loop-behind.dates.items c.loop-behind.dates.len all same) in
    record {
      one_for_each = subst (HasDates live) back c.find_job.ensures.one_for_each;
      latest = subst (λ k. AreLatestFrom live c.args.wait (latest_in live items) (k * stations live.graph)) next
          (subst (λ ds. AreLatestFrom live c.args.wait (latest_in live ds) ((c.jobs-jobs.result - c.loop-behind.behind - 1) * stations live.graph)) back c.find_job.ensures.latest);
    }

pub returns-clause-latest : goal.returns-clause-latest
returns-clause-latest c =
    let none : c.jobs-jobs.result - c.loop-behind.behind ≡ 0 = omega (arith, c.loop-behind-test.false) in
    let first : (c.jobs-jobs.result - c.loop-behind.behind) * stations c.args.live.now.graph ≡ 0 * stations c.args.live.now.graph = ap (λ k. k * stations c.args.live.now.graph) none in
    record { each = λ t n date. c.loop-behind.invariant.latest t n date (omega (arith, first)) }

pub returns-clause-not_before : goal.returns-clause-not_before
returns-clause-not_before c =
    let live = c.args.live.now in
    let ranked = c.graph-graph.ensures.ranked in
    let least = c.stations-least.ensures.least in
    let solves = run_solves c.args.table.now live.graph least c.requires.of_graph in
    let serves = run_serves c.args.table.now live.graph c.args.wait least c.requires.of_graph c.requires.in_time in
    let none : c.jobs-jobs.result - c.loop-behind.behind ≡ 0 = omega (arith, c.loop-behind-test.false) in
    let first : (c.jobs-jobs.result - c.loop-behind.behind) * stations live.graph ≡ 0 * stations live.graph = ap (λ k. k * stations live.graph) none in
    λ t n date.
    none_later live ranked.upward ranked.sound c.args.wait (latest_in live c.loop-behind.dates.items) _ c.loop-behind.invariant.latest (date_in c.args.table.now.rows) solves serves t n date (omega (arith, first))

pub find_job-requires-clause-bounds : goal.find_job-requires-clause-bounds
find_job-requires-clause-bounds c =
    subst (AreBoundsOf c.args.live.now.graph) (sym c.deref.ensures.value)
    (subst (λ (h : Parts). AreBoundsOf h c.in_ok-bounds.bounds.items) c.graph-graph.ensures.graph c.in_ok-bounds.ensures)

pub find_job-requires-clause-one_for_each : goal.find_job-requires-clause-one_for_each
find_job-requires-clause-one_for_each c =
    subst (HasDates c.args.live.now) (sym c.deref_mut.ensures.value) c.loop-behind.invariant.one_for_each

pub find_job-requires-clause-later : goal.find_job-requires-clause-later
find_job-requires-clause-later c =
    let live = c.args.live.now in
    subst (λ ds. AreLatestFrom live c.args.wait (latest_in live ds) ((c.jobs-jobs.result - c.loop-behind.behind) * stations live.graph)) (sym c.deref_mut.ensures.value) c.loop-behind.invariant.latest

pub returns-clause-one_for_each : goal.returns-clause-one_for_each
returns-clause-one_for_each c = c.loop-behind.invariant.one_for_each
