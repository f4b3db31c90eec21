use Rattle.std.proofs.Common.{◌<◌, ◌≤◌, ◌∙◌, arith, length}
use Rattle.std.proofs.lemmas.Bool.{lt-ltb, le-ltb}
use Rattle.event_graph.specs.Network.{stations, jobs}
use Rattle.event_graph.specs.State.{log}
use Rattle.line_core.specs.Refusals.{is_behind}
use Rattle.line_core.proofs.Runs.{state_in}
use Rattle.line_core.proofs.Searches.{find-number_here, find-number_later, find-number_past}
use Rattle.line_core.proofs.dates.first_unfinished.Goals as goal

pub returns-then-count_at-jobs-clause-found : goal.returns-then-count_at-jobs-clause-found
returns-then-count_at-jobs-clause-found c =
    let g = c.args.graph.now in
    let s = state_in g c.args.logs.now in
    let few : length (log s c.loop-t.t) < jobs g = omega (arith, c.count_at.ensures.count, c.jobs-jobs.ensures.count, c.if-count_at-jobs.true) in
    find-number_here (is_behind g s) (stations g) c.loop-t.t (omega (arith, c.stations-t-end.ensures.count, c.loop-t-test.true)) (lt-ltb (length (log s c.loop-t.t)) (jobs g) few)
    ∙ c.loop-t.invariant

pub loop-t-preserved : goal.loop-t-preserved
loop-t-preserved c =
    let g = c.args.graph.now in
    let s = state_in g c.args.logs.now in
    let full : jobs g ≤ length (log s c.loop-t.t) = omega (arith, c.count_at.ensures.count, c.jobs-jobs.ensures.count, c.if-count_at-jobs.false) in
    find-number_later (is_behind g s) (stations g) c.loop-t.t (omega (arith, c.stations-t-end.ensures.count, c.loop-t-test.true)) (le-ltb (length (log s c.loop-t.t)) (jobs g) full)
    ∙ c.loop-t.invariant

pub returns-clause-found : goal.returns-clause-found
returns-clause-found c =
    find-number_past (is_behind c.args.graph.now (state_in c.args.graph.now c.args.logs.now)) (stations c.args.graph.now) c.loop-t.t (omega (arith, c.stations-t-end.ensures.count, c.loop-t-test.false))
    ∙ c.loop-t.invariant
