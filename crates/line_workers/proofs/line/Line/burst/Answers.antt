use Rattle.std.proofs.Common.{◌*◌, ◌^◌, List, length, ap, ◌∙◌, sym, subst, arith}
use Rattle.std.specs.List.{All}
use Rattle.std.specs.Vec.{with_items}
use Rattle.std.proofs.lemmas.List.{with_items_is}
use Rattle.line_base.specs.declared.event.Parts.{Parts}
use Rattle.event_graph.specs.Network.{stations, jobs}
use Rattle.live_check.specs.Order.{LiveGraph}
use Rattle.line_worker.specs.Teams.{AreAllMet}
use Rattle.line_worker.specs.Worker.{LineWorker, teams_of}
use Rattle.line_worker.specs.Work.{TurnsBelow}
use Rattle.line_worker.specs.Workers.{live_of, graph_of, AreWorkers}
use Rattle.line_workers.specs.Counts.{AreCounts}
use Rattle.line_workers.specs.Line.{WorkLine}
use Rattle.line_workers.specs.OfWorkers.{line_of, AreAtRest}
use Rattle.line_workers.specs.Link.{AreLinks}
use Rattle.line_workers.proofs.LineBurst.{LineBurst, turns-low, line_after, stays_of}
use Rattle.line_workers.proofs.TurnsCleared.{workers-few}
use Rattle.line_workers.proofs.line.Line.burst.Given.{Over}
use Rattle.line_workers.proofs.line.Line.burst.Goals.{After-burst_of}
use Rattle.line_workers.proofs.line.Line.burst.Goals as goal

pub burst_of-requires-clause-workers : goal.burst_of-requires-clause-workers
burst_of-requires-clause-workers g c = λ κs h. subst AreWorkers (sym c.deref_mut.ensures.value) c.self.invariant.rest.whole

pub burst_of-requires-clause-few : goal.burst_of-requires-clause-few
burst_of-requires-clause-few g c =
    λ κs h. workers-few c.deref_mut.result.now (subst AreWorkers (sym c.deref_mut.ensures.value) c.self.invariant.rest.whole)

pub burst_of-requires-clause-turns : goal.burst_of-requires-clause-turns
burst_of-requires-clause-turns g c =
    λ κs h. subst (All (λ (worker : LineWorker). TurnsBelow (2 ^ 38) worker.team)) (sym c.deref_mut.ensures.value) (turns-low c.self.inside.workers.items c.self.inside.made c.self.invariant.rest)

pub burst_of-requires-clause-made_for : goal.burst_of-requires-clause-made_for
burst_of-requires-clause-made_for g c =
    λ κs h. c.requires.made_for ∙ sym (ap (λ (l : WorkLine). l.live) c.self.view_is) ∙ ap live_of (sym c.deref_mut.ensures.value)

pub burst_of-requires-clause-met : goal.burst_of-requires-clause-met
burst_of-requires-clause-met g c =
    λ κs h. subst (λ (l : List LineWorker). AreAllMet (graph_of l) (teams_of l)) (sym c.deref_mut.ensures.value) c.self.invariant.rest.met

pub burst_of-requires-clause-counts : goal.burst_of-requires-clause-counts
burst_of-requires-clause-counts g c =
    λ κs h. subst (AreCounts c.self.inside.counts) (sym c.deref_mut.ensures.value) c.self.invariant.counts

pub burst_of-requires-clause-links : goal.burst_of-requires-clause-links
burst_of-requires-clause-links g c =
    λ κs h.
    let links = c.self.inside.links in
    let made_for = c.requires.made_for ∙ sym (ap (λ (l : WorkLine). l.live) c.self.view_is) ∙ ap live_of (sym c.deref_mut.ensures.value) in
    subst (λ (l : LiveGraph). AreLinks l.graph (length c.deref_mut.result.now) links) (sym made_for) (
    subst (λ (l : List LineWorker). AreLinks (graph_of l) (length l) links) (sym c.deref_mut.ensures.value) c.self.invariant.links)

-- the line after the burst
after : (g : Over) (c : After-burst_of g) → (let items : List LineWorker = (with_items c.self.inside.workers c.burst_of.new.workers).items in LineBurst c.args.self.now (line_of items c.self.inside.made) c.burst_of.result.fired c.burst_of.result.steps × AreAtRest items c.self.inside.made)
after g c =
    let v = c.self.inside.workers in
    let new = c.burst_of.new.workers in
    let e = c.burst_of.ensures in
    let same = with_items_is v new (omega (arith, c.burst_of.auto.workers, c.deref_mut.ensures.len)) in
    line_after v.items c.deref_mut.result.now new (with_items v new).items c.self.inside.made c.burst_of.result.fired c.burst_of.result.steps c.args.self.now c.deref_mut.ensures.value same c.self.view_is c.self.invariant.rest e.burst e.fired e.steps

pub invariant_of-self : goal.invariant_of-self
invariant_of-self g c =
    let v = c.self.inside.workers in
    let new = c.burst_of.new.workers in
    let e = c.burst_of.ensures in
    let links = c.self.inside.links in
    let same = with_items_is v new (omega (arith, c.burst_of.auto.workers, c.deref_mut.ensures.len)) in
    let stays = stays_of v.items c.deref_mut.result.now new (with_items v new).items c.deref_mut.ensures.value same c.self.invariant.rest.whole e.burst in
    record {
      rest = (after g (goal.at.invariant_of-self g c).After-burst_of).1;
      counts = subst (AreCounts c.burst_of.new.counts) (sym same) e.counts;
      all = c.self.invariant.all ∙ ap (λ (h : Parts). stations h * jobs h) (sym stays.0);
      station_count = c.self.invariant.station_count ∙ ap stations (sym stays.0);
      links =
          subst (λ n. AreLinks (graph_of (with_items v new).items) n links) (sym stays.1) (
          subst (λ (h : Parts). AreLinks h (length v.items) links) (sym stays.0) c.self.invariant.links);
    }

pub returns-clause-line : goal.returns-clause-line
returns-clause-line g c = (after g (goal.at.returns-clause-line g c).After-burst_of).0.line

pub returns-clause-frame : goal.returns-clause-frame
returns-clause-frame g c = (after g (goal.at.returns-clause-frame g c).After-burst_of).0.frame

pub returns-clause-logs : goal.returns-clause-logs
returns-clause-logs g c = (after g (goal.at.returns-clause-logs g c).After-burst_of).0.logs

pub returns-clause-works : goal.returns-clause-works
returns-clause-works g c = (after g (goal.at.returns-clause-works g c).After-burst_of).0.works

pub returns-clause-fired : goal.returns-clause-fired
returns-clause-fired g c = (after g (goal.at.returns-clause-fired g c).After-burst_of).0.fired

pub returns-clause-steps : goal.returns-clause-steps
returns-clause-steps g c = (after g (goal.at.returns-clause-steps g c).After-burst_of).0.steps

pub returns-clause-at_most : goal.returns-clause-at_most
returns-clause-at_most g c = (after g (goal.at.returns-clause-at_most g c).After-burst_of).0.at_most

pub returns-clause-few : goal.returns-clause-few
returns-clause-few g c = (after g (goal.at.returns-clause-few g c).After-burst_of).0.few

pub returns-clause-ready : goal.returns-clause-ready
returns-clause-ready g c = (after g (goal.at.returns-clause-ready g c).After-burst_of).0.ready

pub returns-clause-idle : goal.returns-clause-idle
returns-clause-idle g c = (after g (goal.at.returns-clause-idle g c).After-burst_of).0.idle

pub returns-clause-rest : goal.returns-clause-rest
returns-clause-rest g c = (after g (goal.at.returns-clause-rest g c).After-burst_of).0.rest

pub returns-clause-alone : goal.returns-clause-alone
returns-clause-alone g c = (after g (goal.at.returns-clause-alone g c).After-burst_of).0.alone

pub returns-clause-alone_steps : goal.returns-clause-alone_steps
returns-clause-alone_steps g c = (after g (goal.at.returns-clause-alone_steps g c).After-burst_of).0.alone_steps
