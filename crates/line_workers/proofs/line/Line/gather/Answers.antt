use Rattle.std.proofs.Common.{◌≡◌, ◌*◌, List, length, ap, ◌∙◌, sym, subst, arith}
use Rattle.std.specs.Vec.{with_items}
use Rattle.std.proofs.lemmas.List.{with_items_is}
use Rattle.event_graph.specs.Network.{stations, jobs}
use Rattle.line_worker.specs.Worker.{LineWorker}
use Rattle.line_worker.specs.Workers.{live_of, graph_of, room_of, AreWorkers}
use Rattle.line_workers.specs.Counts.{AreCounts}
use Rattle.line_workers.specs.Line.{StandsIn}
use Rattle.line_workers.specs.OfWorkers.{line_of, AreAtRest}
use Rattle.line_workers.specs.Gather.{logs_in}
use Rattle.line_workers.proofs.AllFirings.{new_counts, new_all, new_station_count}
use Rattle.line_workers.proofs.Lines.{at_rest_is_line}
use Rattle.line_workers.proofs.line.Line.gather.Goals as goal

pub invariant_of-result : goal.invariant_of-result
invariant_of-result c =
    let e = c.gather_workers-made in
    let after = with_items_is c.args.workers e.new.workers (omega (arith, e.auto.workers, c.deref_mut.ensures.len)) in
    let stands = e.ensures.stands in
    let made = e.result in
    let n = length c.deref_mut.result.now in
    let room = room_of c.deref_mut.result.now in
    let state = (line_of e.new.workers made).state in
    record {
      rest = subst (λ (l : List LineWorker). AreAtRest l made) (sym after) e.ensures.rest;
      counts = subst (AreCounts (record { fired = made; steps = 0 })) (sym after) (new_counts room c.args.live.now state n e.new.workers made stands);
      all =
          subst (λ (l : List LineWorker). c.firings_of.result ≡ stations (graph_of l) * jobs (graph_of l)) (sym after) (
          new_all room c.args.live.now state n e.new.workers made stands c.firings_of.result c.firings_of.ensures);
      station_count =
          subst (λ (l : List LineWorker). c.stations.result ≡ stations (graph_of l)) (sym after) (
          new_station_count room c.args.live.now state n e.new.workers made stands c.stations.result (c.stations.ensures.count ∙ ap stations c.graph.ensures.graph));
      links = tt;
    }

pub returns-clause-line : goal.returns-clause-line
returns-clause-line c =
    at_rest_is_line (with_items c.args.workers c.gather_workers-made.new.workers).items c.gather_workers-made.result (invariant_of-result c).rest

pub gather_workers-made-requires-clause-workers : goal.gather_workers-made-requires-clause-workers
gather_workers-made-requires-clause-workers c = subst AreWorkers (sym c.deref_mut.ensures.value) c.requires.workers

pub gather_workers-made-requires-clause-made_for : goal.gather_workers-made-requires-clause-made_for
gather_workers-made-requires-clause-made_for c = c.requires.made_for ∙ ap live_of (sym c.deref_mut.ensures.value)

pub returns-clause-logs : goal.returns-clause-logs
returns-clause-logs c =
    let e = c.gather_workers-made in
    let after = with_items_is c.args.workers e.new.workers (omega (arith, e.auto.workers, c.deref_mut.ensures.len)) in
    ap (λ (l : List LineWorker). (line_of l e.result).state.logs) after
    ∙ e.ensures.logs
    ∙ ap logs_in c.deref_mut.ensures.value

pub returns-clause-stands : goal.returns-clause-stands
returns-clause-stands c =
    let e = c.gather_workers-made in
    let after = with_items_is c.args.workers e.new.workers (omega (arith, e.auto.workers, c.deref_mut.ensures.len)) in
    subst (λ (l : List LineWorker). StandsIn (room_of c.args.workers.items) c.args.live.now (line_of l e.result).state (length c.args.workers.items) (line_of l e.result)) (sym after) (
    subst (λ (l : List LineWorker). StandsIn (room_of l) c.args.live.now (line_of e.new.workers e.result).state (length l) (line_of e.new.workers e.result)) c.deref_mut.ensures.value e.ensures.stands)
