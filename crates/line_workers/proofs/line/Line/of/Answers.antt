use Rattle.std.proofs.Common.{sym, ap, ◌∙◌, subst}
use Rattle.line_base.specs.declared.event.Parts.{Parts}
use Rattle.event_graph.specs.Network.{stations}
use Rattle.event_graph.specs.Reached.{Reached}
use Rattle.live_check.specs.Order.{LiveGraph}
use Rattle.line_worker.specs.Workers.{graph_of}
use Rattle.line_workers.specs.Link.{links_of}
use Rattle.line_workers.proofs.AllFirings.{new_counts, new_all, new_station_count}
use Rattle.line_workers.proofs.Lines.{at_rest_is_line, new_at_rest, new_stands}
use Rattle.line_workers.proofs.line.Line.of.Goals as goal

pub workers_of-requires-clause-may_begin : goal.workers_of-requires-clause-may_begin
workers_of-requires-clause-may_begin c =
    let asked = c.requires in
    record { made_for = asked.made_for; some = asked.some; few = asked.few; fits = asked.fits }

pub invariant_of-result : goal.invariant_of-result
invariant_of-result c =
    let reached = subst (λ (g : Parts). Reached g c.args.state.now.state) (sym c.requires.made_for) c.fired-made.ensures.reached.reached in
    let live = c.args.live.now in
    let begun = c.args.state.now.state in
    let n = c.args.worker_count in
    let room = c.args.room in
    let workers = c.in_ok-workers.workers.items in
    let made = c.fired-made.result in
    let stands = new_stands live begun n room workers made c.in_ok-workers.ensures reached c.requires.few c.fired-made.ensures.fired in
    record {
      rest = new_at_rest live begun n room workers made c.in_ok-workers.ensures reached c.requires.few c.fired-made.ensures.fired;
      counts = new_counts room live begun n workers made stands;
      all = new_all room live begun n workers made stands c.firings_of.result c.firings_of.ensures;
      station_count = new_station_count room live begun n workers made stands c.stations.result (c.stations.ensures.count ∙ ap stations c.graph.ensures.graph);
      links =
          c.in_ok-links.ensures
          ∙ ap (λ (v : LiveGraph). links_of v.graph n) (sym stands.live_is)
          ∙ ap (links_of (graph_of workers)) (sym stands.workers_are);
    }

pub returns-clause-stands : goal.returns-clause-stands
returns-clause-stands c =
    let reached = subst (λ (g : Parts). Reached g c.args.state.now.state) (sym c.requires.made_for) c.fired-made.ensures.reached.reached in
    new_stands c.args.live.now c.args.state.now.state c.args.worker_count c.args.room c.in_ok-workers.workers.items c.fired-made.result c.in_ok-workers.ensures reached c.requires.few c.fired-made.ensures.fired

pub returns-clause-line : goal.returns-clause-line
returns-clause-line c = at_rest_is_line c.in_ok-workers.workers.items c.fired-made.result (invariant_of-result c).rest
