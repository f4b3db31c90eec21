use Rattle.std.proofs.Common.{length, ap, ◌∙◌, arith}
use Rattle.line_base.specs.declared.event.Parts.{Parts}
use Rattle.event_graph.specs.Network.{arc, stations}
use Rattle.line_setup.specs.Making.{QueueEnds}
use Rattle.line_setup.proofs.LaidEnds.{laid_plain_read, on_ok}
use Rattle.line_setup.proofs.laying.Ends.join_within.Goals as goal

pub returns : goal.returns
returns c =
    let shelved = c.in_ok-number.ensures in
    let tokens = c.in_ok-tokens_on in
    let asked = c.requires in
    on_ok c.lay.result _ _ (
    laid_plain_read c.args.start.now c.args.self.now c.shelve.new.self c.lay.new.self c.args.a c.args.worker_number c.in_ok-number.number c.arc-arc.result tokens.field-0.items c.graph.ensures.ranked.sound asked.arc (c.arc-arc.ensures.arc ∙ ap (λ (p : Parts). arc p c.args.a) c.graph.ensures.graph) asked.laid asked.worker_number asked.puts asked.takes tokens.ensures.tokens c.tokens_on.ensures.few shelved.number shelved.shelved)
    c.lay.ensures

pub shelve-requires-clause-worker_number : goal.shelve-requires-clause-worker_number
shelve-requires-clause-worker_number c = omega (arith, c.requires.worker_number, c.requires.laid.shelves)

pub shelve-requires-clause-arcs : goal.shelve-requires-clause-arcs
shelve-requires-clause-arcs c = omega (arith, c.requires.worker_number, c.requires.laid.arc_lists)

pub lay-requires-clause-from : goal.lay-requires-clause-from
lay-requires-clause-from c =
    omega (arith, c.arc-arc.ensures.starts, ap stations c.graph.ensures.graph, c.requires.laid.outlet_lists, ap (λ (e : QueueEnds). length e.outlets) c.in_ok-number.ensures.shelved)

pub lay-requires-clause-to : goal.lay-requires-clause-to
lay-requires-clause-to c =
    omega (arith, c.arc-arc.ensures.ends, ap stations c.graph.ensures.graph, c.requires.laid.inlet_lists, ap (λ (e : QueueEnds). length e.inlets) c.in_ok-number.ensures.shelved)
