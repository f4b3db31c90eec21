use Rattle.std.proofs.Common.{ℕ, List, ◌≡◌, ◌-◌, ◌<◌, ◌≤◌, length, map, slice_index, ap, ◌∙◌, sym, subst, arith}
use Rattle.std.proofs.lemmas.List.{get_or_default}
use Rattle.std.proofs.lemmas.Result.{IfOk-from_err}
use Rattle.line_base.specs.declared.event.Arc.{Arc}
use Rattle.line_base.specs.declared.event.Parts.{Parts}
use Rattle.event_graph.specs.Network.{arc, arc_count, delay}
use Rattle.station_step.specs.declared.source.Source.{Source}
use Rattle.line_setup.specs.Making.{source_of}
use Rattle.line_setup.proofs.MadeStations.{one_more_source}
use Rattle.line_setup.proofs.making.new_sources.Goals as goal
use Rattle.line_setup.proofs.making.new_sources.Goals.{After-deref-a-items}

-- the arc whose turn it is
abbrev here : (c : After-deref-a-items) → ℕ → ℕ
here c k = slice_index c.deref-a-items.result.now k

arc_is : (c : After-deref-a-items) (k : ℕ) → slice_index c.args.arcs.now.items k ≡ here c k
arc_is c k = sym (ap (λ (l : List ℕ). slice_index l k) c.deref-a-items.ensures.value)

there : (c : After-deref-a-items) (k : ℕ) → k < length c.deref-a-items.result.now → k < length c.args.arcs.now.items
there c k low = omega (arith, low, ap length c.deref-a-items.ensures.value)

pub arc-requires : goal.arc-requires
arc-requires c =
    let from = (goal.at.arc-requires c).After-deref-a-items in
    let k = c.loop-a.a-index in
    let low = c.loop-a-test.true in
    subst (λ (p : Parts). here from k < arc_count p) (sym c.graph-graph.ensures.graph) (
    subst (λ (a : ℕ). a < arc_count c.args.live.now.graph) (arc_is from k) (c.requires.exist k (there from k low)))

pub overflow_sub-arc : goal.overflow_sub-arc
overflow_sub-arc c =
    let from = (goal.at.overflow_sub-arc c).After-deref-a-items in
    let k = c.loop-a.a-index in
    let low = c.loop-a-test.true in
    let own = subst (λ (a : ℕ). c.args.first ≤ (arc c.args.live.now.graph a).from) (arc_is from k) (c.requires.own k (there from k low)) in
    omega (arith, own, ap (λ (a : Arc). a.from) (c.arc.ensures.arc ∙ ap (λ (p : Parts). arc p (here from k)) c.graph-graph.ensures.graph))

pub loop-a-preserved : goal.loop-a-preserved
loop-a-preserved c =
    let from = (goal.at.loop-a-preserved c).After-deref-a-items in
    let g = c.args.live.now.graph in
    let first = c.args.first in
    let k = c.loop-a.a-index in
    let low = c.loop-a-test.true in
    let a = here from k in
    let source : ℕ → ℕ → Source = λ station delay. record { station = station; delay = delay } in
    let found = c.arc.ensures.arc ∙ ap (λ (p : Parts). arc p a) c.graph-graph.ensures.graph in
    let delayed = c.delay.ensures.delay ∙ ap (λ (p : Parts). delay p a) c.graph-graph.ensures.graph in
    one_more_source g first c.args.arcs.now.items k a c.loop-a.sources.items c.push.new.self.items (source (c.arc.result.from - first) c.delay.result)
    (there from k low) (sym (arc_is from k) ∙ get_or_default c.args.arcs.now.items k _ a (there from k low)) c.loop-a.invariant
    (ap (λ (b : Arc). source (b.from - first) c.delay.result) found ∙ ap (source ((arc g a).from - first)) delayed)
    c.in_ok-push.ensures.items

pub returns-in_err-sources : goal.returns-in_err-sources
returns-in_err-sources c =
    IfOk-from_err c.from_residual.result (λ sources. sources.items ≡ map (source_of c.args.live.now.graph c.args.first) c.args.arcs.now.items) c.from_residual.ensures.0

pub returns-in_err-push : goal.returns-in_err-push
returns-in_err-push c =
    IfOk-from_err c.from_residual-in_err-push.result (λ sources. sources.items ≡ map (source_of c.args.live.now.graph c.args.first) c.args.arcs.now.items) c.from_residual-in_err-push.ensures.0
