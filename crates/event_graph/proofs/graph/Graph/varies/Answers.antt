use Rattle.std.proofs.Common.{◌≡◌, ◌∙◌, ℕ, ◌<◌, List, length, get_or, refl, ap, sym, subst, arith}
use Rattle.std.proofs.lemmas.Bool.{false≢true}
use Rattle.std.proofs.lemmas.List.{get_or_default}
use Rattle.line_base.specs.declared.event.Parts.{Parts}
use Rattle.line_base.specs.declared.times.Times.{Times}
use Rattle.line_base.specs.declared.times.Times.TheVariants.{Fixed}
use Rattle.event_graph.specs.Network.{IsGraph, stations}
use Rattle.event_graph.specs.Limits.{IsWithinLimits}
use Rattle.event_graph.specs.Varying.{IsList, Varies}
use Rattle.event_graph.proofs.graph.Graph.varies.Goals as goal

-- the times that were read are the station's
times_read : (g : Parts) (times : List Times) (t : ℕ) (d own : Times) → times ≡ g.times → t < length g.times → get_or times t d ≡ own → get_or g.times t (Fixed 0) ≡ own
times_read g times t d own same here read = get_or_default g.times t (Fixed 0) d here ∙ (sym (ap (λ xs. get_or xs t d) same) ∙ read)

pub returns-in-Each-clause-varies : goal.returns-in-Each-clause-varies
returns-in-Each-clause-varies c =
    let same : c.self.inside.parts ≡ c.args.self.now = c.self.view_is in
    let here : c.args.t < length c.self.inside.parts.times = omega (arith, c.requires, ap stations same, c.self.invariant.limits.times_for_each) in
    let read = times_read c.self.inside.parts _ c.args.t _ _ c.as_slice.ensures here c.in-Each.is in
    (λ _. subst (λ g. Varies g c.args.t) same (subst IsList (sym read) tt), λ _. refl)

pub returns-in-Fixed-clause-varies : goal.returns-in-Fixed-clause-varies
returns-in-Fixed-clause-varies c =
    let same : c.self.inside.parts ≡ c.args.self.now = c.self.view_is in
    let here : c.args.t < length c.self.inside.parts.times = omega (arith, c.requires, ap stations same, c.self.invariant.limits.times_for_each) in
    let read = times_read c.self.inside.parts _ c.args.t _ _ c.as_slice.ensures here c.in-Fixed.is in
    (λ e. absurd (false≢true e), λ varies. absurd (subst IsList read (subst (λ g. Varies g c.args.t) (sym same) varies)))

pub returns-in-Each-clause-graph : goal.returns-in-Each-clause-graph
returns-in-Each-clause-graph c = subst IsGraph c.self.view_is c.self.invariant.graph

pub returns-in-Each-clause-limits : goal.returns-in-Each-clause-limits
returns-in-Each-clause-limits c = subst IsWithinLimits c.self.view_is c.self.invariant.limits

pub returns-in-Fixed-clause-graph : goal.returns-in-Fixed-clause-graph
returns-in-Fixed-clause-graph c = subst IsGraph c.self.view_is c.self.invariant.graph

pub returns-in-Fixed-clause-limits : goal.returns-in-Fixed-clause-limits
returns-in-Fixed-clause-limits c = subst IsWithinLimits c.self.view_is c.self.invariant.limits

pub bounds-as_slice-t : goal.bounds-as_slice-t
bounds-as_slice-t c =
    omega (arith, c.requires, ap stations c.self.view_is, c.self.invariant.limits.times_for_each, ap (λ xs. length xs) c.as_slice.ensures)
