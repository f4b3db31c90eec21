use Rattle.std.proofs.Common.{◌≡◌, ◌<◌, ◌∷◌, [], refl, ℕ, List, arith, length, sym, ap, ◌∙◌, subst}
use Rattle.std.proofs.lemmas.Result.{IfOk-from_err}
use Rattle.event_graph.specs.Network.{outs, delay}
use Rattle.std.specs.Prelude.{slice_index}
use Rattle.line_base.specs.declared.event.Parts.{Parts}
use Rattle.station_step.specs.Noted.{outlets_of, delays_of, delays_from}
use Rattle.station_step.specs.declared.ends.Outlet.{Outlet}
use Rattle.station_step.specs.declared.noted.NotedOutlet.{NotedOutlet}
use Rattle.station_step.proofs.NotedExtras.{DelaysUpTo, delays-count, delays_more, delays_all}
use Rattle.station_step.proofs.noted.with_delays.Goals as goal

pub loop-outlet-init : goal.loop-outlet-init
loop-outlet-init c =
    let t = c.args.t in
    let all = c.args.outlets.items in
    let rest = c.into_iter-outlet-iterator.result.rest.items in
    let none : List NotedOutlet = [] in
    subst (λ (l : List NotedOutlet). DelaysUpTo c.args.graph.now t l rest all) (sym c.in_ok-noted.ensures.items)
    (subst (λ (l : List Outlet). DelaysUpTo c.args.graph.now t none l all) (sym c.into_iter-outlet-iterator.ensures.into_iter_gives.0) (record { outlets = refl; delays = refl }))

pub loop-outlet-preserved : goal.loop-outlet-preserved
loop-outlet-preserved c =
    let g = c.args.graph.now in
    let t = c.args.t in
    let all = c.args.outlets.items in
    let noted = c.loop-outlet.noted.items in
    let left = c.next.new.self.rest.items in
    let o = c.in-Some.outlet in
    let d = c.delay-delay.result in
    let up_to : DelaysUpTo g t noted (o ∷ left) all =
    subst (λ (l : List Outlet). DelaysUpTo g t noted l all) c.in-Some.ensures.steps.0 c.loop-outlet.invariant in
    let k : c.len.result ≡ length noted = omega (arith, c.len.ensures, c.loop-outlet.noted.ok.0) in
    let d_is : d ≡ delay g (slice_index (outs g t) (length noted)) =
    c.delay-delay.ensures.delay
    ∙ ap (λ (l : List ℕ). delay g (slice_index l c.len.result)) c.outs-outs.ensures.arcs
    ∙ ap (λ (n : ℕ). delay g (slice_index (outs g t) n)) k in
    subst (λ (l : List NotedOutlet). DelaysUpTo g t l left all) (sym c.in_ok-push.ensures.items)
    (delays_more g t noted o d left all c.requires.an_outlet_each d_is up_to)

-- no outlet is left
all : (c : goal.After-drop-outlet-iterator-2) → (outlets_of c.loop-outlet.noted.items ≡ c.args.outlets.items) × (delays_of c.loop-outlet.noted.items ≡ delays_from c.args.graph.now c.args.t)
all c =
    delays_all c.args.graph.now c.args.t c.loop-outlet.noted.items c.loop-outlet.outlet-iterator.rest.items c.args.outlets.items c.requires.an_outlet_each
    (omega (arith, c.in-None.ensures.steps.0, c.loop-outlet.outlet-iterator.rest.ok.0))
    c.loop-outlet.invariant

pub returns-clause-outlets : goal.returns-clause-outlets
returns-clause-outlets c = (all c).0

pub returns-clause-delays : goal.returns-clause-delays
returns-clause-delays c = (all c).1

-- an arc is left for the outlet
arc_there : (g : Parts) (t taken : ℕ) (noted : List NotedOutlet) (o : Outlet) (before left all : List Outlet) → length all ≡ length (outs g t) → before ≡ o ∷ left → taken ≡ length noted → DelaysUpTo g t noted before all → taken < length (outs g t)
arc_there g t taken noted o before left all each is count up_to =
    omega (arith, each, count, ap length is, delays-count g t noted before all up_to)

pub bounds-outs-len : goal.bounds-outs-len
bounds-outs-len c =
    omega (
      arith,
      ap length c.outs-outs.ensures.arcs,
      arc_there c.args.graph.now c.args.t c.len.result c.loop-outlet.noted.items c.in-Some.outlet c.loop-outlet.outlet-iterator.rest.items c.next.new.self.rest.items c.args.outlets.items c.requires.an_outlet_each c.in-Some.ensures.steps.0 (omega (arith, c.len.ensures, c.loop-outlet.noted.ok.0)) c.loop-outlet.invariant,
    )

pub returns-in_err-noted-clause-outlets : goal.returns-in_err-noted-clause-outlets
returns-in_err-noted-clause-outlets c =
    IfOk-from_err c.from_residual.result (λ noted. outlets_of noted.items ≡ c.args.outlets.items) c.from_residual.ensures.0

pub returns-in_err-noted-clause-delays : goal.returns-in_err-noted-clause-delays
returns-in_err-noted-clause-delays c =
    IfOk-from_err c.from_residual.result (λ noted. delays_of noted.items ≡ delays_from c.args.graph.now c.args.t) c.from_residual.ensures.0

pub returns-in_err-push-clause-outlets : goal.returns-in_err-push-clause-outlets
returns-in_err-push-clause-outlets c =
    IfOk-from_err c.from_residual-in_err-push.result (λ noted. outlets_of noted.items ≡ c.args.outlets.items) c.from_residual-in_err-push.ensures.0

pub returns-in_err-push-clause-delays : goal.returns-in_err-push-clause-delays
returns-in_err-push-clause-delays c =
    IfOk-from_err c.from_residual-in_err-push.result (λ noted. delays_of noted.items ≡ delays_from c.args.graph.now c.args.t) c.from_residual-in_err-push.ensures.0

pub delay-delay-requires : goal.delay-delay-requires
delay-delay-requires c =
    let low = arc_there c.args.graph.now c.args.t c.len.result c.loop-outlet.noted.items c.in-Some.outlet c.loop-outlet.outlet-iterator.rest.items c.next.new.self.rest.items c.args.outlets.items c.requires.an_outlet_each c.in-Some.ensures.steps.0 (omega (arith, c.len.ensures, c.loop-outlet.noted.ok.0)) c.loop-outlet.invariant in
    (c.outs-outs.ensures.each c.len.result 0 (omega (arith, low, ap length c.outs-outs.ensures.arcs))).0
