use Rattle.std.proofs.Common.{◌≡◌, ℕ, ◌<◌, List, [], ◌∷◌, length, get_or, sym, ap, ◌∙◌, subst, arith}
use Rattle.std.specs.Prelude.{None, Some}
use Rattle.std.specs.List.{slice_get}
use Rattle.std.proofs.lemmas.Bool.{false≢true}
use Rattle.line_base.specs.declared.event.Arc.{Arc}
use Rattle.line_base.specs.declared.event.Parts.{Parts}
use Rattle.event_graph.specs.Network.{arc}
use Rattle.event_graph.specs.Circuit.{IsWalk, IsCircuit}
use Rattle.cycle_time.proofs.Circuits.{circuit_walk}
use Rattle.cycle_time.proofs.circuit.is_circuit.Goals as goal

-- no arcs are no circuit
no_circuit : (g : Parts) (arcs : List ℕ) → None ≡ slice_get arcs 0 → IsCircuit g arcs → ⊥
no_circuit g [] none circuit = omega (arith, circuit.some)
no_circuit g (a ∷ arcs) none circuit = cc

-- the first of some arcs
first_is : (arcs : List ℕ) (a : ℕ) → Some a ≡ slice_get arcs 0 → (0 < length arcs) × (a ≡ get_or arcs 0 0)
first_is [] a some = cc
first_is (b ∷ arcs) a some = (omega arith, cc)

pub returns-in_default : goal.returns-in_default
returns-in_default c = (
  λ no. absurd (false≢true no),
  λ circuit. absurd (no_circuit c.args.graph.now c.args.arcs.now c.in_default.ensures.value circuit),
)

pub returns-then-lead_back : goal.returns-then-lead_back
returns-then-lead_back c = (
  λ yes. record {
    some = (first_is c.args.arcs.now c.in-Some.first.now c.in-Some.ensures.value).0;
    base = c.arc-start.result.from;
    closed = c.lead_back.ensures.0 c.if-lead_back.true;
    distinct = c.leave_distinct.ensures.0 yes;
  },
  λ circuit. c.leave_distinct.ensures.1 circuit.distinct,
)

pub returns-else-lead_back : goal.returns-else-lead_back
returns-else-lead_back c =
    let g = c.args.graph.now in
    let arcs = c.args.arcs.now in
    let first = (first_is arcs c.in-Some.first.now c.in-Some.ensures.value).1 in
    let start = ap (λ (b : Arc). b.from) c.arc-start.ensures.arc ∙ ap (λ a. (arc g a).from) first in (
      λ yes. absurd (false≢true (sym c.if-lead_back.false ∙ yes)),
      λ circuit. c.lead_back.ensures.1 (subst (λ t. IsWalk g t arcs t) (sym start) (circuit_walk g arcs circuit)),
    )
