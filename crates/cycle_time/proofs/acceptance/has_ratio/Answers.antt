use Rattle.std.proofs.Common.{◌≡◌, ℕ, ◌*◌, ◌≤◌, IsTrue, List}
use Rattle.std.proofs.lemmas.Bool.{eqb-true, eq-eqb}
use Rattle.std.specs.Prelude.{◌↔◌, eqb}
use Rattle.line_base.specs.declared.event.Parts.{Parts}
use Rattle.event_graph.specs.Circuit.{IsCircuit, tokens_on, time_along}
use Rattle.cycle_time.specs.Certificate.{HasRatio}
use Rattle.cycle_time.proofs.acceptance.has_ratio.Goals as goal

-- where a circuit holds a token, only the products are left to compare
tested : (g : Parts) (time cards : ℕ) (arcs : List ℕ) → IsCircuit g arcs → 1 ≤ tokens_on g arcs → IsTrue (eqb (time_along g arcs * cards) (tokens_on g arcs * time)) ↔ HasRatio g time cards arcs
tested g time cards arcs circuit some = (
  λ same. record { circuit = circuit; some = some; ratio = eqb-true _ _ same },
  λ has. eq-eqb _ _ has.ratio,
)

pub returns-then-tokens-ge1 : goal.returns-then-tokens-ge1
returns-then-tokens-ge1 c =
    let g = c.args.graph.now in
    let given = c.args.given.now in
    let circuit = rw c.as_slice-arcs.ensures at (c.is_circuit.ensures.0 c.if-tokens-ge1.true.0) in
    let some = rw (c.from-tokens.ensures, c.tokens_of.ensures.tokens, c.as_slice-arcs.ensures) at c.if-tokens-ge1.true.1 in
    rw (c.from-time.ensures, c.time_of.ensures.time, c.from-tokens.ensures, c.tokens_of.ensures.tokens, c.from.ensures, c.from-then-tokens-ge1.ensures, c.as_slice-arcs.ensures)
    (tested g given.time given.cards given.circuit circuit some)
