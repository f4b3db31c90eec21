use Rattle.std.proofs.Common.{◌≡◌, ◌≤◌, refl, ap, ◌∙◌, length, arith}
use Rattle.event_graph.specs.Circuit.{time_along, tokens_on}
use Rattle.cycle_time.proofs.Ratios.{ratio_of, divisor_some}
use Rattle.cycle_time.proofs.circuit.ratio_of.Goals as goal

tokens_here : (c : goal.After-gcd-divisor) → c.tokens_of-tokens.result ≡ tokens_on c.args.graph.now c.args.circuit.items
tokens_here c = c.tokens_of-tokens.ensures.tokens ∙ ap (tokens_on c.args.graph.now) c.deref-2.ensures.value

divides : (c : goal.After-gcd-divisor) → 1 ≤ c.gcd-divisor.result
divides c =
    divisor_some c.time_of-time.result c.tokens_of-tokens.result c.gcd-divisor.result c.gcd-divisor.ensures
    (omega (arith, tokens_here c, c.requires.live c.args.circuit.items c.requires.circuit))

pub nonzero_div-result : goal.nonzero_div-result
nonzero_div-result c = divides c

pub nonzero_div-result-2 : goal.nonzero_div-result-2
nonzero_div-result-2 c = divides c

pub returns-clause-ratio : goal.returns-clause-ratio
returns-clause-ratio c =
    let g = c.args.graph.now in
    let arcs = c.args.circuit.items in
    let time = c.time_of-time.ensures.time ∙ ap (time_along g) c.deref.ensures.value in
    let first = ap (λ xs. length xs) c.deref.ensures.value in
    let second = ap (λ xs. length xs) c.deref-2.ensures.value in
    ratio_of g arcs c.time_of-time.result c.tokens_of-tokens.result c.gcd-divisor.result _ c.requires.circuit c.requires.live c.requires.few c.requires.exist time
    (omega (arith, c.time_of-time.ensures.small, first)) (tokens_here c) (omega (arith, c.tokens_of-tokens.ensures.small, second)) c.gcd-divisor.ensures refl refl refl
