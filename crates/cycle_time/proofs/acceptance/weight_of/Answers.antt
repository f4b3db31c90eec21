use Rattle.std.proofs.Common.{◌*◌, ◌≤◌, arith, ap, ◌∙◌}
use Rattle.std.proofs.lemmas.Nat.{mul-le}
use Rattle.std.proofs.lemmas.Int.{ints}
use Rattle.event_graph.proofs.Sizes.{tokens-small}
use Rattle.cycle_time.specs.Certificate.{most_ratio_time, most_ratio_cards}
use Rattle.cycle_time.proofs.acceptance.weight_of.Goals as goal

gain_small : (c : goal.After-from-4) → c.from.result * c.from-2.result ≤ most_ratio_cards * 2_000_000_000
gain_small c = mul-le c.from.result c.from-2.result most_ratio_cards 2_000_000_000 (omega arith) (omega arith)

loss_small : (c : goal.After-from-4) → c.from-3.result * c.from-4.result ≤ most_ratio_time * 10_000
loss_small c =
    mul-le c.from-3.result c.from-4.result most_ratio_time 10_000 (omega arith)
    (omega (arith, tokens-small c.args.graph.now c.args.a c.tokens.ensures.limits))

pub overflow_sub-result : goal.overflow_sub-result
overflow_sub-result c = omega (arith, ints, gain_small c, loss_small c)

pub returns-clause-low : goal.returns-clause-low
returns-clause-low c = omega (arith, ints, gain_small c, loss_small c)

pub returns-clause-high : goal.returns-clause-high
returns-clause-high c = omega (arith, ints, gain_small c, loss_small c)

pub returns-clause-weight : goal.returns-clause-weight
returns-clause-weight c =
    let gain = ap (λ x. x * c.from-2.result) c.from.ensures ∙ ap (λ y. c.args.cards * y) (c.from-2.ensures ∙ c.time_on.ensures.time) in
    let loss = ap (λ x. x * c.from-4.result) c.from-3.ensures ∙ ap (λ y. c.args.time * y) (c.from-4.ensures ∙ c.tokens.ensures.tokens) in
    omega (arith, ints, gain_small c, loss_small c, gain, loss)
