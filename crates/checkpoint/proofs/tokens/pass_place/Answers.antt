use Rattle.std.proofs.Common.{◌++◌, sym, ap, ◌∙◌, refl}
use Rattle.std.specs.Prelude.{codes, decimal}
use Rattle.checkpoint.proofs.ReadLines.{place_parts}
use Rattle.checkpoint.proofs.tokens.pass_place.Goals as goal

pub returns-then-not-pass-clause-tells : goal.returns-then-not-pass-clause-tells
returns-then-not-pass-clause-tells c after is =
    let first = c.if-not-pass.ensures.tells (decimal c.args.a ++ (codes " " ++ after)) (is ∙ place_parts c.args.a after) in
    let none : ⊥ = cc first.0 in
    absurd none

pub returns-then-not-pass_number-clause-tells : goal.returns-then-not-pass_number-clause-tells
returns-then-not-pass_number-clause-tells c after is =
    let first = c.if-not-pass.ensures.tells (decimal c.args.a ++ (codes " " ++ after)) (is ∙ place_parts c.args.a after) in
    let second = c.if-not-pass_number.ensures.tells (codes " " ++ after) first.1 in
    let none : ⊥ = cc second.0 in
    absurd none

pub returns-clause-passed : goal.returns-clause-passed
returns-clause-passed c third =
    c.if-not-pass.ensures.passed refl
    ∙ ap (λ l. codes "place " ++ l) (c.if-not-pass_number.ensures.passed refl ∙ ap (λ l. decimal c.args.a ++ l) (c.pass-2.ensures.passed third))
    ∙ sym (place_parts c.args.a c.pass-2.new.self.rest)

pub returns-clause-tells : goal.returns-clause-tells
returns-clause-tells c after is =
    let first = c.if-not-pass.ensures.tells (decimal c.args.a ++ (codes " " ++ after)) (is ∙ place_parts c.args.a after) in
    let second = c.if-not-pass_number.ensures.tells (codes " " ++ after) first.1 in
    c.pass-2.ensures.tells after second.1
