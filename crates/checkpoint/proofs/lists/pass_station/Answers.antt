use Rattle.std.proofs.Common.{◌++◌, List, ℕ, sym, ap, ◌∙◌, refl}
use Rattle.std.specs.Prelude.{codes}
use Rattle.event_graph.specs.Network.{label}
use Rattle.checkpoint.proofs.ReadLines.{station_parts}
use Rattle.checkpoint.proofs.lists.pass_station.Goals as goal

pub returns-then-not-pass-clause-tells : goal.returns-then-not-pass-clause-tells
returns-then-not-pass-clause-tells c after is =
    let first = c.if-not-pass.ensures.tells (label c.args.graph.now c.args.t ++ (codes " " ++ after)) (is ∙ station_parts c.args.graph.now c.args.t after) in
    let none : ⊥ = cc first.0 in
    absurd none

pub returns-then-not-pass-2-clause-tells : goal.returns-then-not-pass-2-clause-tells
returns-then-not-pass-2-clause-tells c after is =
    let first = c.if-not-pass.ensures.tells (label c.args.graph.now c.args.t ++ (codes " " ++ after)) (is ∙ station_parts c.args.graph.now c.args.t after) in
    let second = c.if-not-pass-2.ensures.tells (codes " " ++ after) (first.1 ∙ ap (λ (l : List ℕ). l ++ (codes " " ++ after)) (sym c.label.ensures.text)) in
    let none : ⊥ = cc second.0 in
    absurd none

pub returns-clause-passed : goal.returns-clause-passed
returns-clause-passed c third =
    c.if-not-pass.ensures.passed refl
    ∙ ap (λ l. codes "station " ++ l) (c.if-not-pass-2.ensures.passed refl ∙ ap (λ (l : List ℕ). l ++ c.pass-2.new.self.rest) c.label.ensures.text ∙ ap (λ l. label c.args.graph.now c.args.t ++ l) (c.pass-3.ensures.passed third))
    ∙ sym (station_parts c.args.graph.now c.args.t c.pass-3.new.self.rest)

pub returns-clause-tells : goal.returns-clause-tells
returns-clause-tells c after is =
    let first = c.if-not-pass.ensures.tells (label c.args.graph.now c.args.t ++ (codes " " ++ after)) (is ∙ station_parts c.args.graph.now c.args.t after) in
    let second = c.if-not-pass-2.ensures.tells (codes " " ++ after) (first.1 ∙ ap (λ (l : List ℕ). l ++ (codes " " ++ after)) (sym c.label.ensures.text)) in
    c.pass-3.ensures.tells after second.1
