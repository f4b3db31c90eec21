use Rattle.std.proofs.Common.{◌≡◌, ◌∙◌, ◌-◌, ◌+◌, length, ap, subst, arith}
use Rattle.plant_model.specs.ArcNumbers.{entry_arc, delivery_arc}
use Rattle.plant_model.specs.Sound.{IsSound}
use Rattle.plant_model.proofs.LayoutArcs.{entry_arc-all}
use Rattle.plant_model.proofs.LayoutFacts.{length-numbered, numbered-read, small_arcs}
use Rattle.plant_model.proofs.numbers.LineNumbers.policy_arc.Goals.{After-index}
use Rattle.plant_model.proofs.numbers.LineNumbers.policy_arc.Goals as goal

read : (c : After-index) → c.index.result.now ≡ delivery_arc c.args.self.now
read c =
    let p = c.args.self.now in
    let long = length-numbered entry_arc p _ _ c.self.view_is c.self.invariant.all_arcs in
    let last : c.len.result - 1 ≡ length p.stages = omega arith in
    let read = rw last at c.index.ensures in
    numbered-read entry_arc p _ _ (length p.stages) _ c.self.view_is c.self.invariant.all_arcs (omega arith) read ∙ entry_arc-all p

pub overflow_add-result : goal.overflow_add-result
overflow_add-result c =
    let at = (goal.at.overflow_add-result c).After-index in
    omega (arith, read at, small_arcs c.args.self.now (subst IsSound c.self.view_is c.self.invariant.sound))

pub returns : goal.returns
returns c = ap (λ n. n + 1) (read (goal.at.returns c).After-index)
