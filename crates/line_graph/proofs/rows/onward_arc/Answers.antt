use Rattle.std.proofs.Common.{◌≡◌, ◌+◌, ap, ◌∙◌, arith, length}
use Rattle.std.proofs.lemmas.Bool.{eq-eqb}
use Rattle.line_base.specs.declared.event.Arc.{Arc}
use Rattle.plant_model.specs.Stages.{Stage}
use Rattle.plant_model.specs.Line.{stage_at, starting}
use Rattle.line_graph.proofs.rows.onward_arc.Goals as goal

pub returns-then-number-len : goal.returns-then-number-len
returns-then-number-len c =
    let many = c.len.ensures ∙ ap (λ (s : Stage). length s.machines) c.stage.ensures in
    let machines = (stage_at c.args.layout.now c.args.stage).machines in
    let stock : c.plain_arc.result.tokens ≡ starting c.args.layout.now c.args.stage =
    omega (arith, ap (λ (a : Arc). a.tokens) c.plain_arc.ensures) in
    rw (eq-eqb (c.args.number + 1) (length machines) (c.if-number-len.true ∙ many)) (cc)
