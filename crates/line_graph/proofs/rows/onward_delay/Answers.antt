use Rattle.std.proofs.Common.{◌≡◌, ◌+◌, length, refl, ap, ◌∙◌, arith}
use Rattle.std.proofs.lemmas.Bool.{eq-eqb, ne_eqb}
use Rattle.plant_model.specs.Stages.{Stage}
use Rattle.plant_model.specs.Line.{stage_at}
use Rattle.line_graph.proofs.rows.onward_delay.Goals as goal

pub returns-then-number-len : goal.returns-then-number-len
returns-then-number-len c =
    let many = c.len.ensures ∙ ap (λ (s : Stage). length s.machines) c.stage-feeder.ensures in
    let machines = (stage_at c.args.layout.now c.args.stage).machines in
    let last : c.args.number + 1 ≡ length machines = omega (arith, c.if-number-len.true, many) in
    rw (eq-eqb (c.args.number + 1) (length machines) last) (ap (λ (s : Stage). s.travel) c.stage-feeder.ensures)

pub returns-else-number-len : goal.returns-else-number-len
returns-else-number-len c =
    let many = c.len.ensures ∙ ap (λ (s : Stage). length s.machines) c.stage-feeder.ensures in
    let machines = (stage_at c.args.layout.now c.args.stage).machines in
    rw (ne_eqb (c.args.number + 1) (length machines) (λ last. omega (arith, c.if-number-len.false, many, last))) refl
