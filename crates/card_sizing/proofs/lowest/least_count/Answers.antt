use Rattle.std.proofs.Common.{◌<◌, List, ap, ◌∙◌, arith, length, get_or}
use Rattle.std.proofs.lemmas.List.{get_or_default}
use Rattle.plant_model.specs.Stages.{Stage}
use Rattle.plant_model.specs.Line.{no_stage}
use Rattle.card_sizing.proofs.lowest.least_count.Goals as goal

pub returns-in-Extended : goal.returns-in-Extended
returns-in-Extended c =
    let i = c.args.stage in
    let stages = c.as_slice.result.now in
    let inside : i < length stages = omega (arith, c.requires, ap length c.as_slice.ensures) in
    let read = get_or_default stages i c.index-as_slice-stage.result no_stage inside ∙ ap (λ (ss : List Stage). get_or ss i no_stage) c.as_slice.ensures in
    rw c.in-Extended.is (ap (λ (s : Stage). s.stock) read)
