use Rattle.std.proofs.Common.{◌≡◌, ◌∷◌, take, codes}
use Rattle.std.specs.List.{flat_map}
use Rattle.plant_model.specs.Graph.{stage_labels}
use Rattle.line_graph.specs.Labels.{AreLabels}
use Rattle.line_graph.proofs.labels.fill_labels.Given as goal

abbrev pub invariant-loop-stage : goal.invariant-loop-stage
invariant-loop-stage l =
    (l.all.items ≡ codes "feed" ∷ flat_map stage_labels (take l.stage-index l.plant.stages)) × AreLabels l.all.items
