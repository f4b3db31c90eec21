use Rattle.std.proofs.Common.{◌≡◌, ◌∷◌, ◌++◌, map, take, codes}
use Rattle.line_graph.specs.Labels.{AreLabels}
use Rattle.line_graph.proofs.labels.add_stage_labels.Given as goal

abbrev pub invariant-loop-machine : goal.invariant-loop-machine
invariant-loop-machine l =
    (l.all.items ≡ l.fn.all.items ++ (l.stage.name ∷ map (λ m. l.stage.name ++ codes "." ++ m.name) (take l.machine-index l.stage.machines)))
    × (AreLabels l.fn.all.items → AreLabels l.all.items)
