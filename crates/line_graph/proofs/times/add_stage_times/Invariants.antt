use Rattle.std.proofs.Common.{◌≡◌, ◌∷◌, ◌++◌, map, take}
use Rattle.line_base.specs.declared.times.Times.TheVariants.{Fixed}
use Rattle.line_graph.proofs.times.add_stage_times.Given as goal

abbrev pub invariant-loop-machine : goal.invariant-loop-machine
invariant-loop-machine l =
    l.all.items ≡ l.fn.all.items ++ (Fixed 0 ∷ map (λ m. m.times) (take l.machine-index l.stage.machines))
