use Rattle.cycle_time.proofs.Passes.{IsPassed}
use Rattle.cycle_time.proofs.tree.Tree.pass.Given as goal

abbrev pub invariant-loop-step : goal.invariant-loop-step
invariant-loop-step l = IsPassed l.graph l.weights.weighing l.sweep l.fn.self l.self l.step l.last
