use Rattle.std.proofs.Common.{◌≡◌, drop}
use Rattle.plant_lint.specs.Headers.{has_line}
use Rattle.plant_lint.proofs.headers.has_line.Given as goal

abbrev pub invariant-loop-n : goal.invariant-loop-n
invariant-loop-n l = has_line l.start (drop l.n l.text) ≡ has_line l.start l.text
