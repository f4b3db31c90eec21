use Rattle.std.proofs.Common.{◌≡◌, drop}
use Rattle.std.specs.List.{find, range_with_len}
use Rattle.plant_lint.specs.Paths.{begins_with, row_of, table_in}
use Rattle.plant_lint.proofs.paths.row_of.Given as goal

abbrev pub invariant-loop-n : goal.invariant-loop-n
invariant-loop-n l =
    find (λ n. begins_with l.path (table_in l.tables n)) (drop l.n (range_with_len 0 l.count)) ≡ row_of l.tables l.count l.path
