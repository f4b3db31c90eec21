-- Texts and numbers, one after another.
use Rattle.std.specs.Prelude.{ℕ, List, [], ◌∷◌, ◌++◌}
use Rattle.std.specs.Borrow.{Bor}
use Rattle.line_chart.specs.ChartText.{with_number}

-- texts, with a number behind each but the last
abbrev pub interleave : List (Bor (List ℕ)) → List ℕ → List ℕ
interleave [] numbers = []
interleave (text ∷ texts) [] = text.now
interleave (text ∷ texts) (n ∷ numbers) = with_number text.now n ++ interleave texts numbers
