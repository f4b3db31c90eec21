-- The text of a curve: a row for each count of cards.
use Rattle.std.specs.Prelude.{ℕ, ◌+◌, List, [], ◌∷◌, ◌++◌, codes, decimal}
use Rattle.line_report.specs.ReportText.{line}
use Rattle.line_summary.specs.Thousandths.{thousandths}
use Rattle.line_summary.specs.declared.figures.Figures.{Figures}
use Rattle.line_summary.specs.declared.point.Point.{Point}
use Rattle.line_summary.specs.declared.point.Point.TheVariants.{TooFew, Dead, Alive}

-- c cards are fewer than the stock needs
unfoldable pub too_few_row : ℕ → List ℕ
too_few_row c = line (codes "cards" ∷ decimal c ∷ codes "too" ∷ codes "few" ∷ [])

-- with c cards the line isn't live
unfoldable pub dead_row : ℕ → List ℕ
dead_row c = line (codes "cards" ∷ decimal c ∷ codes "dead" ∷ [])

-- with c cards the line has these figures: the last date, the jobs delivered in a unit of time, the mean wait and the
-- greatest, and the mean number of parts in the line
unfoldable pub figures_row : ℕ → Figures → List ℕ
figures_row c f =
    line
    (codes "cards" ∷ decimal c ∷ codes "last" ∷ decimal f.last ∷ codes "throughput" ∷ thousandths f.jobs f.last
    ∷ codes "wait" ∷ codes "mean" ∷ thousandths f.waited f.jobs ∷ codes "most" ∷ decimal f.most
    ∷ codes "wip" ∷ codes "mean" ∷ thousandths f.parts f.last ∷ [])

-- the row of what c cards give
abbrev pub row_of : ℕ → Point → List ℕ
row_of c TooFew = too_few_row c
row_of c Dead = dead_row c
row_of c (Alive f) = figures_row c f

-- the rows of what the counts from c on give
abbrev pub rows_from : ℕ → List Point → List ℕ
rows_from c [] = []
rows_from c (point ∷ points) = row_of c point ++ rows_from (c + 1) points
