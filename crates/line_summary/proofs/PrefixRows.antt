-- Where a curve ends early, what was put is a prefix of the rows of all its counts.
use Rattle.std.proofs.Common.{◌≡◌, ℕ, ◌+◌, ◌≤◌, true, List, [], ◌∷◌, ◌++◌, length, refl, sym, ap, ◌∙◌, append_assoc, append-nil, arith}
use Rattle.line_base.specs.Limits.{most_cards}
use Rattle.plant_model.specs.declared.plant.Plant.{Plant}
use Rattle.plant_model.specs.Sound.{IsSound}
use Rattle.outside_io.specs.SinkView.{SinkView, PutsPrefix}
use Rattle.outside_io.proofs.WrittenLemmas.{puts_prefix_longer}
use Rattle.card_sizing.specs.Sized.{has_single_count}
use Rattle.line_summary.specs.Curve.{EndsEarly, PutsPrefixOfCurve}
use Rattle.line_summary.specs.CurveText.{row_of, rows_from}
use Rattle.line_summary.specs.Points.{ArePoints}
use Rattle.line_summary.specs.declared.curve.CurveError.{CurveError}
use Rattle.line_summary.specs.declared.curve.CurveError.TheVariants.{NoMemory, Failed}
use Rattle.line_summary.specs.declared.point.Point.{Point}
use Rattle.line_summary.proofs.SamePoints.{one_point}

module _ (p : Plant) (sound : IsSound p) (single : has_single_count p ≡ true) where
  -- the rows of more counts begin with those of fewer
  rows_begin : (c : ℕ) (xs ys : List Point) → length xs ≤ length ys → c + length ys ≤ most_cards + 1 → ArePoints p c xs → ArePoints p c ys → (rest : List ℕ) × (rows_from c ys ≡ rows_from c xs ++ rest)
  rows_begin c [] ys few within first whole = (rows_from c ys, refl)
  rows_begin c (x ∷ xs) [] few within first whole = absurd (omega arith)
  rows_begin c (x ∷ xs) (y ∷ ys) few within first whole =
      let later = rows_begin (c + 1) xs ys (omega arith) (omega arith) first.1 whole.1 in
      let same : x ≡ y = one_point p c x y sound single (omega arith) first.0 whole.0 in (
        later.0,
        ap (λ l. row_of c y ++ l) later.1
            ∙ sym (append_assoc (row_of c y) (rows_from (c + 1) xs) later.0)
            ∙ ap (λ z. (row_of c z ++ rows_from (c + 1) xs) ++ later.0) (sym same),
      )

  -- a prefix of the rows of fewer counts is one of the rows of all
  prefix_of_all : (c count : ℕ) (old new : SinkView) (xs : List Point) → c + count ≤ most_cards + 1 → length xs ≤ count → ArePoints p c xs → PutsPrefix old new (rows_from c xs) → PutsPrefixOfCurve p c count old new
  prefix_of_all c count old new xs within few first prefix =
      λ points number each.
      let begin = rows_begin c xs points (omega arith) (omega arith) first each in
      rw begin.1 (puts_prefix_longer old.written new.written (rows_from c xs) begin.0 prefix)

  early_prefix : (c count : ℕ) (old new : SinkView) (error : CurveError) → c + count ≤ most_cards + 1 → EndsEarly p c count old new error → PutsPrefixOfCurve p c count old new
  early_prefix c count old new NoMemory within early =
      let rows = early.rows in
      prefix_of_all c count old new rows.points within (omega (arith, early.fewer, rows.number)) rows.each
      (rows_from c rows.points, [], sym (append-nil (rows_from c rows.points)), rows.puts)
  early_prefix c count old new Failed within early =
      prefix_of_all c count old new early.points within early.few early.each early.puts

  -- what ends early, with the prefix that it leaves
  pub ends_early : (c count : ℕ) (old new : SinkView) (error : CurveError) → c + count ≤ most_cards + 1 → EndsEarly p c count old new error → EndsEarly p c count old new error × PutsPrefixOfCurve p c count old new
  ends_early c count old new error within early = (early, early_prefix c count old new error within early)
