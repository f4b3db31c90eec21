-- All least solutions of a plant's graph have the same figures, and so the same points.
use Rattle.std.proofs.Common.{◌≡◌, ℕ, ◌+◌, ◌-◌, ◌<◌, ◌≤◌, Bool, true, false, List, [], ◌∷◌, length, refl, sym, ap, ◌∙◌, cond, eqb, sum_by, arith}
use Rattle.std.specs.Prelude.{Some, find, unwrap_or}
use Rattle.std.specs.List.{All, range_with_len}
use Rattle.std.proofs.lemmas.List.Elements.{All-head, All-tail}
use Rattle.line_base.specs.Limits.{most_cards}
use Rattle.plant_model.specs.declared.plant.Plant.{Plant}
use Rattle.plant_model.specs.Line.{stage_numbers}
use Rattle.plant_model.specs.Graph.{graph}
use Rattle.plant_model.specs.Sound.{IsSound}
use Rattle.event_graph.specs.Network.{stations, jobs}
use Rattle.event_graph.specs.Table.{Table, date_in, IsSameTable}
use Rattle.event_graph.proofs.Greatest.{greatest-same}
use Rattle.line_graph.proofs.SharedRows.{sum_by-alike}
use Rattle.line_graph.proofs.Sizes.{stations-graph}
use Rattle.line_stats.specs.Counts.{job_numbers, in_process, in_move, in_stock}
use Rattle.line_stats.proofs.SameCounts.{All-numbers, in_process-same, in_move-same, in_stock-same, last_date-same, waiting-same}
use Rattle.line_summary.specs.Figures.{figures}
use Rattle.line_summary.specs.OverTime.{sum_until, stage_sum, parts_sum}
use Rattle.line_summary.specs.Waits.{wait, first_of, most_wait, worst_job}
use Rattle.line_summary.specs.declared.figures.Figures.{Figures}
use Rattle.card_sizing.specs.Sized.{has_single_count, sized_plant}
use Rattle.card_sizing.proofs.SizedSound.{sound_sized}
use Rattle.line_summary.specs.Laws.{HasOneCurve}
use Rattle.line_summary.specs.Points.{AreFigures, IsPoint}
use Rattle.line_summary.specs.declared.point.Point.{Point}
use Rattle.line_summary.specs.declared.point.Point.TheVariants.{TooFew, Dead, Alive}

-- the first of one number and others
first_of-cons : (f h : ℕ → Bool) (n : ℕ) (ns : List ℕ) (v : Bool) → first_of f ns ≡ first_of h ns → unwrap_or (cond v (Some n) (find f ns)) 0 ≡ unwrap_or (cond v (Some n) (find h ns)) 0
first_of-cons f h n ns true same = refl
first_of-cons f h n ns false same = same

-- tests that are the same on each number of a list find the same one first
first_of-same : (f h : ℕ → Bool) (ns : List ℕ) → All (λ n. f n ≡ h n) ns → first_of f ns ≡ first_of h ns
first_of-same f h [] all = refl
first_of-same f h (n ∷ ns) all =
    rw (All-head (λ k. f k ≡ h k) n ns all) (first_of-cons f h n ns (h n) (first_of-same f h ns (All-tail (λ k. f k ≡ h k) n ns all)))

-- counts that are the same at each date have the same sum over time
sum_until-same : (m n : ℕ) (f h : ℕ → ℕ) → m ≡ n → ((v : ℕ) → f v ≡ h v) → sum_until m f ≡ sum_until n h
unfolding sum_until
sum_until-same m n f h end same =
    ap (λ k. sum_by f (range_with_len 0 k)) end ∙ sum_by-alike f h (range_with_len 0 n) (λ k d low. same _)

module _ (p : Plant) (sound : IsSound p) (x y : Table) (same : IsSameTable (graph p) x y) where
  wait-same : (n : ℕ) → 1 ≤ n → n < 1 + jobs (graph p) → wait (graph p) x n ≡ wait (graph p) y n
  wait-same n one low =
      let g = graph p in
      omega (arith, same (stations g - 1) n (omega (arith, stations-graph p)) one (omega arith), same 0 n (omega (arith, stations-graph p)) one (omega arith))

  most_wait-same : most_wait (graph p) x ≡ most_wait (graph p) y
  unfolding most_wait
  most_wait-same =
      greatest-same (wait (graph p) x) (wait (graph p) y) (job_numbers (graph p)) (All-numbers _ 1 (jobs (graph p)) wait-same)

  worst_job-same : worst_job (graph p) x ≡ worst_job (graph p) y
  unfolding worst_job
  worst_job-same =
      let g = graph p in
      let f : ℕ → Bool = λ n. eqb (wait g x n) (most_wait g x) in
      let h : ℕ → Bool = λ n. eqb (wait g y n) (most_wait g y) in
      first_of-same f h (job_numbers g)
      (All-numbers (λ n. f n ≡ h n) 1 (jobs g)
      (λ n one low. ap (λ k. eqb k (most_wait g x)) (wait-same n one low) ∙ ap (λ k. eqb (wait g y n) k) most_wait-same))

  stage_sum-same : (i : ℕ) → i < length p.stages → stage_sum p x i ≡ stage_sum p y i
  stage_sum-same i low =
      let last = last_date-same p sound x y same in
      omega (
        arith,
        sum_until-same _ _ (in_process p x i) (in_process p y i) last (λ v. in_process-same p sound x y same i v low),
        sum_until-same _ _ (in_move p x i) (in_move p y i) last (λ v. in_move-same p sound x y same i v low),
        sum_until-same _ _ (in_stock p x i) (in_stock p y i) last (λ v. in_stock-same p sound x y same i v low),
      )

  parts_sum-same : parts_sum p x ≡ parts_sum p y
  unfolding parts_sum
  parts_sum-same =
      sum_by-alike (stage_sum p x) (stage_sum p y) (stage_numbers p) (All-numbers _ 0 (length p.stages) (λ i none low. stage_sum-same i (omega arith)))

  figures-same : figures p x ≡ figures p y
  unfolding figures
  figures-same =
      rw (last_date-same p sound x y same, waiting-same p sound x y same, most_wait-same, worst_job-same, parts_sum-same) refl

-- two tables that are least are the same
one_figures : (p : Plant) (a b : Figures) → IsSound p → AreFigures p a → AreFigures p b → a ≡ b
one_figures p a b sound first second =
    let x = date_in first.rows in
    let y = date_in second.rows in
    let same : IsSameTable (graph p) x y =
    λ t n there one within. omega (arith, first.least.least y second.least.solves t n there one within, second.least.least x first.least.solves t n there one within) in
    first.figures ∙ figures-same p sound x y same ∙ sym second.figures

pub one_point : (p : Plant) (c : ℕ) (a b : Point) → IsSound p → has_single_count p ≡ true → c ≤ most_cards → IsPoint p c a → IsPoint p c b → a ≡ b
one_point p c TooFew TooFew sound single few first second = refl
one_point p c TooFew Dead sound single few first second = absurd (omega (arith, first, second.0))
one_point p c TooFew (Alive g) sound single few first second = absurd (omega (arith, first, second.0))
one_point p c Dead TooFew sound single few first second = absurd (omega (arith, first.0, second))
one_point p c Dead Dead sound single few first second = refl
one_point p c Dead (Alive g) sound single few first second = absurd (first.1 second.1.0)
one_point p c (Alive f) TooFew sound single few first second = absurd (omega (arith, first.0, second))
one_point p c (Alive f) Dead sound single few first second = absurd (second.1 first.1.0)
one_point p c (Alive f) (Alive g) sound single few first second =
    ap (λ (h : Figures). Alive h) (one_figures (sized_plant p c) f g (sound_sized p c sound single first.0 few) first.1.1 second.1.1)

pub one_curve : (p : Plant) → IsSound p → has_single_count p ≡ true → HasOneCurve p
one_curve p sound single c [] [] same few first second = refl
one_curve p sound single c [] (y ∷ ys) same few first second = absurd (omega arith)
one_curve p sound single c (x ∷ xs) [] same few first second = absurd (omega arith)
one_curve p sound single c (x ∷ xs) (y ∷ ys) same few first second =
    ap (λ (z : Point). z ∷ xs) (one_point p c x y sound single (omega arith) first.0 second.0)
    ∙ ap (λ (zs : List Point). y ∷ zs) (one_curve p sound single (c + 1) xs ys (omega arith) (omega arith) first.1 second.1)
