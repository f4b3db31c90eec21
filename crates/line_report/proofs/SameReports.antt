-- Tables with the same date for each station and each job of a plant's graph have the same report.
use Rattle.std.proofs.Common.{◌≡◌, ℕ, ◌<◌, List, [], ◌∷◌, ◌++◌, length, refl, sym, ap, ◌∙◌, subst, arith}
use Rattle.std.specs.Prelude.{codes, decimal}
use Rattle.std.specs.List.{All, flat_map, range_with_len}
use Rattle.std.proofs.lemmas.List.Elements.{All-head, All-tail}
use Rattle.plant_model.specs.declared.plant.Plant.{Plant}
use Rattle.plant_model.specs.Line.{stage_numbers}
use Rattle.plant_model.specs.Graph.{graph}
use Rattle.plant_model.specs.Sound.{IsSound}
use Rattle.event_graph.specs.Network.{stations, jobs, label}
use Rattle.event_graph.specs.Table.{Table, date_in, IsSameTable}
use Rattle.event_graph.specs.Least.{IsLeast}
use Rattle.line_stats.specs.Counts.{job_numbers}
use Rattle.line_stats.specs.PlantDates.{PlantDates}
use Rattle.line_stats.proofs.SameCounts.{All-numbers, in_process-same, in_move-same, in_stock-same, backlog-same, last_date-same, peak-same, waiting-same}
use Rattle.line_report.specs.ReportText.{line, date_line, station_lines, date_lines, stage_line, backlog_line, observed_lines, peak_line, waiting_line, last_line, report}
use Rattle.line_report.specs.Laws.{HasOneReport, HaveOneText}

-- the same lines for each element
flat_map-same : {X : Type 0} (f h : X → List ℕ) (xs : List X) → All (λ x. f x ≡ h x) xs → flat_map f xs ≡ flat_map h xs
flat_map-same f h [] all = refl
flat_map-same f h (x ∷ xs) all =
    ap (λ l. l ++ flat_map f xs) (All-head (λ z. f z ≡ h z) x xs all)
    ∙ ap (λ l. h x ++ l) (flat_map-same f h xs (All-tail (λ z. f z ≡ h z) x xs all))

module _ (p : Plant) (sound : IsSound p) (x y : Table) (same : IsSameTable (graph p) x y) where
  date_lines-same : date_lines (graph p) x ≡ date_lines (graph p) y
  unfolding date_lines station_lines date_line
  date_lines-same =
      let g = graph p in
      flat_map-same (station_lines g x) (station_lines g y) (range_with_len 0 (stations g))
      (All-numbers _ 0 (stations g) (λ t none there.
      flat_map-same (date_line g x t) (date_line g y t) (job_numbers g)
      (All-numbers _ 1 (jobs g) (λ n one low.
      ap (λ (d : ℕ). line (label g t ∷ decimal n ∷ decimal d ∷ [])) (same t n (omega arith) one (omega arith))))))

  stage_line-same : (v i : ℕ) → i < length p.stages → stage_line p x v i ≡ stage_line p y v i
  unfolding stage_line
  stage_line-same v i low =
      rw (in_process-same p sound x y same i v low, in_move-same p sound x y same i v low, in_stock-same p sound x y same i v low) refl

  observed_lines-same : (v : ℕ) → observed_lines p x v ≡ observed_lines p y v
  unfolding observed_lines backlog_line
  observed_lines-same v =
      let stages = flat_map-same (stage_line p x v) (stage_line p y v) (stage_numbers p) (All-numbers _ 0 (length p.stages) (λ i none low. stage_line-same v i (omega arith))) in
      ap (λ (l : List ℕ). l ++ backlog_line p x v) stages ∙ ap (λ (b : ℕ). flat_map (stage_line p y v) (stage_numbers p) ++ line (codes "at" ∷ decimal v ∷ codes "backlog" ∷ decimal b ∷ [])) (backlog-same p sound x y same v)

  peak_line-same : (i : ℕ) → i < length p.stages → peak_line p x i ≡ peak_line p y i
  unfolding peak_line
  peak_line-same i low = rw (peak-same p sound x y same i low) refl

  totals-same : waiting_line (graph p) x ++ last_line (graph p) x ≡ waiting_line (graph p) y ++ last_line (graph p) y
  unfolding waiting_line last_line
  totals-same = rw (waiting-same p sound x y same, last_date-same p sound x y same) refl

  report-same : report p x ≡ report p y
  unfolding report
  report-same =
      let observed = flat_map-same (observed_lines p x) (observed_lines p y) p.observe (λ k d low. observed_lines-same _) in
      let peaks = flat_map-same (peak_line p x) (peak_line p y) (stage_numbers p) (All-numbers _ 0 (length p.stages) (λ i none low. peak_line-same i (omega arith))) in
      rw (date_lines-same, observed, peaks, totals-same) refl

pub one_report : (p : Plant) → IsSound p → HasOneReport p
one_report p sound x y least_x least_y =
    report-same p sound x y (λ t n there one within. omega (arith, least_x.least y least_y.solves t n there one within, least_y.least x least_x.solves t n there one within))

pub one_text : (r s : PlantDates) → HaveOneText r s
one_text r s same of_r of_s =
    let least : IsLeast (graph r.plant) (date_in s.rows) = subst (λ (p : Plant). IsLeast (graph p) (date_in s.rows)) (sym same) of_s.least.least in
    one_report r.plant of_r.sound (date_in r.rows) (date_in s.rows) of_r.least.least least ∙ ap (λ (p : Plant). report p (date_in s.rows)) same
