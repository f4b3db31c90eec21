-- The multiples of a step in a window.
use Rattle.std.proofs.Common.{◌≡◌, ℕ, ◌+◌, ◌-◌, ◌*◌, ◌/◌, ◌≤◌, List, ◌∷◌, [], ◌++◌, map, ap, ◌∙◌, append-nil, arith}
use Rattle.std.specs.List.{flat_map, range_with_len}
use Rattle.std.proofs.Math.Nat.{mul-le-mul_left, div-add-mod}
use Rattle.std.proofs.lemmas.List.Concat.{flat_map-append}
use Rattle.std.proofs.lemmas.List.FromFn.{map-range_with_len_more}
use Rattle.outside_io.specs.Outgoing.{Stream, Pushed}
use Rattle.outside_io.proofs.OutgoingLemmas.{pushed_after}
use Rattle.line_chart.specs.declared.window.Window.{Window}
use Rattle.line_chart.specs.ChartText.{axis_line}

-- the first multiple is not before the window, and none up to the last is behind it
pub from-multiple : (s f k : ℕ) → 1 ≤ s → (f + s - 1) / s ≤ k → f ≤ s * k
from-multiple s f k some le =
    let is = div-add-mod (f + s - 1) s in
    let up : s * ((f + s - 1) / s) ≤ s * k = mul-le-mul_left s le in
    omega (arith, is, up)

pub to-multiple : (s t k : ℕ) → k ≤ t / s → s * k ≤ t
to-multiple s t k le =
    let is = div-add-mod t s in
    let up : s * k ≤ s * (t / s) = mul-le-mul_left s le in
    omega (arith, is, up)

-- the lines of the first multiples
abbrev pub axis_lines : Window → ℕ → ℕ → ℕ → ℕ → List ℕ
axis_lines w end step first n = flat_map (axis_line w end) (map (λ k. step * k) (range_with_len first n))

pub axis_lines-more : (w : Window) (end step first n k : ℕ) → first + n ≡ k → axis_lines w end step first (n + 1) ≡ axis_lines w end step first n ++ axis_line w end (step * k)
axis_lines-more w end step first n k at =
    ap (flat_map (axis_line w end)) (map-range_with_len_more (λ k. step * k) first n k at)
    ∙ flat_map-append (axis_line w end) (map (λ k. step * k) (range_with_len first n)) (step * k ∷ [])
    ∙ ap (λ l. axis_lines w end step first n ++ l) (append-nil (axis_line w end (step * k)))

pub pushed_multiple : {a b c : Stream} (w : Window) (end step first n k : ℕ) → first + n ≡ k → Pushed a b (axis_lines w end step first n) → Pushed b c (axis_line w end (step * k)) → Pushed a c (axis_lines w end step first (n + 1))
pushed_multiple {b = b} w end step first n k at before now = rw (axis_lines-more w end step first n k at) (pushed_after {b = b} before now)
