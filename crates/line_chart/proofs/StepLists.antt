-- The steps of a count, and its greatest value, from one date at which it may change to the next.
use Rattle.std.proofs.Common.{◌≡◌, ◌≢◌, ℕ, zero, suc, ◌+◌, ◌-◌, ◌<◌, ◌≤◌, Bool, true, false, not, cond, eqb, List, [], ◌∷◌, ◌++◌, map, max, refl, sym, ap, ◌∙◌, subst, inl, inr, append-nil, arith}
use Rattle.std.specs.List.{All, filter, flat_map, range_with_len}
use Rattle.std.proofs.lemmas.Bool.{cases_lt, cases_eq, eq-eqb, ne_eqb, le-leb, lt-leb}
use Rattle.std.proofs.lemmas.List.{map-append}
use Rattle.std.proofs.lemmas.List.Concat.{flat_map-append}
use Rattle.std.proofs.lemmas.List.Elements.{filter-append, All-filter, All-head, All-tail}
use Rattle.event_graph.specs.GreatestValue.{greatest}
use Rattle.event_graph.proofs.Greatest.{greatest-le}
use Rattle.line_stats.proofs.SameCounts.{All-numbers}
use Rattle.line_chart.specs.Areas.{Step, changes, steps, most, height_at}
use Rattle.line_chart.specs.Counts.{IsStill}
use Rattle.line_chart.specs.ChartText.{step_text}
use Rattle.line_chart.specs.Laws.{AreasAreCounts}

-- numbers, and the ones after them
pub range-two : (a m n : ℕ) → range_with_len a (m + n) ≡ range_with_len a m ++ range_with_len (a + m) n
range-two a zero n =
    let e : zero + n ≡ n = omega arith in
    let e_2 : a ≡ a + zero = omega arith in
    ap (range_with_len a) e ∙ ap (λ b. range_with_len b n) e_2
range-two a (suc m) n =
    let e : suc m + n ≡ suc (m + n) = omega arith in
    let e_2 : a + 1 + m ≡ a + suc m = omega arith in
    ap (range_with_len a) e ∙ ap (λ xs. a ∷ xs) (range-two (a + 1) m n) ∙ ap (λ b. a ∷ (range_with_len (a + 1) m ++ range_with_len b n)) e_2

-- where none passes, none is left
filter-none : (t : ℕ → Bool) (xs : List ℕ) → All (λ x. t x ≡ false) xs → filter t xs ≡ []
filter-none t [] none = refl
filter-none t (x ∷ xs) none =
    ap (λ b. cond b (x ∷ filter t xs) (filter t xs)) (All-head (λ y. t y ≡ false) x xs none) ∙ filter-none t xs (All-tail (λ y. t y ≡ false) x xs none)

-- whether a count differs from that at the date before
abbrev changed : (ℕ → ℕ) → ℕ → Bool
changed f d = not (eqb (f d) (f (d - 1)))

-- up to a date, at it, and behind it
around : (a d next : ℕ) → a ≤ d → d < next → range_with_len a (next - a) ≡ range_with_len a (d - a) ++ (d ∷ range_with_len (d + 1) (next - (d + 1)))
around a d next low high =
    let e : next - a ≡ d - a + suc (next - (d + 1)) = omega arith in
    let e_2 : a + (d - a) ≡ d = omega arith in
    ap (range_with_len a) e ∙ range-two a (d - a) (suc (next - (d + 1))) ∙ ap (λ b. range_with_len a (d - a) ++ range_with_len b (suc (next - (d + 1)))) e_2

-- the dates at which a count changes, and the next one if it changes there
pub changes-more : (f : ℕ → ℕ) (from d next : ℕ) → from < d → d < next → IsStill f d next → changes f from next ≡ changes f from d ++ cond (eqb (f d) (f (d - 1))) [] (d ∷ [])
unfolding changes
changes-more f from d next low high still =
    let before = range_with_len (from + 1) (d - (from + 1)) in
    let behind = range_with_len (d + 1) (next - (d + 1)) in
    let same = λ (e : ℕ) (above : d + 1 ≤ e) (under : e < d + 1 + (next - (d + 1))).
    still e (omega arith) (omega arith) ∙ sym (still (e - 1) (omega arith) (omega arith))
    in
    let none : All (λ e. changed f e ≡ false) behind = All-numbers (λ e. changed f e ≡ false) (d + 1) (next - (d + 1)) (λ e above under. ap not (eq-eqb (f e) (f (e - 1)) (same e above under))) in
    ap (filter (changed f)) (around (from + 1) d next (omega arith) high)
    ∙ filter-append (changed f) before (d ∷ behind)
    ∙ ap (λ xs. filter (changed f) before ++ cond (changed f d) (d ∷ xs) xs) (filter-none (changed f) behind none)
    ∙ ap (λ xs. filter (changed f) before ++ xs) (turned (eqb (f d) (f (d - 1))))
  where
    turned : (b : Bool) → cond (not b) (d ∷ []) [] ≡ cond b [] (d ∷ [])
    turned true = refl
    turned false = refl

pub changes-none : (f : ℕ → ℕ) (from next : ℕ) → from < next → IsStill f from next → changes f from next ≡ []
unfolding changes
changes-none f from next high still =
    let behind = range_with_len (from + 1) (next - (from + 1)) in
    let same = λ (e : ℕ) (above : from + 1 ≤ e) (under : e < from + 1 + (next - (from + 1))).
    still e (omega arith) (omega arith) ∙ sym (still (e - 1) (omega arith) (omega arith))
    in
    filter-none (changed f) behind (All-numbers (λ e. changed f e ≡ false) (from + 1) (next - (from + 1)) (λ e above under. ap not (eq-eqb (f e) (f (e - 1)) (same e above under))))

-- the text of the steps, and of the next one if there is one
abbrev pub steps_text : (ℕ → ℕ) → ℕ → ℕ → List ℕ
steps_text f from to = flat_map step_text (steps f from to)

abbrev pub step_of : (ℕ → ℕ) → ℕ → Step
step_of f d = record { date = d; height = f d }

steps-more : (f : ℕ → ℕ) (from d next : ℕ) (last : List ℕ) → changes f from next ≡ changes f from d ++ last → steps_text f from next ≡ steps_text f from d ++ flat_map step_text (map (step_of f) last)
steps-more f from d next last more =
    ap (λ ds. flat_map step_text (map (step_of f) ds)) more
    ∙ ap (flat_map step_text) (map-append (step_of f) (changes f from d) last)
    ∙ flat_map-append step_text (steps f from d) (map (step_of f) last)

pub steps-step : (f : ℕ → ℕ) (from d next : ℕ) → from < d → d < next → IsStill f d next → f d ≢ f (d - 1) → steps_text f from next ≡ steps_text f from d ++ step_text (step_of f d)
steps-step f from d next low high still other =
    let more = changes-more f from d next low high still ∙ ap (λ b. changes f from d ++ cond b [] (d ∷ [])) (ne_eqb (f d) (f (d - 1)) other) in
    steps-more f from d next (d ∷ []) more ∙ ap (λ xs. steps_text f from d ++ xs) (append-nil (step_text (step_of f d)))

pub steps-same : (f : ℕ → ℕ) (from d next : ℕ) → from < d → d < next → IsStill f d next → f d ≡ f (d - 1) → steps_text f from next ≡ steps_text f from d
steps-same f from d next low high still same =
    let more = changes-more f from d next low high still ∙ ap (λ b. changes f from d ++ cond b [] (d ∷ [])) (eq-eqb (f d) (f (d - 1)) same) in
    steps-more f from d next [] more ∙ append-nil (steps_text f from d)

pub steps-none : (f : ℕ → ℕ) (from next : ℕ) → from < next → IsStill f from next → steps_text f from next ≡ []
steps-none f from next high still =
    ap (λ ds. flat_map step_text (map (step_of f) ds)) (changes-none f from next high still)

-- ---- the greatest count

greatest-two : (f : ℕ → ℕ) (xs ys : List ℕ) → greatest f (xs ++ ys) ≡ max (greatest f xs) (greatest f ys)
unfolding greatest
greatest-two f [] ys = omega arith
greatest-two f (x ∷ xs) ys = let rest = greatest-two f xs ys in omega arith

pub most-more : (f : ℕ → ℕ) (from d next : ℕ) → from ≤ d → d < next → IsStill f d next → most f from next ≡ max (most f from d) (f d)
unfolding most greatest
most-more f from d next low high still =
    let before = range_with_len from (d - from) in
    let behind = range_with_len (d + 1) (next - (d + 1)) in
    let split = ap (greatest f) (around from d next low high) ∙ greatest-two f before (d ∷ behind) in
    let under = greatest-le f behind (f d) (All-numbers (λ e. f e ≤ f d) (d + 1) (next - (d + 1)) (λ e above below. let same = still e (omega arith) (omega arith) in omega arith)) in
    omega (arith, split, under)

pub most-none : (f : ℕ → ℕ) (from : ℕ) → most f from from ≡ 1
unfolding most greatest
most-none f from =
    let e : from - from ≡ 0 = omega arith in
    ap (λ n. max 1 (greatest f (range_with_len from n))) e

-- ---- the height of a path is the count

-- where each step is later, the height is that of before
none-later : (f : ℕ → ℕ) (b v : ℕ) (ds : List ℕ) → All (λ d. v < d) ds → height_at b (map (step_of f) ds) v ≡ b
none-later f b v [] later = refl
none-later f b v (d ∷ ds) later =
    ap (λ t. cond t (height_at (f d) (map (step_of f) ds) v) b) (lt-leb d v (All-head (λ e. v < e) d ds later))

height-range : (f : ℕ → ℕ) (v n a : ℕ) → 1 ≤ a → a ≤ v + 1 → v < a + n → height_at (f (a - 1)) (map (step_of f) (filter (changed f) (range_with_len a n))) v ≡ f v
height-range f v zero a some low high = let e : a - 1 ≡ v = omega arith in ap f e
height-range f v (suc n) a some low high =
    let rest = range_with_len (a + 1) n in
    let back : a + 1 - 1 ≡ a = omega arith in
    let goes = λ (here : a ≤ v). subst (λ k. height_at (f k) (map (step_of f) (filter (changed f) rest)) v ≡ f v) back (height-range f v n (a + 1) (omega arith) (omega arith) (omega arith)) in
    elim (cases_eq (f a) (f (a - 1))) [
      | inl same ↦
          let kept = ap (λ b. height_at (f (a - 1)) (map (step_of f) (cond b (a ∷ filter (changed f) rest) (filter (changed f) rest))) v) (ap not (eq-eqb (f a) (f (a - 1)) same)) in
          kept ∙ elim (cases_lt v a) [
            | inl before ↦
                let e : a - 1 ≡ v = omega arith in
                none-later f (f (a - 1)) v (filter (changed f) rest) (All-filter (changed f) (λ d. v < d) rest (All-numbers (λ d. v < d) (a + 1) n (λ d above under. omega arith))) ∙ ap f e
            | inr here ↦ ap (λ b. height_at b (map (step_of f) (filter (changed f) rest)) v) (sym same) ∙ goes here
          ]
      | inr other ↦
          let kept = ap (λ b. height_at (f (a - 1)) (map (step_of f) (cond b (a ∷ filter (changed f) rest) (filter (changed f) rest))) v) (ap not (ne_eqb (f a) (f (a - 1)) other)) in
          let test = λ (b : Bool). cond b (height_at (f a) (map (step_of f) (filter (changed f) rest)) v) (f (a - 1)) in
          kept ∙ elim (cases_lt v a) [
            | inl before ↦ let e : a - 1 ≡ v = omega arith in ap test (lt-leb a v before) ∙ ap f e
            | inr here ↦ ap test (le-leb a v here) ∙ goes here
          ]
    ]

pub areas-are-counts : AreasAreCounts
unfolding changes
areas-are-counts f w v low high =
    let e : w.from + 1 - 1 ≡ w.from = omega arith in
    subst (λ k. height_at (f k) (steps f w.from w.to) v ≡ f v) e
    (height-range f v (w.to - (w.from + 1)) (w.from + 1) (omega arith) (omega arith) (omega arith))
