-- The dates of the least solution, bounded above by potentials and below along a circuit.
use Rattle.std.proofs.Common.{◌≡◌, ℕ, ◌+◌, ◌-◌, ◌*◌, ◌/◌, ◌<◌, ◌≤◌, cond, ltb, List, [], ◌∷◌, length, get_or, take, drop, refl, sym, ap, ◌∙◌, zero-add, subst, inl, inr, arith}
use Rattle.std.specs.Prelude.{ℤ, pos, negsuc, ◌+ℤ◌, ◌-ℤ◌, ◌≤ℤ◌, unsigned_abs}
use Rattle.std.specs.List.{range_with_len}
use Rattle.std.specs.List.Sorted.{IsNonDecreasing}
use Rattle.std.proofs.Math.Nat.{le_trans, mul-le-mul_left, mul-div-le}
use Rattle.std.proofs.lemmas.Bool.{cases_lt, lt-ltb, le-ltb}
use Rattle.std.proofs.lemmas.Int.{ints}
use Rattle.std.proofs.lemmas.Nat.{le-div}
use Rattle.std.proofs.lemmas.List.{length-map, get_or-map}
use Rattle.std.proofs.lemmas.List.FromFn.{length-range_with_len, get_or-range_with_len}
use Rattle.std.proofs.lemmas.List.Sums.{sum_by-take-drop}
use Rattle.line_base.specs.declared.event.Parts.{Parts}
use Rattle.line_base.specs.declared.times.Times.{Times}
use Rattle.line_base.specs.declared.times.Times.TheVariants.{Fixed, Each}
use Rattle.line_base.specs.Times.{time_at}
use Rattle.event_graph.specs.Network.{IsGraph, arc, arc_count, stations, jobs, demand, delay, time}
use Rattle.event_graph.specs.Varying.{IsList}
use Rattle.event_graph.specs.Term.{work}
use Rattle.event_graph.specs.Table.{Table}
use Rattle.event_graph.specs.Solves.{Solves}
use Rattle.event_graph.specs.Circuit.{IsWalk, IsCircuit, starting_stations, time_along, tokens_on}
use Rattle.event_graph.proofs.Greatest.{le-greatest}
use Rattle.cycle_time.specs.declared.certificate.Certificate.{Certificate}
use Rattle.cycle_time.specs.Weight.{potential}
use Rattle.cycle_time.specs.Certificate.{IsCertificate, NoneVaries}
use Rattle.cycle_time.specs.Dates.{most_tokens, NoneIsNegative, latest, BoundsDates, HoldsBack}
use Rattle.event_graph.proofs.Walks.{walk_take, walk_drop}
use Rattle.cycle_time.proofs.WalkWeights.{time_along-cons, tokens_on-cons}

-- where the times of a station are no list, it takes as long for each job
time_at-same : (times : Times) (n : ℕ) → (IsList times → ⊥) → time_at times n ≡ time_at times 1
time_at-same (Fixed w) n fixed = refl
time_at-same (Each ws) n fixed = absurd (fixed tt)

pub work-same : (g : Parts) → IsGraph g → NoneVaries g → (a n : ℕ) → a < arc_count g → work g a n ≡ work g a 1
unfolding work time
work-same g graph fixed a n exists =
    ap (λ w. cond (arc g a).worked w 0) (time_at-same (get_or g.times (arc g a).to (Fixed 0)) n (fixed (arc g a).to (graph.ends_exist a exists)))

-- no arc has more tokens than the most
pub tokens-le-most : (g : Parts) (a : ℕ) → a < arc_count g → (arc g a).tokens ≤ most_tokens g
tokens-le-most g a exists =
    let T = λ (b : ℕ). (arc g b).tokens in
    let here = le-greatest T (range_with_len 0 (arc_count g)) a 0 (omega (arith, length-range_with_len 0 (arc_count g))) in
    omega (arith, here, ap T (get_or-range_with_len 0 (arc_count g) a 0 exists ∙ zero-add a))

-- ---- the upper bound

pos-abs : (z : ℤ) → pos 0 ≤ℤ z → pos (unsigned_abs z) ≡ z
pos-abs (pos n) h = refl
pos-abs (negsuc n) h = absurd (omega (arith, ints, h))

-- what cards x a date is at most
roof : Parts → Certificate → ℕ → ℕ → ℕ
roof g c t n = latest g c n + unsigned_abs (potential c.potentials t)

-- and the date
bound : Parts → Certificate → Table
bound g c t n = roof g c t n / c.cards

late_token : (k time cards w d m n x q p R : ℕ) → n ≡ k + m → cards * x ≤ time * k + R + q → q + cards * (w + d) ≤ p + time * m → cards * (w + (x + d)) ≤ time * n + R + p
late_token k time cards w d m n x q p R e h step = rw e (omega arith)

early_token : (time cards w d m n q p G D : ℕ) → time * m ≤ time * G → q + cards * (w + d) ≤ p + time * m → cards * (w + 0) ≤ time * n + time * G + cards * D + p
early_token time cards w d m n q p G D most step = omega arith

natural_step : (time cards w d m : ℕ) (p q : ℤ) (i j : ℕ) → pos i ≡ p → pos j ≡ q → (p +ℤ (pos (cards * (w + d)) -ℤ pos (time * m))) ≤ℤ q → i + cards * (w + d) ≤ j + time * m
natural_step time cards w d m p q i j e f h = omega (arith, ints)

bound-solves : (g : Parts) (c : Certificate) → IsGraph g → IsNonDecreasing g.dates → NoneVaries g → IsCertificate g c → NoneIsNegative g c → 1 ≤ stations g → Solves g (bound g c)
unfolding bound roof demand
bound-solves g c graph dates fixed cert low some = record {
  feed = λ n one within.
      (let last : demand g n ≤ demand g (jobs g) = dates (n - 1) (jobs g - 1) 0 (omega arith) (omega arith) in
      le-div (demand g n) (roof g c 0 n) c.cards cert.some (omega (arith, mul-le-mul_left c.cards last)));
  others = λ a n exists one within.
      (let from = (arc g a).from in
      let to = (arc g a).to in
      let m = (arc g a).tokens in
      let w = work g a 1 in
      let d = delay g a in
      let q = unsigned_abs (potential c.potentials from) in
      let p = unsigned_abs (potential c.potentials to) in
      let G = most_tokens g in
      let D = demand g (jobs g) in
      let step : q + c.cards * (w + d) ≤ p + c.time * m = natural_step c.time c.cards w d m (potential c.potentials from) (potential c.potentials to) q p (pos-abs _ (low from (graph.starts_exist a exists))) (pos-abs _ (low to (graph.ends_exist a exists))) (cert.potentials a exists) in
      let goal_at : ℕ → Type 0 = λ v. v + cond (ltb m n) (bound g c from (n - m) + d) 0 ≤ bound g c to n in
      subst goal_at (sym (work-same g graph fixed a n exists))
      (elim (cases_lt m n) [
        | inl late ↦
            let x = bound g c from (n - m) in
            let under : c.cards * x ≤ c.time * (n - m) + (c.time * G + c.cards * D) + q = le_trans (mul-div-le (roof g c from (n - m)) c.cards) (omega arith) in
            let is : n ≡ n - m + m = omega arith in
            let fits : c.cards * (w + (x + d)) ≤ roof g c to n = le_trans (late_token (n - m) c.time c.cards w d m n x q p (c.time * G + c.cards * D) is under step) (omega arith) in
            rw (lt-ltb m n late) (le-div (w + (x + d)) (roof g c to n) c.cards cert.some (omega (arith, fits)))
        | inr early ↦
            let most : c.time * m ≤ c.time * G = mul-le-mul_left c.time (tokens-le-most g a exists) in
            let fits : c.cards * (w + 0) ≤ roof g c to n = early_token c.time c.cards w d m n q p G D most step in
            rw (le-ltb m n early) (le-div (w + 0) (roof g c to n) c.cards cert.some (omega (arith, fits)))
      ]));
}

under_roof : (cards x l q : ℕ) (p : ℤ) → cards * x ≤ l + q → pos q ≡ p → pos (cards * x) ≤ℤ (pos l +ℤ p)
under_roof cards x l q p h e = omega (arith, ints)

pub bounds_dates : (g : Parts) (c : Certificate) → IsGraph g → IsNonDecreasing g.dates → NoneVaries g → IsCertificate g c → NoneIsNegative g c → BoundsDates g c
unfolding bound roof
bounds_dates g c graph dates fixed cert low x least t n exists one within =
    let early : x t n ≤ bound g c t n = least.least (bound g c) (bound-solves g c graph dates fixed cert low (omega arith)) t n exists one within in
    let whole : c.cards * x t n ≤ roof g c t n = le_trans (mul-le-mul_left c.cards early) (mul-div-le (roof g c t n) c.cards) in
    under_roof c.cards (x t n) (latest g c n) (unsigned_abs (potential c.potentials t)) (potential c.potentials t) whole (pos-abs _ (low t exists))

-- ---- the lower bound

-- a job on the next station of an arc is later than the one as many jobs before as the arc has tokens
arc_holds : (g : Parts) (x : Table) → IsGraph g → NoneVaries g → Solves g x → (a n : ℕ) → a < arc_count g → 1 ≤ n → n + (arc g a).tokens ≤ jobs g → x (arc g a).from n + (work g a 1 + delay g a) ≤ x (arc g a).to (n + (arc g a).tokens)
arc_holds g x graph fixed solves a n exists one within =
    let m = (arc g a).tokens in
    let above : m < n + m = omega arith in
    let back : n + m - m ≡ n = omega arith in
    let full = solves.others a (n + m) exists (omega arith) within in
    let plain : work g a (n + m) + (x (arc g a).from (n + m - m) + delay g a) ≤ x (arc g a).to (n + m) = rw (lt-ltb m (n + m) above) at full in
    omega (arith, plain, work-same g graph fixed a (n + m) exists, ap (x (arc g a).from) back)

walk_holds : (g : Parts) (x : Table) → IsGraph g → NoneVaries g → Solves g x → (s u n : ℕ) (arcs : List ℕ) → IsWalk g s arcs u → 1 ≤ n → n + tokens_on g arcs ≤ jobs g → x s n + time_along g arcs ≤ x u (n + tokens_on g arcs)
walk_holds g x graph fixed solves s u n [] walk one within = omega (arith, ap (λ t. x t n) walk, ap (x u) (n+0 n))
  where
    n+0 : (k : ℕ) → k + 0 ≡ k
    n+0 k = omega arith
walk_holds g x graph fixed solves s u n (a ∷ arcs) walk one within =
    let m = (arc g a).tokens in
    let M = tokens_on g arcs in
    let whole = tokens_on-cons g a arcs in
    let here = arc_holds g x graph fixed solves a n walk.0 one (omega (arith, whole)) in
    let rest = walk_holds g x graph fixed solves (arc g a).to u (n + m) arcs walk.2 (omega arith) (omega (arith, whole)) in
    let same : n + m + M ≡ n + tokens_on g (a ∷ arcs) = omega (arith, whole) in
    omega (arith, here, rest, time_along-cons g a arcs, ap (λ t. x t n) walk.1, ap (x u) same)

-- the circuit goes round from each of its stations too
pub circuit_holds : (g : Parts) (arcs : List ℕ) → IsGraph g → NoneVaries g → IsCircuit g arcs → HoldsBack g arcs
circuit_holds g arcs graph fixed circuit x least t n found one within =
    let k = found.0 in
    let low : k < length arcs = omega (arith, found.1, length-map arcs (λ a. (arc g a).from)) in
    let here : (arc g (get_or arcs k 0)).from ≡ t = starts_at arcs k low ∙ found.2 in
    let solves = least.solves in
    let before = subst (IsWalk g circuit.base (take k arcs)) here (walk_take g circuit.base circuit.base k arcs circuit.closed low) in
    let after = subst (λ v. IsWalk g v (drop k arcs) circuit.base) here (walk_drop g circuit.base circuit.base k arcs circuit.closed low) in
    let times = sum_by-take-drop (λ a. work g a 1 + delay g a) arcs k in
    let tokens = sum_by-take-drop (λ a. (arc g a).tokens) arcs k in
    let M = tokens_on g (drop k arcs) in
    let first = walk_holds g x graph fixed solves t circuit.base n (drop k arcs) after one (omega (arith, tokens)) in
    let second = walk_holds g x graph fixed solves circuit.base t (n + M) (take k arcs) before (omega arith) (omega (arith, tokens)) in
    let same : n + M + tokens_on g (take k arcs) ≡ n + tokens_on g arcs = omega (arith, tokens) in
    omega (arith, first, second, times, ap (x t) same)
  where
    starts_at : (path : List ℕ) (k : ℕ) → k < length path → (arc g (get_or path k 0)).from ≡ get_or (starting_stations g path) k t
    starts_at path k below = sym (get_or-map (λ a. (arc g a).from) path k 0 t below)
