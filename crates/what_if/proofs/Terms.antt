-- Lemmas on the greatest of the terms of a date.
use Rattle.std.proofs.Common.{◌≡◌, ◌≢◌, ℕ, ◌+◌, ◌-◌, ◌<◌, ◌≤◌, cond, ltb, eqb, List, get_or, refl, sym, ap, ◌∙◌, arith, inl, inr}
use Rattle.std.proofs.lemmas.Bool.{cases_lt, cases_eq, cond-false, cond-true, ne_eqb, lt-ltb, le-ltb}
use Rattle.line_base.specs.declared.event.Parts.{Parts}
use Rattle.event_graph.specs.Network.{arc, arc_count, demand, delay, ins, IsGraph, EndsAt}
use Rattle.event_graph.specs.Table.{Table, date_in}
use Rattle.event_graph.specs.Term.{term, work}
use Rattle.event_graph.specs.GreatestValue.{greatest}
use Rattle.event_graph.proofs.ArcNumbers.{All-ins, each_input}
use Rattle.event_graph.proofs.Greatest.{le-greatest, greatest-le, greatest-same}
use Rattle.line_core.specs.Consistent.{due_date}

pub due-feed : (g : Parts) (rows : List (List ℕ)) (n : ℕ) → due_date g rows 0 n ≡ demand g n
unfolding due_date
due-feed g rows n = refl

pub due-other : (g : Parts) (rows : List (List ℕ)) (t n : ℕ) → t ≢ 0 → due_date g rows t n ≡ greatest (λ a. term g (date_in rows) a n) (ins g t)
unfolding due_date
due-other g rows t n other = cond-false (eqb t 0) _ _ (ne_eqb t 0 other)

-- a term is at most what holds of the date that it reads
pub term-le : (g : Parts) (x : Table) (a n most : ℕ) → work g a n ≤ most → ((arc g a).tokens < n → work g a n + (x (arc g a).from (n - (arc g a).tokens) + delay g a) ≤ most) → term g x a n ≤ most
term-le g x a n most none some =
    let tokens = (arc g a).tokens in
    let date = x (arc g a).from (n - tokens) + delay g a in
    elim (cases_lt tokens n) [
      | inl later ↦ omega (arith, some later, cond-true (ltb tokens n) date 0 (lt-ltb tokens n later))
      | inr initial ↦ omega (arith, none, cond-false (ltb tokens n) date 0 (le-ltb tokens n initial))
    ]

-- the greatest of the terms is at most what each of them is at most
pub due-le : (g : Parts) (rows : List (List ℕ)) (t n most : ℕ) → (t ≡ 0 → demand g n ≤ most) → ((a : ℕ) → EndsAt g t a → term g (date_in rows) a n ≤ most) → due_date g rows t n ≤ most
due-le g rows t n most feed each =
    elim (cases_eq t 0) [
      | inl zero_th ↦ omega (arith, ap (λ u. due_date g rows u n) zero_th, due-feed g rows n, feed zero_th)
      | inr other ↦
          omega (arith, due-other g rows t n other, greatest-le (λ a. term g (date_in rows) a n) (ins g t) most (λ k d low. each (get_or (ins g t) k d) (All-ins g t k d low)))
    ]

-- each term is at most the greatest of them
pub term-le-due : (g : Parts) (rows : List (List ℕ)) (a n : ℕ) → IsGraph g → a < arc_count g → term g (date_in rows) a n ≤ due_date g rows (arc g a).to n
term-le-due g rows a n graph there =
    let t = (arc g a).to in
    let asks = λ (b : ℕ). term g (date_in rows) b n in
    omega (arith, due-other g rows t n (graph.feed_has_no_input a there), each_input g t (λ b. asks b ≤ greatest asks (ins g t)) (le-greatest asks (ins g t)) a there refl)

-- a term reads one date alone
pub term-same : (g : Parts) (x y : Table) (a n : ℕ) → ((arc g a).tokens < n → x (arc g a).from (n - (arc g a).tokens) ≡ y (arc g a).from (n - (arc g a).tokens)) → term g x a n ≡ term g y a n
term-same g x y a n same =
    let tokens = (arc g a).tokens in
    let date = λ (z : Table). z (arc g a).from (n - tokens) + delay g a in
    elim (cases_lt tokens n) [
      | inl later ↦ ap (λ d. work g a n + cond (ltb tokens n) (d + delay g a) 0) (same later)
      | inr initial ↦
          let none = le-ltb tokens n initial in
          omega (arith, cond-false (ltb tokens n) (date x) 0 none, cond-false (ltb tokens n) (date y) 0 none)
    ]

-- where no date that is read differs, the greatest of the terms doesn't
pub due-same : (g : Parts) (rows others : List (List ℕ)) (t n : ℕ) → ((a : ℕ) → EndsAt g t a → (arc g a).tokens < n → date_in rows (arc g a).from (n - (arc g a).tokens) ≡ date_in others (arc g a).from (n - (arc g a).tokens)) → due_date g rows t n ≡ due_date g others t n
due-same g rows others t n same =
    elim (cases_eq t 0) [
      | inl zero_th ↦
          ap (λ u. due_date g rows u n) zero_th ∙ due-feed g rows n ∙ sym (due-feed g others n) ∙ ap (λ u. due_date g others u n) (sym zero_th)
      | inr other ↦
          due-other g rows t n other
          ∙ greatest-same (λ a. term g (date_in rows) a n) (λ a. term g (date_in others) a n) (ins g t) (λ k d low.
          let a = get_or (ins g t) k d in
          term-same g (date_in rows) (date_in others) a n (same a (All-ins g t k d low)))
          ∙ sym (due-other g others t n other)
    ]
