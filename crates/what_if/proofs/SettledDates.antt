-- What the evaluation of one marked date after the other keeps, from the first one on.
use Rattle.std.proofs.Common.{◌≡◌, ◌≢◌, ℕ, ◌+◌, ◌-◌, ◌<◌, ◌≤◌, ◌⊎◌, false, length, refl, sym, ap, ◌∙◌, subst, arith, inl, inr}
use Rattle.std.specs.Prelude.{Option, None, Some, MatchOption}
use Rattle.std.proofs.lemmas.Bool.{cases_lt, cases_eq}
use Rattle.std.proofs.lemmas.List.{get_or_past}
use Rattle.event_graph.specs.Network.{arc, StartsAt}
use Rattle.event_graph.specs.Table.{date_in}
use Rattle.live_check.specs.Order.{LiveGraph}
use Rattle.what_if.specs.Marks.{is_at, count_of, HasNone, IsFirstFrom}
use Rattle.what_if.specs.Page.{Page, IsDate, slot, date_at, greatest_term, mark_count}
use Rattle.what_if.specs.Evaluation.{without_mark, marks_after, after_evaluation}
use Rattle.what_if.specs.Sheet.{date_count, IsSheet}
use Rattle.what_if.specs.Settled.{changed_outs, IsSolved, HasEvaluatedFew, HasEvaluatedEachOnce, KeepsInputs}
use Rattle.what_if.proofs.Bits.{count_of-removed, count_of-none}
use Rattle.what_if.proofs.SlotOrder.{slot-below, slot-reader}
use Rattle.what_if.proofs.Readers.{is_at-set_other, is_at-cleared, count-with_readers, only-with_readers}
use Rattle.what_if.proofs.Sums.{changed_outs-more, changed_outs-same}
use Rattle.what_if.proofs.Least.{greatest_is_least}
use Rattle.what_if.proofs.KeptSheets.{same_date, marks_after-same, marks_after-changed, date_at-evaluated, date_at-elsewhere, evaluated-is_sheet}

-- all dates before this slot are settled: no mark is left before it, no date from it on has changed, and there were no
-- more evaluations than marks were set, nor than slots were passed
pub record IsSettling (old now : Page) (from : ℕ) : Type 0 where
  pub sheet : IsSheet now
  pub inputs : KeepsInputs old now
  pub none_before : (k : ℕ) → k < from → is_at now.marks k ≡ false
  pub same_after : (t n : ℕ) → IsDate now.live.graph t n → from ≤ slot now.live t n → date_at now t n ≡ date_at old t n
  pub few : now.evaluations + mark_count now ≤ old.evaluations + mark_count old + changed_outs now.live.graph (date_in old.dates) (date_in now.dates)
  pub once_each : now.evaluations ≤ old.evaluations + from
  pub within : from ≤ date_count now.live.graph

pub begins : (p : Page) → IsSheet p → IsSettling p p 0
begins p s = record {
  sheet = s;
  inputs = record { live = refl; inputs = refl; first = refl };
  none_before = λ k low. absurd (omega arith);
  same_after = λ t n date after. refl;
  few = omega arith;
  once_each = omega arith;
  within = omega arith;
}

module _ (old p : Page) (from k t n : ℕ) (s : IsSettling old p from) (first : IsFirstFrom p.marks from k) (date : IsDate p.live.graph t n) (at : slot p.live t n ≡ k) where
  -- those who read the date come after it
  reader-after : (j : ℕ) → j ≤ k → (a : ℕ) → StartsAt p.live.graph t a → j ≢ slot p.live (arc p.live.graph a).to (n + (arc p.live.graph a).tokens)
  reader-after j low a starts same =
      omega (arith, slot-reader p.live s.sheet.ranked.upward s.sheet.ranked.sound a n starts.0 date.from_one, ap (λ u. slot p.live u n) starts.1, at, same)

  -- so up to it only its own mark changes
  marks-up_to : (j : ℕ) → j ≤ k → is_at (marks_after p t n) j ≡ is_at (without_mark p t n) j
  marks-up_to j low =
      elim (cases_eq (date_at p t n) (greatest_term p t n)) [
        | inl same ↦ ap (λ m. is_at m j) (marks_after-same p s.sheet t n date same)
        | inr changed ↦
            ap (λ m. is_at m j) (marks_after-changed p s.sheet t n date changed)
            ∙ only-with_readers p.live t n (without_mark p t n) j (λ a starts within. reader-after j low a starts)
      ]

  none_up_to : (j : ℕ) → j < k + 1 → is_at (marks_after p t n) j ≡ false
  none_up_to j low =
      marks-up_to j (omega arith)
      ∙ elim (cases_eq j (slot p.live t n)) [
        | inl same ↦ ap (is_at (without_mark p t n)) same ∙ is_at-cleared p.marks (slot p.live t n)
        | inr other ↦
            is_at-set_other p.marks (slot p.live t n) j false other
            ∙ elim (cases_lt j from) [
              | inl early ↦ s.none_before j early
              | inr later ↦ first.none_before j later (omega (arith, other, at))
            ]
      ]

  apart : (u m : ℕ) → k + 1 ≤ slot p.live u m → (u ≢ t) ⊎ (m ≢ n)
  apart u m after =
      elim (same_date u m t n) [
        | inr other ↦ other
        | inl same ↦ absurd (omega (arith, after, at, ap (λ v. slot p.live v m) same.0, ap (slot p.live t) same.1))
      ]

  was_marked : count_of p.marks ≡ count_of (without_mark p t n) + 1
  was_marked =
      count_of-removed p.marks (slot p.live t n) (omega (arith, at, first.within)) (ap (is_at p.marks) at ∙ first.marked)

  as_at_first : date_at old t n ≡ date_at p t n
  as_at_first = sym (s.same_after t n date (omega (arith, first.after, at)))

  one_more : (after_evaluation p t n).evaluations ≡ p.evaluations + 1
  unfolding after_evaluation
  one_more = refl

  marks_are : (after_evaluation p t n).marks ≡ marks_after p t n
  unfolding after_evaluation
  marks_are = refl

  few_still : (after_evaluation p t n).evaluations + mark_count (after_evaluation p t n) ≤ old.evaluations + mark_count old + changed_outs p.live.graph (date_in old.dates) (date_in (after_evaluation p t n).dates)
  few_still =
      let q = after_evaluation p t n in
      let x = date_in old.dates in
      let y = date_in p.dates in
      let z = date_in q.dates in
      let g = p.live.graph in
      elim (cases_eq (date_at p t n) (greatest_term p t n)) [
        | inl same ↦
            let as_before = changed_outs-same g x y z (λ u m there. elim (same_date u m t n) [
              | inl is ↦
                  ap (λ v. date_at q v m) is.0 ∙ ap (date_at q t) is.1 ∙ date_at-evaluated p s.sheet t n date ∙ sym same
                  ∙ sym (ap (λ v. date_at p v m) is.0 ∙ ap (date_at p t) is.1)
              | inr other ↦ date_at-elsewhere p s.sheet t n date u m there.from_one other
            ]) in
            omega (arith, s.few, as_before, was_marked, one_more, ap count_of (marks_are ∙ marks_after-same p s.sheet t n date same))
        | inr changed ↦
            let more = changed_outs-more g x y z t n date (λ u m there other. date_at-elsewhere p s.sheet t n date u m there.from_one other) as_at_first (λ e. changed (sym as_at_first ∙ e ∙ date_at-evaluated p s.sheet t n date)) in
            omega (arith, s.few, more, was_marked, one_more, ap count_of (marks_are ∙ marks_after-changed p s.sheet t n date changed), count-with_readers p.live t n (without_mark p t n))
      ]

  pub goes_on : IsSettling old (after_evaluation p t n) (k + 1)
  unfolding after_evaluation
  goes_on = record {
    sheet = evaluated-is_sheet p s.sheet t n date;
    inputs = record { live = s.inputs.live; inputs = s.inputs.inputs; first = s.inputs.first };
    none_before = none_up_to;
    same_after = λ u m there after.
        date_at-elsewhere p s.sheet t n date u m there.from_one (apart u m after)
        ∙ s.same_after u m there (omega (arith, after, first.after));
    few = few_still;
    once_each = omega (arith, s.once_each, first.after);
    within = omega (arith, slot-below p.live s.sheet.ranked.upward t n date, at);
  }

module _ (old p : Page) (from : ℕ) (s : IsSettling old p from) (none : HasNone p.marks from (length p.marks)) where
  none_at : (k : ℕ) → is_at p.marks k ≡ false
  none_at k =
      elim (cases_lt k from) [
        | inl early ↦ s.none_before k early
        | inr later ↦ elim (cases_lt k (length p.marks)) [
          | inl low ↦ none k later low
          | inr past ↦ get_or_past p.marks k false past
        ]
      ]

  pub no_mark : mark_count p ≡ 0
  no_mark = count_of-none p.marks none_at

  pub is_solved : IsSolved p
  is_solved =
      greatest_is_least p.live p.inputs s.sheet.ranked.sound s.sheet.ranked.upward p.dates s.sheet.demand_for_each s.sheet.ranked.limits.some_station
      (λ t n date. s.sheet.greatest t n date (none_at (slot p.live t n)))

  pub few_evaluations : HasEvaluatedFew old p
  few_evaluations =
      omega (arith, s.few, ap (λ (l : LiveGraph). changed_outs l.graph (date_in old.dates) (date_in p.dates)) s.inputs.live)

-- the first mark after the settled dates, if there is one
pub record IsNext (old now : Page) (next : Option ℕ) : Type 0 where
  pub from : ℕ
  pub settling : IsSettling old now from
  pub next_is : MatchOption next (HasNone now.marks from (length now.marks)) (IsFirstFrom now.marks from)

-- where there is none, no date is marked, and the dates are the least solution
pub none_next : (old now : Page) (next : Option ℕ) → IsNext old now next → next ≡ None → (mark_count now ≡ 0) × IsSolved now
none_next old now next s none =
    let left = subst (λ (o : Option ℕ). MatchOption o (HasNone now.marks s.from (length now.marks)) (IsFirstFrom now.marks s.from)) none s.next_is in
    (no_mark old now s.from s.settling left, is_solved old now s.from s.settling left)

-- after the first settled dates no more evaluations were made than there are dates
pub each_once : (old now : Page) (next : Option ℕ) → IsNext old now next → HasEvaluatedEachOnce old now
each_once old now next s =
    omega (arith, s.settling.once_each, s.settling.within, ap (λ (l : LiveGraph). date_count l.graph) s.settling.inputs.live)

-- how many dates may still be evaluated
abbrev pub left_from : ℕ → Option ℕ → ℕ
left_from count None = 0
left_from count (Some at) = count - at
