-- Lemmas on lists of numbers for each station.
use Rattle.std.proofs.Common.{◌≡◌, ◌≢◌, ℕ, zero, suc, ◌-◌, ◌≤◌, ◌⊎◌, List, [], length, get_or, set, sym, ap, ◌∙◌, arith, inl, inr}
use Rattle.std.proofs.lemmas.Bool.{cases_eq}
use Rattle.std.proofs.lemmas.List.{get_or-set_same, get_or-set_other, length-set}
use Rattle.line_base.specs.declared.event.Parts.{Parts}
use Rattle.event_graph.specs.Table.{date_in}
use Rattle.what_if.specs.Edited.{with_number}
use Rattle.what_if.specs.Page.{IsDate}
use Rattle.what_if.specs.Sheet.{HasRows}

pub date_in-at : (rows : List (List ℕ)) (t n : ℕ) → 1 ≤ n → date_in rows t n ≡ get_or (get_or rows t []) (n - 1) 0
date_in-at rows t zero one = absurd (omega arith)
date_in-at rows t (suc n) one = let before : n ≡ suc n - 1 = omega arith in ap (λ k. get_or (get_or rows t []) k 0) before

module _ (g : Parts) (rows : List (List ℕ)) (has : HasRows g rows) (t n : ℕ) (date : IsDate g t n) (number : ℕ) where
  row : get_or (with_number rows t n number) t [] ≡ set (get_or rows t []) (n - 1) number
  row = get_or-set_same rows t (set (get_or rows t []) (n - 1) number) [] (omega (arith, has.row_for_each, date.station))

  pub date_in-same : date_in (with_number rows t n number) t n ≡ number
  date_in-same =
      date_in-at (with_number rows t n number) t n date.from_one
      ∙ ap (λ r. get_or r (n - 1) 0) row
      ∙ get_or-set_same (get_or rows t []) (n - 1) number 0 (omega (arith, has.number_for_each t date.station, date.from_one, date.job))

  pub date_in-other : (u m : ℕ) → 1 ≤ m → (u ≢ t) ⊎ (m ≢ n) → date_in (with_number rows t n number) u m ≡ date_in rows u m
  date_in-other u m one other =
      date_in-at (with_number rows t n number) u m one
      ∙ elim (cases_eq u t) as (λ _. get_or (get_or (with_number rows t n number) u []) (m - 1) 0 ≡ get_or (get_or rows u []) (m - 1) 0) [
        | inl same ↦
            let job : m - 1 ≢ n - 1 = λ e. elim other [ inl far ↦ far same | inr far ↦ far (omega (arith, e, date.from_one)) ] in
            ap (λ v. get_or (get_or (with_number rows t n number) v []) (m - 1) 0) same
            ∙ ap (λ r. get_or r (m - 1) 0) row
            ∙ get_or-set_other (get_or rows t []) (n - 1) (m - 1) number 0 job
            ∙ ap (λ v. get_or (get_or rows v []) (m - 1) 0) (sym same)
        | inr far ↦ ap (λ r. get_or r (m - 1) 0) (get_or-set_other rows t u (set (get_or rows t []) (n - 1) number) [] far)
      ]
      ∙ sym (date_in-at rows u m one)

  pub HasRows-with_number : HasRows g (with_number rows t n number)
  HasRows-with_number = record {
    row_for_each = length-set rows t _ ∙ has.row_for_each;
    number_for_each = λ u there.
        elim (cases_eq u t) [
          | inl same ↦
              ap (λ v. length (get_or (with_number rows t n number) v [])) same
              ∙ ap length row
              ∙ length-set (get_or rows t []) (n - 1) number
              ∙ has.number_for_each t date.station
          | inr far ↦ ap length (get_or-set_other rows t u (set (get_or rows t []) (n - 1) number) [] far) ∙ has.number_for_each u there
        ];
  }
