-- Lemmas on latest dates in one word.
use Rattle.std.proofs.Common.{◌≡◌, ◌≢◌, ℕ, ◌-◌, ◌^◌, ◌<◌, ◌≤◌, min, sym, ap, ◌∙◌, arith, inl, inr}
use Rattle.std.specs.Prelude.{Some, option_map}
use Rattle.std.proofs.lemmas.Bool.{cases_eq}
use Rattle.latest_dates.specs.Latest.{earlier}
use Rattle.latest_dates.proofs.Earliest.{earlier-none}
use Rattle.latest_dates.specs.Words.{date_of, date_of-none, date_of-some}

-- the lesser of two words stands for the earlier date
pub earlier-second : (w v : ℕ) → w < 2 ^ 64 → v < w → date_of v ≡ earlier (date_of w) (date_of v)
earlier-second w v small less =
    elim (cases_eq w (2 ^ 64 - 1)) [
      | inl none ↦ sym (ap (λ o. earlier o (date_of v)) (date_of-none w none))
      | inr some ↦
          let other : v ≢ 2 ^ 64 - 1 = λ e. omega (arith, e) in
          let least : min w v ≡ v = omega arith in
          date_of-some v other
          ∙ ap Some (sym least)
          ∙ sym (ap (λ o. earlier o (date_of v)) (date_of-some w some) ∙ ap (earlier (Some w)) (date_of-some v other))
    ]

pub earlier-first : (w v : ℕ) → v < 2 ^ 64 → w ≤ v → date_of w ≡ earlier (date_of w) (date_of v)
earlier-first w v small less =
    elim (cases_eq v (2 ^ 64 - 1)) [
      | inl none ↦ sym (earlier-none (date_of w)) ∙ ap (earlier (date_of w)) (sym (date_of-none v none))
      | inr other ↦
          let some : w ≢ 2 ^ 64 - 1 = λ e. other (omega (arith, e)) in
          let least : min w v ≡ w = omega arith in
          date_of-some w some
          ∙ ap Some (sym least)
          ∙ sym (ap (λ o. earlier o (date_of v)) (date_of-some w some) ∙ ap (earlier (Some w)) (date_of-some v other))
    ]

-- a word that stands for a date, and one that is less by a time
pub date_of-less : (w time : ℕ) → w < 2 ^ 64 → w ≢ 2 ^ 64 - 1 → time ≤ w → date_of (w - time) ≡ option_map (λ date. date - time) (date_of w)
date_of-less w time small some long =
    let below : w - time ≢ 2 ^ 64 - 1 = λ e. some (omega (arith, e)) in
    date_of-some (w - time) below ∙ sym (ap (option_map (λ date. date - time)) (date_of-some w some))
