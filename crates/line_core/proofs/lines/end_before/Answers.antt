use Rattle.std.proofs.Common.{◌≡◌, ℕ, ◌≤◌, cond, eqb, ltb, length, ap, ◌∙◌, inl, inr, arith, rules, tests}
use Rattle.std.specs.Prelude.{Option, None, Some}
use Rattle.std.specs.Option.{unwrap_or}
use Rattle.std.proofs.lemmas.Bool.{cases_lt, lt-ltb, le-ltb}
use Rattle.std.proofs.lemmas.List.Sums.{prefix_len-le-length}
use Rattle.std.proofs.lemmas.Iterator.{YieldsList-from_slice}
use Rattle.std.proofs.lemmas.Iterator.Search.{position_from_yields_List}
use Rattle.line_core.proofs.lines.end_before.Goals as goal

-- the place below n, or else n
place_or_end : (found : Option ℕ) (k n : ℕ) → found ≡ cond (ltb k n) (Some k) None → k ≤ n → unwrap_or found n ≡ k
place_or_end found k n is within =
    elim (cases_lt k n) [
      | inl before ↦ ap (λ o. unwrap_or o n) (is ∙ ap (λ b. cond b (Some k) None) (lt-ltb k n before))
      | inr past ↦ (let end : n ≡ k = omega arith in ap (λ o. unwrap_or o n) (is ∙ ap (λ b. cond b (Some k) None) (le-ltb k n past)) ∙ end)
    ]

pub returns : goal.returns
returns c =
    let found = position_from_yields_List (λ byte. eqb byte c.args.stop) _ _ c.position.result c.position.ensures.ran (YieldsList-from_slice _ c.iter.ensures.rest) (λ x b q k. search (rules, tests)) in
    c.unwrap_or.ensures ∙ place_or_end c.position.result _ (length c.args.text.now) found (omega (arith, prefix_len-le-length))
