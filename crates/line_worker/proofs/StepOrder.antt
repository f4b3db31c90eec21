-- An order of a worker's stations in the making.
use Rattle.std.proofs.Common.{◌≡◌, ℕ, ◌+◌, ◌-◌, ◌<◌, ◌≤◌, List, [], ◌∷◌, ◌++◌, cond, not, eqb, length, get_or, refl, ap, ◌∙◌, sym, subst, arith, ⊎_elim, length-append}
use Rattle.std.proofs.lemmas.Bool.{cases_lt, cond-true, cond-false, eq-eqb, ne_eqb}
use Rattle.std.proofs.lemmas.List.{get_or_append_left, get_or_push}
use Rattle.std.proofs.lemmas.List.Folds.{position_or_len_push}
use Rattle.std.proofs.lemmas.List.Sums.{prefix_len-le-length}
use Rattle.event_graph.specs.Network.{stations}
use Rattle.live_check.specs.Order.{LiveGraph, IsRanked}
use Rattle.line_core.proofs.RoundLemmas.{one_at_a_rank}
use Rattle.line_worker.specs.Teams.{index_in}
use Rattle.line_worker.specs.Worker.{IsOrder}
use Rattle.line_worker.specs.Order.{IsOrderUpto}

pub order_begins : (ranks : List ℕ) (first count : ℕ) → IsOrderUpto ranks first count [] 0
order_begins ranks first count = record {
  exists = λ p low. absurd (omega arith);
  rises = λ p q before low. absurd (omega arith);
  below = λ p low. absurd (omega arith);
  listed = λ i low under. absurd (omega arith);
}

pub order_ends : (live : LiveGraph) (first count : ℕ) (order : List ℕ) → IsRanked live → first + count ≤ stations live.graph → IsOrderUpto live.ranks first count order (stations live.graph) → IsOrder live.ranks first count order
order_ends live first count order ranked within upto = record {
  exists = upto.exists;
  listed = λ i low. upto.listed i low (ranked.upward.below (first + i) 0 (omega (arith, ranked.upward.rank_for_each, low, within)));
  rises = upto.rises;
}

-- a number that is listed stays so
listed-push : (order : List ℕ) (x i : ℕ) → index_in order i < length order → index_in (order ++ x ∷ []) i < length (order ++ x ∷ [])
listed-push order x i low =
    let at = index_in order i in
    let same : index_in (order ++ x ∷ []) i ≡ at =
    position_or_len_push (λ y. eqb y i) order x ∙ cond-false (eqb at (length order)) _ at (ne_eqb at (length order) (omega arith)) in
    omega (arith, same, low, length-append order (x ∷ []))

-- the number that is put is listed
listed-new : (order : List ℕ) (x : ℕ) → index_in (order ++ x ∷ []) x < length (order ++ x ∷ [])
listed-new order x =
    ⊎_elim
    (λ early. listed-push order x x early)
    (λ late.
    let at = index_in order x in
    let full : at ≡ length order = omega (arith, late, prefix_len-le-length (λ y. not (eqb y x)) order) in
    let is : index_in (order ++ x ∷ []) x ≡ length order + cond (eqb x x) 0 1 =
    position_or_len_push (λ y. eqb y x) order x ∙ cond-true (eqb at (length order)) _ at (eq-eqb at (length order) full) in
    omega (arith, is, cond-true {A = ℕ} (eqb x x) 0 1 (eq-eqb x x refl), length-append order (x ∷ [])))
    (cases_lt (index_in order x) (length order))

module _ (live : LiveGraph) (ranked : IsRanked live) (first count : ℕ) (within : first + count ≤ stations live.graph) (order : List ℕ) (rank t : ℕ) (upto : IsOrderUpto live.ranks first count order rank) (there : t < stations live.graph) (at : get_or live.ranks t 0 ≡ rank) where
  -- a station of the worker of this rank is t
  is-t : (i : ℕ) → i < count → get_or live.ranks (first + i) 0 ≡ rank → first + i ≡ t
  is-t i low same = one_at_a_rank live.graph live.ranks ranked.upward (first + i) t (omega (arith, low, within)) there (same ∙ sym at)

  pub order_skips : (first ≤ t → t < first + count → ⊥) → IsOrderUpto live.ranks first count order (rank + 1)
  order_skips outside = record {
    exists = upto.exists;
    rises = upto.rises;
    below = λ p low. omega (arith, upto.below p low);
    listed = λ i low under.
        ⊎_elim
        (λ before. upto.listed i low before)
        (λ late.
        let same : get_or live.ranks (first + i) 0 ≡ rank = omega arith in
        let is = is-t i low same in
        absurd (outside (omega (arith, is)) (omega (arith, is, low))))
        (cases_lt (get_or live.ranks (first + i) 0) rank);
  }

  pub order_takes : first ≤ t → t < first + count → (number : ℕ) → t - first ≡ number → IsOrderUpto live.ranks first count (order ++ number ∷ []) (rank + 1)
  order_takes from under number is =
      let x = number in
      let longer = length-append order (x ∷ []) in
      let here : get_or live.ranks (first + x) 0 ≡ rank = ap (λ n. get_or live.ranks n 0) (let same : first + x ≡ t = omega arith in same) ∙ at in
      let old : (p : ℕ) → p < length order → get_or (order ++ x ∷ []) p 0 ≡ get_or order p 0 = λ p low. get_or_append_left order (x ∷ []) 0 p low in
      let last : get_or (order ++ x ∷ []) (length order) 0 ≡ x = get_or_push order x 0 (length order) refl in
      let Place : ℕ → ℕ = λ n. get_or live.ranks (first + n) 0 in
      record {
        exists = λ p low.
            ⊎_elim
            (λ early. omega (arith, old p early, upto.exists p early))
            (λ late. let end : p ≡ length order = omega (arith, longer) in omega (arith, last, ap (λ k. get_or (order ++ x ∷ []) k 0) end))
            (cases_lt p (length order));
        rises = λ p q before low.
            let p_low : p < length order = omega (arith, longer) in
            ⊎_elim
            (λ early. omega (arith, ap Place (old p p_low), ap Place (old q early), upto.rises p q before early))
            (λ late.
            let end : q ≡ length order = omega (arith, longer) in
            omega (arith, ap Place (old p p_low), upto.below p p_low, here, ap Place (ap (λ k. get_or (order ++ x ∷ []) k 0) end ∙ last)))
            (cases_lt q (length order));
        below = λ p low.
            ⊎_elim
            (λ early. omega (arith, ap Place (old p early), upto.below p early))
            (λ late.
            let end : p ≡ length order = omega (arith, longer) in
            omega (arith, here, ap Place (ap (λ k. get_or (order ++ x ∷ []) k 0) end ∙ last)))
            (cases_lt p (length order));
        listed = λ i low under_i.
            ⊎_elim
            (λ before. listed-push order x i (upto.listed i low before))
            (λ late.
            let same : get_or live.ranks (first + i) 0 ≡ rank = omega arith in
            let i_is : i ≡ x = omega (arith, is-t i low same) in
            subst (λ k. index_in (order ++ x ∷ []) k < length (order ++ x ∷ [])) (sym i_is) (listed-new order x))
            (cases_lt (get_or live.ranks (first + i) 0) rank);
      }
