-- The steps at which a path left its stations: for each of this many stations the step, or their number where it was
-- not left.
use Rattle.std.proofs.Common.{◌≡◌, ◌≢◌, ℕ, ◌+◌, ◌*◌, ◌<◌, cond, eqb, List, [], ◌∷◌, ◌++◌, length, set, get_or, replicate, count_by, sym, ap, ◌∙◌, refl, inl, inr, add-zero, mul-one, arith}
use Rattle.std.proofs.lemmas.Bool.{cases_lt, cases_eq, eq-eqb, ne_eqb}
use Rattle.std.proofs.lemmas.List.{length-set, length-replicate, get_or-replicate, get_or-set_same, get_or-set_other, length_push, get_or_push, get_or_append_left}
use Rattle.std.proofs.lemmas.List.Folds.{sum_by-replicate}
use Rattle.std.proofs.lemmas.List.Sums.{sum_by-set, get_or-le-sum_by}

-- `left_by a` is the station that arc a of the path leaves
pub record AreLeftSteps (stations : ℕ) (left_by : ℕ → ℕ) (path left : List ℕ) : Type 0 where
  pub left_for_each : length left ≡ stations
  pub left_once : (k : ℕ) → k < length path → get_or left (left_by (get_or path k 0)) 0 ≡ k
  pub step_of : (t : ℕ) → t < stations → get_or left t 0 ≢ stations → get_or left t 0 < length path
  pub left_at : (t : ℕ) → t < stations → get_or left t 0 ≢ stations → left_by (get_or path (get_or left t 0) 0) ≡ t
  pub unseen : count_by (λ step. eqb step stations) left + length path ≡ stations

module _ (stations : ℕ) (left_by : ℕ → ℕ) where
  one_unseen : (step : ℕ) → step ≡ stations → ◌≡◌ {A = ℕ} (cond (eqb step stations) 1 0) 1
  one_unseen step is = ap {B = ℕ} (λ b. cond b 1 0) (eq-eqb step stations is)

  -- a path that has not begun
  pub left_steps-none : AreLeftSteps stations left_by [] (replicate stations stations)
  left_steps-none = record {
    left_for_each = length-replicate stations stations;
    left_once = λ k below. absurd (omega (arith, below));
    step_of = λ t exists seen. absurd (seen (get_or-replicate stations t stations 0 exists));
    left_at = λ t exists seen. absurd (seen (get_or-replicate stations t stations 0 exists));
    unseen =
        add-zero (count_by (λ step. eqb step stations) (replicate stations stations))
        ∙ (sum_by-replicate (λ step. cond (eqb step stations) 1 0) stations stations ∙ (ap (λ c. stations * c) (one_unseen stations refl) ∙ mul-one stations));
  }

  -- at a station that it has not left, the path has room for one more arc
  pub left_steps-room : (path left : List ℕ) (at : ℕ) → AreLeftSteps stations left_by path left → at < stations → get_or left at 0 ≡ stations → length path < stations
  left_steps-room path left at h here fresh =
      omega (arith, h.unseen, get_or-le-sum_by (λ step. cond (eqb step stations) 1 0) left at 0 (omega (arith, h.left_for_each, here)), one_unseen (get_or left at 0) fresh)

  -- and leaves it by that arc
  pub left_steps-more : (path left : List ℕ) (at a : ℕ) → AreLeftSteps stations left_by path left → at < stations → get_or left at 0 ≡ stations → left_by a ≡ at → AreLeftSteps stations left_by (path ++ a ∷ []) (set left at (length path))
  left_steps-more path left at a h exists fresh by =
      let n = length path in
      let room = left_steps-room path left at h exists fresh in
      let here : at < length left = omega (arith, h.left_for_each, exists) in
      let path' = path ++ a ∷ [] in
      let left' = set left at n in
      let own : get_or left' at 0 ≡ n = get_or-set_same left at n 0 here in
      let other : (t : ℕ) → t ≢ at → get_or left' t 0 ≡ get_or left t 0 = λ t apart. get_or-set_other left at t n 0 apart in
      let old : (k : ℕ) → k < n → get_or path' k 0 ≡ get_or path k 0 = λ k below. get_or_append_left path (a ∷ []) 0 k below in
      let last : get_or path' n 0 ≡ a = get_or_push path a 0 n refl in
      record {
        left_for_each = length-set left at n ∙ h.left_for_each;
        left_once = λ k below.
            elim (cases_lt k n) [
              | inl before ↦
                  (let t = left_by (get_or path k 0) in
                  let apart : t ≢ at = λ same. omega (arith, h.left_once k before, ap (λ u. get_or left u 0) same, fresh, room) in
                  ap (λ b. get_or left' (left_by b) 0) (old k before) ∙ (other t apart ∙ h.left_once k before))
              | inr past ↦
                  (let e : n ≡ k = omega (arith, length_push path a) in
                  ap (λ b. get_or left' (left_by b) 0) (get_or_push path a 0 k e) ∙ (ap (λ u. get_or left' u 0) by ∙ (own ∙ e)))
            ];
        step_of = λ t there seen.
            elim (cases_eq t at) [
              | inl same ↦ omega (arith, ap (λ u. get_or left' u 0) same, own, length_push path a)
              | inr apart ↦ omega (arith, other t apart, h.step_of t there (λ e. seen (other t apart ∙ e)), length_push path a)
            ];
        left_at = λ t there seen.
            elim (cases_eq t at) [
              | inl same ↦
                  ap (λ u. left_by (get_or path' (get_or left' u 0) 0)) same ∙ (ap (λ k. left_by (get_or path' k 0)) own ∙ (ap left_by last ∙ (by ∙ sym same)))
              | inr apart ↦
                  (let seen_before : get_or left t 0 ≢ stations = λ e. seen (other t apart ∙ e) in
                  ap (λ k. left_by (get_or path' k 0)) (other t apart) ∙ (ap left_by (old (get_or left t 0) (h.step_of t there seen_before)) ∙ h.left_at t there seen_before))
            ];
        unseen =
            (let f : ℕ → ℕ = λ step. cond (eqb step stations) 1 0 in
            let after : f n ≡ 0 = ap {B = ℕ} (λ b. cond b 1 0) (ne_eqb n stations (λ e. omega (arith, e, room))) in
            omega (arith, h.unseen, sum_by-set f left at n 0 here, one_unseen (get_or left at 0) fresh, after, length_push path a));
      }
