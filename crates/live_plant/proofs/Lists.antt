-- The machines of a stage, one stage more, one date more.
use Rattle.std.proofs.Common.{◌≡◌, ℕ, zero, suc, ◌+◌, ◌*◌, ◌≤◌, [], ◌∷◌, ◌++◌, codes, refl, sym, ap, ◌∙◌, arith}
use Rattle.std.proofs.lemmas.List.FromFn.{map-range_with_len_more}
use Rattle.plant_model.specs.Stages.{Machine}
use Rattle.live_plant.specs.Generator.{state_after, draw_below}
use Rattle.live_plant.specs.Big.{machine_from, machines_from, stage_from, stage_of, stages_of, date_from, dates_from}
use Rattle.live_plant.proofs.Draws.{state_after-add, draw_below-after, draw_below-lt}

-- three machines, each of the state that the one before left
pub machines_from-drawn :
    (s t u : ℕ) (a b c : Machine) → a ≡ machine_from s (codes "a") → t ≡ state_after 2 s →
    b ≡ machine_from t (codes "b") → u ≡ state_after 2 t → c ≡ machine_from u (codes "c") →
    a ∷ b ∷ c ∷ [] ≡ machines_from s
unfolding machines_from
machines_from-drawn s t u a b c is_a is_t is_b is_u is_c =
    let four = is_u ∙ ap (state_after 2) is_t ∙ state_after-add 2 2 4 s refl in
    let b_at = is_b ∙ ap (λ v. machine_from v (codes "b")) is_t in
    let c_at = is_c ∙ ap (λ v. machine_from v (codes "c")) four in
    rw (is_a, b_at, c_at) refl

pub stages_of-more :
    (seed n : ℕ) →
    stages_of seed n ++ stage_from (state_after (8 * n) seed) n ∷ [] ≡ stages_of seed (n + 1)
unfolding stages_of
stages_of-more seed n = sym (map-range_with_len_more (stage_of seed) 0 n n (omega arith))

pub dates_from-more : (s n : ℕ) → dates_from s n ++ date_from s (n + 1) ∷ [] ≡ dates_from s (n + 1)
unfolding dates_from
dates_from-more s n = sym (map-range_with_len_more (date_from s) 1 n (n + 1) (omega arith))

-- the next date is later by the next draw
pub date_from-next : (s n : ℕ) → date_from s n + draw_below (state_after n s) 1 30 ≡ date_from s (n + 1)
unfolding date_from
date_from-next s n =
    let e : suc n ≡ n + 1 = omega arith in
    ap (λ x. date_from s n + x) (draw_below-after 1 n (suc n) s 30 (omega arith)) ∙ ap (date_from s) e

-- dates come at most 29 after each other
pub date_from-le : (s n : ℕ) → date_from s n ≤ 29 * n
unfolding date_from
date_from-le s zero = omega arith
date_from-le s (suc n) = omega (arith, date_from-le s n, draw_below-lt s (suc n) 30 (omega arith))
