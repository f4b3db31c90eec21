-- A round in the order of the ranks: each station can fire as its turn comes, and then has fired once more.
use Rattle.std.proofs.Common.{◌≡◌, ◌≢◌, ℕ, ◌+◌, ◌<◌, true, List, [], length, get_or, eqb, sym, ap, ◌∙◌, refl, subst, arith, ⊎_elim}
use Rattle.std.proofs.lemmas.Bool.{cases_lt, cases_eq, cases_order, eq-eqb, ne_eqb}
use Rattle.std.proofs.lemmas.List.{length-drop, get_or-replicate}
use Rattle.line_base.specs.declared.event.Parts.{Parts}
use Rattle.event_graph.specs.Network.{stations, jobs, arc, arc_count}
use Rattle.event_graph.specs.State.{State, log, place, start}
use Rattle.event_graph.specs.Firing.{CanFire, new_date, after}
use Rattle.live_check.specs.Order.{IsRanked, IsUpward}
use Rattle.line_core.specs.Consistent.{all_tokens}
use Rattle.line_core.specs.Run.{IsReached, first_run}
use Rattle.line_core.specs.Round.{IsInRound, HasFired}
use Rattle.line_core.proofs.ArcTokens.{length-all_tokens, log-after, with_new, length-with_new}
use Rattle.line_core.proofs.Consistency.{reached_is_consistent}

-- two stations of one rank are one
pub one_at_a_rank : (g : Parts) (ranks : List ℕ) → IsUpward g ranks → (t u : ℕ) → t < stations g → u < stations g → get_or ranks t 0 ≡ get_or ranks u 0 → t ≡ u
one_at_a_rank g ranks up t u t_there u_there same =
    ⊎_elim
    (λ equal. equal)
    (λ apart. ⊎_elim
    (λ below. absurd (up.distinct t u 0 below (omega (arith, up.rank_for_each)) same))
    (λ above. absurd (up.distinct u t 0 above (omega (arith, up.rank_for_each)) (sym same)))
    apart)
    (cases_order t u)

-- the station at the rank that the round has reached can fire
pub can_fire_next : (g : Parts) (ranks : List ℕ) (s : State) (done at t : ℕ) → IsRanked (record { graph = g; ranks = ranks }) → IsReached (record { graph = g; state = s }) → IsInRound ranks (record { graph = g; state = s }) done at → done < jobs g → t < stations g → get_or ranks t 0 ≡ at → CanFire g s t
can_fire_next g ranks s done at t ranked reached round more there here =
    let c = reached_is_consistent g s reached.reached in
    let mine : length (log s t) ≡ done = round.behind t there (omega (arith, here)) in
    let has_token : (a : ℕ) → a < arc_count g → (arc g a).to ≡ t → 0 < length (place s a) =
    λ a known ends.
    let from = (arc g a).from in
    let from_there = ranked.sound.starts_exist a known in
    let left = ap length (c.places_are_left a known) ∙ length-drop (length (log s (arc g a).to)) (all_tokens g s.logs a) in
    let many = length-all_tokens g s a in
    let taken = ap (λ v. length (log s v)) ends in
    ⊎_elim
    (λ ahead. omega (arith, left, many, taken, mine, round.ahead from from_there ahead))
    (λ behind.
    let put = round.behind from from_there behind in
    ⊎_elim
    (λ none.
    let up = ranked.upward.upward a known none in
    let above : get_or ranks from 0 < get_or ranks t 0 = subst (λ v. get_or ranks from 0 < get_or ranks v 0) ends up in
    absurd (omega (arith, above, here, behind)))
    (λ some. omega (arith, left, many, taken, mine, put, some))
    (cases_eq (arc g a).tokens 0))
    (cases_lt (get_or ranks from 0) at) in
    record { exists = there; more = omega (arith, mine, more); tokens = has_token }

-- after its firing the round has reached the next rank
pub round_goes_on : (g : Parts) (ranks : List ℕ) (s : State) (done at t : ℕ) → IsRanked (record { graph = g; ranks = ranks }) → IsReached (record { graph = g; state = s }) → IsInRound ranks (record { graph = g; state = s }) done at → t < stations g → get_or ranks t 0 ≡ at → IsInRound ranks (record { graph = g; state = after g s t }) done (at + 1)
round_goes_on g ranks s done at t ranked reached round there here =
    let c = reached_is_consistent g s reached.reached in
    let gain = log-after g s t (omega (arith, c.a_log_each, there)) in
    let grown : (u : ℕ) → length (log (after g s t) u) ≡ length (with_new (eqb u t) (log s u) (new_date g s t)) = λ u. ap length (gain u) in
    let same : length (log (after g s t) t) ≡ done + 1 =
    grown t ∙ ap (λ b. length (with_new b (log s t) (new_date g s t))) (eq-eqb t t refl) ∙ length-with_new true (log s t) (new_date g s t) ∙ ap (λ n. n + 1) (round.behind t there (omega (arith, here))) in
    let other : (u : ℕ) → u ≢ t → length (log (after g s t) u) ≡ length (log s u) =
    λ u apart. grown u ∙ ap (λ b. length (with_new b (log s u) (new_date g s t))) (ne_eqb u t apart) in
    record {
      ahead = λ u u_there low.
          ⊎_elim
          (λ before. other u (λ e. omega (arith, ap (λ v. get_or ranks v 0) e, before, here)) ∙ round.ahead u u_there before)
          (λ at_least.
          let is_t : u ≡ t = one_at_a_rank g ranks ranked.upward u t u_there there (omega (arith, here, low, at_least)) in
          ap (λ v. length (log (after g s t) v)) is_t ∙ same)
          (cases_lt (get_or ranks u 0) at);
      behind = λ u u_there high.
          other u (λ e. omega (arith, ap (λ v. get_or ranks v 0) e, high, here)) ∙ round.behind u u_there (omega (arith, high));
    }

-- at the start no station has fired
pub begun-has_fired : (g : Parts) → HasFired (first_run g) 0
unfolding start
begun-has_fired g t there = ap length (get_or-replicate (stations g) t [] [] there)
