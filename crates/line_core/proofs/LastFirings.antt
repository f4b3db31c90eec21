-- Every consistent state of a graph whose arcs without tokens go up an order is reached: the last firing is taken back
-- at the station that comes last.
use Rattle.std.proofs.Common.{◌≡◌, ℕ, zero, suc, ◌+◌, ◌-◌, ◌<◌, ◌≤◌, true, false, cond, eqb, List, [], ◌∷◌, ◌++◌, take, replicate, length, get_or, set, zero-add, refl, sym, ap, ◌∙◌, subst, arith, ⊎_elim}
use Rattle.std.proofs.lemmas.Bool.{eqb-true, eq-eqb, ne_eqb, cases_eq, cases_Bool, cond-true, cond-false}
use Rattle.std.proofs.lemmas.List.{length-set, length-drop, length-replicate, get_or-replicate, get_or-set_same, get_or-set_other, take_more, take_all, nil_from_length, ext_get_or}
use Rattle.std.proofs.lemmas.List.FromFn.{fill_by_all, get_or-map-range_with_len, length-map-range_with_len}
use Rattle.std.proofs.lemmas.List.Sums.{get_or-le-sum_by}
use Rattle.line_base.specs.declared.event.Parts.{Parts}
use Rattle.event_graph.specs.Network.{stations, arc, arc_count, IsGraph}
use Rattle.event_graph.specs.State.{State, log, place, start}
use Rattle.event_graph.specs.Firing.{CanFire, new_date, after}
use Rattle.event_graph.specs.Reached.{Reached, begins, fires}
use Rattle.line_core.specs.Consistent.{all_tokens, tokens_left, due_date, state_of, IsConsistent, firing_count}
use Rattle.line_core.proofs.ArcTokens.{with_new, length-with_new, get_or-with_new, LogGains, log-after, length-all_tokens}
use Rattle.line_core.proofs.Consistency.{HasHeld, HasHeld-gain, by_tokens-gain, due_date-by_tokens, new_date-by_tokens, held_now, exists, start_is_consistent, after_is_consistent}
use Rattle.line_core.proofs.Bounds.{fired-after}
use Rattle.line_core.proofs.Order.{GoesUp, ComesFirst, last_station, no_more_dates, fewer_dates}

-- ---- a consistent state is known by its logs

pub state_of-logs : (g : Parts) (s : State) → IsConsistent g s → s ≡ state_of g s.logs
unfolding state_of
state_of-logs g s c =
    ap (λ places. record { logs = s.logs; places = places }) (
    fill_by_all (tokens_left g s.logs) s.places (arc_count g) [] c.a_place_each c.places_are_left)

same_from_logs : (g : Parts) (s other : State) → IsConsistent g s → IsConsistent g other → s.logs ≡ other.logs → s ≡ other
same_from_logs g s other c d e = state_of-logs g s c ∙ ap (state_of g) e ∙ sym (state_of-logs g other d)

pub place-state_of : (g : Parts) (logs : List (List ℕ)) (a : ℕ) → a < arc_count g → place (state_of g logs) a ≡ tokens_left g logs a
unfolding state_of
place-state_of g logs a there = get_or-map-range_with_len (tokens_left g logs) 0 (arc_count g) a a [] there (zero-add a)

-- ---- the last firing of a station that comes last

module _ (g : Parts) (s : State) (places : List ℕ) (graph : IsGraph g) (up : GoesUp g places) (c : IsConsistent g s) (t : ℕ) (known : t < stations g) (last : (u : ℕ) → u < stations g → ComesFirst s places u t) (some : 1 ≤ length (log s t)) where
  -- how many dates are left when the last one is taken back
  abbrev left : ℕ
  left = length (log s t) - 1

  abbrev last_date : ℕ
  last_date = get_or (log s t) left 0

  abbrev old_logs : List (List ℕ)
  old_logs = set s.logs t (take left (log s t))

  abbrev old : State
  old = state_of g old_logs

  there : t < length s.logs
  there = omega (arith, known, c.a_log_each)

  old-logs : old.logs ≡ old_logs
  unfolding state_of
  old-logs = refl

  regained : (u : ℕ) → log s u ≡ with_new (eqb u t) (get_or old_logs u []) last_date
  regained u =
      let Regained : ℕ → Type 0 = λ v. log s v ≡ with_new (eqb v t) (get_or old_logs v []) last_date in
      let at_t : Regained t =
      sym (take_all (left + 1) (log s t) (omega arith))
      ∙ take_more (log s t) left 0 (omega arith)
      ∙ ap (λ l. l ++ last_date ∷ []) (sym (get_or-set_same s.logs t (take left (log s t)) [] there))
      ∙ sym (cond-true (eqb t t) _ _ (eq-eqb t t refl)) in
      ⊎_elim
      (λ same. subst Regained (sym same) at_t)
      (λ other. sym (get_or-set_other s.logs t u (take left (log s t)) [] other) ∙ sym (cond-false (eqb u t) _ _ (ne_eqb u t other)))
      (cases_eq u t)

  gains : LogGains old s t last_date
  unfolding state_of
  gains = regained

  length-old : (u : ℕ) → length (log s u) ≡ length (log old u) + cond (eqb u t) 1 0
  length-old u = ap length (gains u) ∙ length-with_new (eqb u t) (log old u) last_date

  -- no station has taken the token that the last firing of t put on an arc
  suffices : (a : ℕ) → a < arc_count g → length (log old (arc g a).to) ≤ length (all_tokens g old.logs a)
  suffices a listed =
      let from = (arc g a).from in
      let to = (arc g a).to in
      let many = length-all_tokens g old a in
      let were : length (log s to) ≤ (arc g a).tokens + length (log s from) = omega (arith, c.tokens_suffice a listed, length-all_tokens g s a) in
      let order = last to (graph.ends_exist a listed) in
      let Answer = length (log old to) ≤ length (all_tokens g old.logs a) in
      let elsewhere : eqb from t ≡ false → Answer =
      λ no. omega (arith, many, were, length-old from, length-old to, cond-false {A = ℕ} (eqb from t) 1 0 no) in
      let from_t : eqb from t ≡ true → Answer =
      λ yes.
      let starts = eqb-true from t yes in
      let here = ap (λ v. length (log s v)) starts in
      let one_less = cond-true {A = ℕ} (eqb from t) 1 0 yes in
      let itself : eqb to t ≡ true → Answer =
      λ back. omega (arith, many, ap (λ v. length (log old v)) (eqb-true to t back ∙ sym starts)) in
      let apart : eqb to t ≡ false → Answer =
      λ other.
      let as_many = cond-false {A = ℕ} (eqb to t) 1 0 other in
      ⊎_elim
      (λ none.
      let above : get_or places t 0 < get_or places to 0 = subst (λ v. get_or places v 0 < get_or places to 0) starts (up a listed none) in
      omega (arith, many, here, one_less, as_many, length-old from, length-old to, fewer_dates s places to t order above))
      (λ token. omega (arith, many, here, one_less, as_many, length-old from, length-old to, token, no_more_dates s places to t order))
      (cases_eq (arc g a).tokens 0) in
      ⊎_elim itself apart (cases_Bool (eqb to t)) in
      ⊎_elim from_t elsewhere (cases_Bool (eqb from t))

  dates-old : (u k : ℕ) → u < stations g → k < length (log old u) → get_or (log old u) k 0 ≡ due_date g old.logs u (k + 1)
  dates-old u k exists_u low =
      let held : HasHeld g old u k = λ a listed ends. omega (arith, low, suffices a listed, ap (λ v. length (log old v)) ends) in
      sym (ap (λ l. get_or l k 0) (gains u) ∙ get_or-with_new (eqb u t) (log old u) last_date k low)
      ∙ c.dates_are_due u k exists_u (omega (arith, low, length-old u))
      ∙ due_date-by_tokens g s u k (HasHeld-gain g old s t last_date u k gains held)
      ∙ by_tokens-gain g old s t last_date u k gains held
      ∙ sym (due_date-by_tokens g old u k held)

  old_is_consistent : IsConsistent g old
  unfolding state_of
  old_is_consistent = record {
    a_log_each = length-set s.logs t (take left (log s t)) ∙ c.a_log_each;
    a_place_each = length-map-range_with_len (tokens_left g old_logs) 0 (arc_count g);
    few_dates = λ u exists_u. omega (arith, length-old u, c.few_dates u exists_u);
    tokens_suffice = suffices;
    dates_are_due = dates-old;
    places_are_left = λ a listed. place-state_of g old_logs a listed;
  }

  one_less_at_t : length (log s t) ≡ length (log old t) + 1
  one_less_at_t = length-old t ∙ ap (λ n. length (log old t) + n) (cond-true {A = ℕ} (eqb t t) 1 0 (eq-eqb t t refl))

  -- each input place of t had a token then
  had_token : (a : ℕ) → a < arc_count g → (arc g a).to ≡ t → 0 < length (place old a)
  had_token a listed ends =
      let from = (arc g a).from in
      let left_there = ap length (old_is_consistent.places_are_left a listed) ∙ length-drop (length (log old (arc g a).to)) (all_tokens g old.logs a) in
      let many = length-all_tokens g old a in
      let were : length (log s (arc g a).to) ≤ (arc g a).tokens + length (log s from) = omega (arith, c.tokens_suffice a listed, length-all_tokens g s a) in
      let then_at_t = ap (λ v. length (log old v)) ends in
      let now_at_t = ap (λ v. length (log s v)) ends in
      let Answer = 0 < length (place old a) in
      let elsewhere : eqb from t ≡ false → Answer =
      λ no. omega (arith, left_there, many, were, then_at_t, now_at_t, one_less_at_t, length-old from, cond-false {A = ℕ} (eqb from t) 1 0 no) in
      let itself : eqb from t ≡ true → Answer =
      λ yes.
      let same = eqb-true from t yes ∙ sym ends in
      ⊎_elim
      (λ none. absurd (omega (arith, up a listed none, ap (λ v. get_or places v 0) same)))
      (λ token. omega (arith, left_there, many, token, ap (λ v. length (log old v)) same))
      (cases_eq (arc g a).tokens 0) in
      ⊎_elim itself elsewhere (cases_Bool (eqb from t))

  could_fire : CanFire g old t
  could_fire = record { exists = known; more = omega (arith, one_less_at_t, c.few_dates t known); tokens = had_token }

  same_date : new_date g old t ≡ last_date
  same_date =
      let k = length (log old t) in
      let held = held_now g old t old_is_consistent could_fire in
      let at : k ≡ left = omega (arith, one_less_at_t) in
      new_date-by_tokens g old t old_is_consistent could_fire
      ∙ sym (by_tokens-gain g old s t last_date t k gains held)
      ∙ sym (due_date-by_tokens g s t k (HasHeld-gain g old s t last_date t k gains held))
      ∙ sym (c.dates_are_due t k known (omega (arith, one_less_at_t)))
      ∙ ap (λ i. get_or (log s t) i 0) at

  same_logs : (after g old t).logs ≡ s.logs
  same_logs =
      let again = after_is_consistent g old t old_is_consistent could_fire in
      ext_get_or
      []
      (after g old t).logs
      s.logs
      (again.a_log_each ∙ sym c.a_log_each)
      (λ u low.
      log-after g old t (exists g old t old_is_consistent could_fire) u
      ∙ ap (with_new (eqb u t) (log old u)) same_date
      ∙ sym (gains u))

  fired_again : after g old t ≡ s
  fired_again =
      same_from_logs g (after g old t) s (after_is_consistent g old t old_is_consistent could_fire) c same_logs

  one_firing : (before : State) × IsConsistent g before × (firing_count s ≡ firing_count before + 1) × (Reached g before → Reached g s)
  one_firing = (
    old,
    old_is_consistent,
    ap firing_count (sym fired_again) ∙ fired-after g old t (exists g old t old_is_consistent could_fire),
    λ reached. subst (Reached g) fired_again (fires old t reached could_fire),
  )

-- ---- all firings

-- a state in which no station has a date is the start
undated_is_start : (g : Parts) (s : State) → IsConsistent g s → ((u : ℕ) → u < stations g → length (log s u) ≡ 0) → s ≡ start g
unfolding start
undated_is_start g s c none =
    let empty : s.logs ≡ replicate (stations g) [] =
    ext_get_or
    []
    s.logs
    (replicate (stations g) [])
    (c.a_log_each ∙ sym (length-replicate (stations g) []))
    (λ u low.
    let known : u < stations g = omega (arith, c.a_log_each) in
    nil_from_length (log s u) (none u known) ∙ sym (get_or-replicate (stations g) u [] [] known)) in
    same_from_logs g s (start g) c (start_is_consistent g) empty

undated_is_reached : (g : Parts) (s : State) (places : List ℕ) (t : ℕ) → IsConsistent g s → ((u : ℕ) → u < stations g → ComesFirst s places u t) → length (log s t) ≡ 0 → Reached g s
undated_is_reached g s places t c last none =
    let undated = undated_is_start g s c (λ u known. omega (arith, none, no_more_dates s places u t (last u known))) in
    subst (Reached g) (sym undated) begins

unwound : (g : Parts) (places : List ℕ) → 1 ≤ stations g → IsGraph g → GoesUp g places → (most : ℕ) (s : State) → firing_count s ≤ most → IsConsistent g s → Reached g s
unwound g places some graph up zero s few c =
    let last = last_station g s places some in
    let none : length (log s last.0) ≡ 0 =
    omega (arith, few, get_or-le-sum_by length s.logs last.0 [] (omega (arith, last.1, c.a_log_each))) in
    undated_is_reached g s places last.0 c last.2 none
unwound g places some graph up (suc most) s few c =
    let last = last_station g s places some in
    let go_back : (length (log s last.0) ≡ 0 → ⊥) → Reached g s =
    λ dated.
    let before = one_firing g s places graph up c last.0 last.1 last.2 (omega arith) in
    before.3 (unwound g places some graph up most before.0 (omega (arith, few, before.2)) before.1) in
    ⊎_elim (undated_is_reached g s places last.0 c last.2) go_back (cases_eq (length (log s last.0)) 0)

pub consistent_is_reached : (g : Parts) (places : List ℕ) → 1 ≤ stations g → IsGraph g → GoesUp g places → (s : State) → IsConsistent g s → Reached g s
consistent_is_reached g places some graph up s c = unwound g places some graph up (firing_count s) s (omega arith) c
