-- Logs that have grown from a reached state are those of a reached state: by `Early` none of their sums was capped, so
-- that each date is the one that the equations give.
use Rattle.std.proofs.Common.{◌≡◌, ℕ, ◌+◌, ◌-◌, ◌<◌, ◌≤◌, Bool, true, false, cond, eqb, max, List, [], ◌∷◌, ◌++◌, map, drop, length, get_or, refl, ap, ◌∙◌, sym, subst, arith, ⊎_elim, length-append}
use Rattle.std.specs.List.{range_with_len}
use Rattle.std.proofs.lemmas.Bool.{cases_lt}
use Rattle.std.proofs.lemmas.List.{length-take, length-drop, length-map, get_or-take, get_or-drop, get_or_append_left, get_or-append_right, get_or-map, ext_get_or}
use Rattle.std.proofs.lemmas.List.FromFn.{fill_by_all, length-map-range_with_len}
use Rattle.line_base.specs.declared.event.Parts.{Parts}
use Rattle.event_graph.specs.Network.{stations, arc, arc_count, demand, delay, ins}
use Rattle.event_graph.specs.Term.{work}
use Rattle.event_graph.specs.State.{State, log, place}
use Rattle.event_graph.specs.GreatestValue.{greatest}
use Rattle.event_graph.specs.Reached.{Reached}
use Rattle.event_graph.proofs.ArcNumbers.{All-ins}
use Rattle.live_check.specs.Order.{IsRanked, LiveGraph}
use Rattle.line_core.specs.Consistent.{all_tokens, tokens_left, state_of, IsConsistent, LATEST_DATE}
use Rattle.event_graph.proofs.Greatest.{le-greatest, greatest-le, greatest-same}
use Rattle.line_core.proofs.Consistency.{asked, date_by_tokens, due_date-by_tokens, HasHeld, reached_is_consistent}
use Rattle.event_graph.proofs.Sizes.{delay-small, work-small}
use Rattle.line_core.proofs.Runs.{length-tokens, token-initial, token-put}
use Rattle.line_core.proofs.LastFirings.{place-state_of, consistent_is_reached}
use Rattle.station_step.specs.Kept.{saturating, date_for}
use Rattle.line_worker.specs.Grown.{log_in, made_at, tokens_put, token_on, HasGrown}
use Rattle.line_worker.proofs.Early.{bare, asked_is_early}

-- ---- dates by tokens

-- tokens that are the same ask the same date
by_tokens-same : (g : Parts) (s other : State) (t k : ℕ) → ((a : ℕ) → a < arc_count g → (arc g a).to ≡ t → get_or (all_tokens g s.logs a) k 0 ≡ get_or (all_tokens g other.logs a) k 0) → date_by_tokens g s t k ≡ date_by_tokens g other t k
unfolding date_by_tokens
by_tokens-same g s other t k same =
    ap (λ n. cond (eqb t 0) (demand g (k + 1)) n) (
    greatest-same
    (asked g s k)
    (asked g other k)
    (ins g t)
    (λ i d low. let at = All-ins g t i d low in ap (λ n. work g (get_or (ins g t) i d) (k + 1) + n) (same (get_or (ins g t) i d) at.0 at.1)))

-- the greatest over a list, by the places in it
greatest-map : (f h : ℕ → ℕ) (xs : List ℕ) → greatest f (map h xs) ≡ greatest (λ x. f (h x)) xs
unfolding greatest
greatest-map f h [] = refl
greatest-map f h (x ∷ xs) = ap (max (f (h x))) (greatest-map f h xs)

greatest-by_place : (f : ℕ → ℕ) (xs : List ℕ) → greatest (λ k. f (get_or xs k 0)) (range_with_len 0 (length xs)) ≡ greatest f xs
greatest-by_place f xs =
    sym (greatest-map f (λ k. get_or xs k 0) (range_with_len 0 (length xs)))
    ∙ ap (greatest f) (sym (fill_by_all (λ k. get_or xs k 0) xs (length xs) 0 refl (λ k low. refl)))

-- the date over token n of each arc into station t
unfoldable date_over : Parts → (ℕ → List ℕ) → ℕ → ℕ → ℕ → ℕ
date_over g tokens t n job = cond (eqb t 0) (demand g job) (greatest (λ a. saturating (get_or (tokens a) n 0) (work g a job)) (ins g t))

date_for-over : (g : Parts) (tokens : ℕ → List ℕ) (t n job : ℕ) → date_for g t job (token_on g tokens t n) ≡ date_over g tokens t n job
unfolding date_for date_over
date_for-over g tokens t n job =
    ap (λ date. cond (eqb t 0) (demand g job) date) (greatest-by_place (λ a. saturating (get_or (tokens a) n 0) (work g a job)) (ins g t))

cond-le : (b : Bool) (x y more : ℕ) → y ≤ more → cond b x y ≤ cond b x more
cond-le true x y more le = omega arith
cond-le false x y more le = le

-- saturating sums over tokens that are no later make no later date
date_over-le : (g : Parts) (s : State) (tokens : ℕ → List ℕ) (t n k : ℕ) → ((a : ℕ) → a < arc_count g → (arc g a).to ≡ t → get_or (tokens a) n 0 ≤ get_or (all_tokens g s.logs a) k 0) → date_over g tokens t n (k + 1) ≤ date_by_tokens g s t k
unfolding date_over date_by_tokens
date_over-le g s tokens t n k earlier =
    cond-le (eqb t 0) (demand g (k + 1)) _ _ (
    greatest-le
    (λ a. saturating (get_or (tokens a) n 0) (work g a (k + 1)))
    (ins g t)
    (greatest (asked g s k) (ins g t))
    (λ i d low.
    let at = All-ins g t i d low in
    omega (arith, earlier (get_or (ins g t) i d) at.0 at.1, le-greatest (asked g s k) (ins g t) i d low)))

saturating-small : (date time : ℕ) → date ≤ LATEST_DATE + LATEST_DATE → time ≤ LATEST_DATE → saturating date time ≡ date + time
saturating-small date time early short = omega arith

-- sums that are not cut make the same date
date_over-same : (g : Parts) (s : State) (tokens : ℕ → List ℕ) (t n k : ℕ) → ((a : ℕ) → a < arc_count g → (arc g a).to ≡ t → (get_or (tokens a) n 0 ≡ get_or (all_tokens g s.logs a) k 0) × (saturating (get_or (tokens a) n 0) (work g a (k + 1)) ≡ get_or (tokens a) n 0 + work g a (k + 1))) → date_over g tokens t n (k + 1) ≡ date_by_tokens g s t k
unfolding date_over date_by_tokens
date_over-same g s tokens t n k same =
    ap (λ date. cond (eqb t 0) (demand g (k + 1)) date) (
    greatest-same
    (λ a. saturating (get_or (tokens a) n 0) (work g a (k + 1)))
    (asked g s k)
    (ins g t)
    (λ i d low.
    let a = get_or (ins g t) i d in
    let at = All-ins g t i d low in
    let here = same a at.0 at.1 in
    omega (arith, here.0, here.1)))

-- ---- logs that have grown

module _ (live : LiveGraph) (begun : State) (logs : List (List ℕ)) (ranked : IsRanked live) (reached : Reached live.graph begun) (grown : HasGrown live.graph begun logs) where
  abbrev g : Parts
  g = live.graph

  abbrev consistent : IsConsistent live.graph begun
  consistent = reached_is_consistent live.graph begun reached

  made-le : (t : ℕ) → t < stations g → made_at begun t ≤ length (log_in logs t)
  made-le t there = omega (arith, ap length (grown.kept t there), length-take (made_at begun t) (log_in logs t))

  kept-at : (t k : ℕ) → t < stations g → k < made_at begun t → get_or (log_in logs t) k 0 ≡ get_or (log begun t) k 0
  kept-at t k there early =
      sym (get_or-take (made_at begun t) (log_in logs t) k 0 early) ∙ ap (λ l. get_or l k 0) (grown.kept t there)

  -- how many tokens were put
  length-put : (a : ℕ) → a < arc_count g → made_at begun (arc g a).to + length (tokens_put g begun logs a) ≡ length (all_tokens g logs a)
  unfolding tokens_put
  length-put a listed =
      let from = (arc g a).from in
      let to = (arc g a).to in
      let added = drop (made_at begun from) (log_in logs from) in
      let later = λ (date : ℕ). saturating date (delay g a) in
      let had = ap length (consistent.places_are_left a listed) ∙ length-drop (made_at begun to) (all_tokens g begun.logs a) in
      omega (arith, had, length-append (place begun a) (map later added), length-map added later, length-drop (made_at begun from) (log_in logs from), length-tokens g begun.logs a, length-tokens g logs a, consistent.tokens_suffice a listed, made-le from (ranked.sound.starts_exist a listed))

  -- the tokens that an arc had held then are the first of those that it has held since
  token-kept : (a k : ℕ) → a < arc_count g → k < length (all_tokens g begun.logs a) → get_or (all_tokens g logs a) k 0 ≡ get_or (all_tokens g begun.logs a) k 0
  token-kept a k listed low =
      let from = (arc g a).from in
      let tokens = (arc g a).tokens in
      let there = ranked.sound.starts_exist a listed in
      let more = made-le from there in
      let had = length-tokens g begun.logs a in
      ⊎_elim
      (λ early. token-initial g logs a k early ∙ sym (token-initial g begun.logs a k early))
      (λ late.
      token-put g logs a k late (omega (arith, length-tokens g logs a))
      ∙ ap (λ n. n + delay g a) (kept-at from (k - tokens) there (omega arith))
      ∙ sym (token-put g begun.logs a k late low))
      (cases_lt k tokens)

  -- a token that was put, and the one with plain sums
  module _ (R : ℕ → ℕ → Type 0) (same : (date : ℕ) → R date date) (a : ℕ) (listed : a < arc_count g) (sums : (i : ℕ) → i < length (log_in logs (arc g a).from) → R (saturating (get_or (log_in logs (arc g a).from) i 0) (delay g a)) (get_or (log_in logs (arc g a).from) i 0 + delay g a)) where
    put-is : (k : ℕ) → k < length (tokens_put g begun logs a) → R (get_or (tokens_put g begun logs a) k 0) (get_or (all_tokens g logs a) (made_at begun (arc g a).to + k) 0)
    unfolding tokens_put
    put-is k low =
        let from = (arc g a).from in
        let to = (arc g a).to in
        let tokens = (arc g a).tokens in
        let there = ranked.sound.starts_exist a listed in
        let before = place begun a in
        let added = drop (made_at begun from) (log_in logs from) in
        let later = λ (date : ℕ). saturating date (delay g a) in
        let many = length-put a listed in
        let was = consistent.places_are_left a listed in
        let had : length before + made_at begun to ≡ tokens + made_at begun from =
        omega (arith, ap length was ∙ length-drop (made_at begun to) (all_tokens g begun.logs a), length-tokens g begun.logs a, consistent.tokens_suffice a listed) in
        let exact = get_or (all_tokens g logs a) (made_at begun to + k) 0 in
        ⊎_elim
        (λ early.
        let old : get_or (before ++ map later added) k 0 ≡ exact =
        get_or_append_left before (map later added) 0 k early
        ∙ ap (λ l. get_or l k 0) was
        ∙ get_or-drop (made_at begun to) (all_tokens g begun.logs a) k 0
        ∙ sym (token-kept a (made_at begun to + k) listed (omega (arith, had, early, length-tokens g begun.logs a))) in
        subst (λ v. R v exact) (sym old) (same exact))
        (λ late.
        let i = made_at begun from + (k - length before) in
        let low_i : i < length (log_in logs from) = omega (arith, many, low, had, length-tokens g logs a) in
        let put : get_or (before ++ map later added) k 0 ≡ saturating (get_or (log_in logs from) i 0) (delay g a) =
        get_or-append_right before (map later added) (length before) k 0 refl late
        ∙ get_or-map later added (k - length before) 0 0 (omega (arith, low_i, length-drop (made_at begun from) (log_in logs from)))
        ∙ ap later (get_or-drop (made_at begun from) (log_in logs from) (k - length before) 0) in
        let plain : exact ≡ get_or (log_in logs from) i 0 + delay g a =
        token-put g logs a (made_at begun to + k) (omega (arith, had, late)) (omega (arith, many, low))
        ∙ ap (λ n. get_or (log_in logs from) n 0 + delay g a) (omega (arith, had, late)) in
        subst (λ v. R v exact) (sym put) (subst (R (saturating (get_or (log_in logs from) i 0) (delay g a))) (sym plain) (sums i low_i)))
        (cases_lt k (length before))

  held : (t k : ℕ) → t < stations g → k < length (log_in logs t) → HasHeld g (bare logs) t k
  held t k there low a listed ends =
      omega (arith, grown.tokens_suffice a listed, length-put a listed, ap (λ u. length (log_in logs u)) ends)

  held-then : (t k : ℕ) → t < stations g → k < made_at begun t → HasHeld g begun t k
  held-then t k there early a listed ends =
      omega (arith, consistent.tokens_suffice a listed, ap (λ u. length (log begun u)) ends)

  -- a date that was there is due still
  old-date : (t k : ℕ) → t < stations g → k < made_at begun t → get_or (log_in logs t) k 0 ≡ date_by_tokens g (bare logs) t k
  old-date t k there early =
      kept-at t k there early
      ∙ consistent.dates_are_due t k there early
      ∙ due_date-by_tokens g begun t k (held-then t k there early)
      ∙ sym (by_tokens-same g (bare logs) begun t k (λ a listed ends. token-kept a k listed (held-then t k there early a listed ends)))

  -- a date that was added, in terms of the tokens put
  added-date : (t k : ℕ) → t < stations g → made_at begun t ≤ k → k < length (log_in logs t) → get_or (log_in logs t) k 0 ≡ date_over g (tokens_put g begun logs) t (k - made_at begun t) (k + 1)
  added-date t k there late low =
      let n = k - made_at begun t in
      let at : made_at begun t + n ≡ k = omega arith in
      ap (λ i. get_or (log_in logs t) i 0) (sym at)
      ∙ grown.dates t n there (omega arith)
      ∙ date_for-over g (tokens_put g begun logs) t n (made_at begun t + n + 1)
      ∙ ap (λ i. date_over g (tokens_put g begun logs) t n (i + 1)) at

  -- which token an added date takes
  taken-at : (a t k : ℕ) → a < arc_count g → (arc g a).to ≡ t → made_at begun t ≤ k → made_at begun (arc g a).to + (k - made_at begun t) ≡ k
  taken-at a t k listed ends late = omega (arith, ap (made_at begun) ends)

  was-put : (a t k : ℕ) → a < arc_count g → (arc g a).to ≡ t → t < stations g → made_at begun t ≤ k → k < length (log_in logs t) → k - made_at begun t < length (tokens_put g begun logs a)
  was-put a t k listed ends there late low =
      omega (arith, grown.tokens_suffice a listed, ap (λ u. length (log_in logs u)) ends, ap (made_at begun) ends)

  at_most : (t k : ℕ) → t < stations g → k < length (log_in logs t) → get_or (log_in logs t) k 0 ≤ date_by_tokens g (bare logs) t k
  at_most t k there low =
      ⊎_elim
      (λ early. omega (arith, old-date t k there early))
      (λ late.
      let n = k - made_at begun t in
      let less : date_over g (tokens_put g begun logs) t n (k + 1) ≤ date_by_tokens g (bare logs) t k =
      date_over-le g (bare logs) (tokens_put g begun logs) t n k
      (λ a listed ends.
      let le = put-is (λ x y. x ≤ y) (λ x. omega arith) a listed (λ i low_i. omega arith) n (was-put a t k listed ends there late low) in
      omega (arith, le, ap (λ i. get_or (all_tokens g logs a) i 0) (taken-at a t k listed ends late))) in
      omega (arith, added-date t k there late low, less))
      (cases_lt k (made_at begun t))

  early : (t k : ℕ) → t < stations g → k < length (log_in logs t) → get_or (log_in logs t) k 0 ≤ LATEST_DATE
  early = asked_is_early g live.ranks ranked.sound ranked.limits ranked.upward logs grown.few_dates (record { held = held; at_most = at_most })

  -- no sum of a token was cut
  put-same : (a k : ℕ) → a < arc_count g → k < length (tokens_put g begun logs a) → get_or (tokens_put g begun logs a) k 0 ≡ get_or (all_tokens g logs a) (made_at begun (arc g a).to + k) 0
  put-same a k listed low =
      put-is (λ x y. x ≡ y) (λ x. refl) a listed
      (λ i low_i.
      saturating-small (get_or (log_in logs (arc g a).from) i 0) (delay g a)
      (omega (arith, early (arc g a).from i (ranked.sound.starts_exist a listed) low_i))
      (omega (arith, delay-small g a ranked.limits)))
      k low

  token-early : (a k : ℕ) → a < arc_count g → k < length (all_tokens g logs a) → get_or (all_tokens g logs a) k 0 ≤ LATEST_DATE + LATEST_DATE
  token-early a k listed low =
      let from = (arc g a).from in
      ⊎_elim
      (λ first. omega (arith, token-initial g logs a k first))
      (λ late. omega (arith, token-put g logs a k late low, delay-small g a ranked.limits, early from (k - (arc g a).tokens) (ranked.sound.starts_exist a listed) (omega (arith, length-tokens g logs a))))
      (cases_lt k (arc g a).tokens)

  same_date : (t k : ℕ) → t < stations g → k < length (log_in logs t) → get_or (log_in logs t) k 0 ≡ date_by_tokens g (bare logs) t k
  same_date t k there low =
      ⊎_elim
      (λ early_k. old-date t k there early_k)
      (λ late.
      let n = k - made_at begun t in
      added-date t k there late low
      ∙ date_over-same g (bare logs) (tokens_put g begun logs) t n k
      (λ a listed ends.
      let same = put-same a n listed (was-put a t k listed ends there late low) ∙ ap (λ i. get_or (all_tokens g logs a) i 0) (taken-at a t k listed ends late) in (
        same,
        saturating-small (get_or (tokens_put g begun logs a) n 0) (work g a (k + 1))
            (omega (arith, same, token-early a k listed (held t k there low a listed ends)))
            (omega (arith, work-small g a (k + 1) ranked.limits)),
      )))
      (cases_lt k (made_at begun t))

  grown_is_consistent : IsConsistent g (state_of g logs)
  unfolding state_of
  grown_is_consistent = record {
    a_log_each = grown.a_log_each;
    a_place_each = length-map-range_with_len (tokens_left g logs) 0 (arc_count g);
    few_dates = grown.few_dates;
    tokens_suffice = λ a listed. omega (arith, grown.tokens_suffice a listed, length-put a listed);
    dates_are_due = λ t k there low. same_date t k there low ∙ sym (due_date-by_tokens g (bare logs) t k (held t k there low));
    places_are_left = λ a listed. place-state_of g logs a listed;
  }

  pub grown_is_reached : Reached live.graph (state_of live.graph logs)
  grown_is_reached =
      consistent_is_reached g live.ranks ranked.limits.some_station ranked.sound ranked.upward.upward (state_of g logs) grown_is_consistent

  -- the tokens that were put are those that the arc has held, without the ones that were taken before
  pub tokens_put-held : (a : ℕ) → a < arc_count live.graph → tokens_put live.graph begun logs a ≡ drop (made_at begun (arc live.graph a).to) (all_tokens live.graph logs a)
  tokens_put-held a listed =
      let taken = made_at begun (arc g a).to in
      let held_so_far = all_tokens g logs a in
      ext_get_or
      0
      (tokens_put g begun logs a)
      (drop taken held_so_far)
      (omega (arith, length-put a listed, length-drop taken held_so_far))
      (λ k low. put-same a k listed low ∙ sym (get_or-drop taken held_so_far k 0))
