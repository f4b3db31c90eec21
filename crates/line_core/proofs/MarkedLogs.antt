-- What the logs and the numbers of tokens say of all places with this many tokens.
use Rattle.std.proofs.Common.{◌≡◌, ℕ, ◌<◌, ◌≤◌, List, [], ◌∷◌, ◌++◌, length, map, get_or, refl, sym, ap, ◌∙◌, arith, append_assoc, zero-add}
use Rattle.std.specs.Prelude.{Some, slice_index}
use Rattle.std.specs.List.{All, flat_map, range_with_len}
use Rattle.std.proofs.Math.ListN.{get_or-map}
use Rattle.std.proofs.lemmas.List.{length-map, length-drop}
use Rattle.std.proofs.lemmas.List.FromFn.{length-range_with_len, get_or-range_with_len, length-map-range_with_len, get_or-map-range_with_len}
use Rattle.std.proofs.lemmas.List.Elements.{All-head, All-tail}
use Rattle.line_base.specs.declared.event.Parts.{Parts}
use Rattle.line_base.specs.Roomy.{RoomyLogs, dates_of}
use Rattle.event_graph.specs.Network.{stations, arc, arc_count}
use Rattle.event_graph.specs.State.{State}
use Rattle.event_graph.specs.Reached.{Reached}
use Rattle.live_check.specs.Order.{LiveGraph, IsRanked}
use Rattle.line_core.specs.declared.error.StateError.{StateError}
use Rattle.line_core.specs.Consistent.{all_tokens, tokens_left, state_of}
use Rattle.line_core.specs.Parts.{LATEST_GIVEN, AreParts, list_at, each_below, long_logs, wrong_count, wrong_marking, wrong_markings, wrong_dates, wrong_token, wrong_tokens_on, wrong_tokens, state_refusals, first}
use Rattle.line_core.specs.Marked.{wrong_marked, wrong_counts, marked_refusals, HaveCounts, RefusesMarked, RefusesTokensAlone}
use Rattle.line_core.proofs.ArcTokens.{length-all_tokens}
use Rattle.line_core.proofs.Runs.{log_of, dates-log_of}
use Rattle.line_core.proofs.FirstRefusals.{first-front, none-append, append-none_left, append-none_right, each_none, none_each}
use Rattle.line_core.proofs.PartsLemmas.{counted, wrong_marking-none, wrong_token-none, reached_logs}

flat_map-same : (f h : ℕ → List StateError) (xs : List ℕ) → All (λ x. f x ≡ h x) xs → flat_map f xs ≡ flat_map h xs
flat_map-same f h [] same = refl
flat_map-same f h (x ∷ xs) same =
    ap (λ l. l ++ flat_map f xs) (All-head (λ x. f x ≡ h x) x xs same)
    ∙ ap (λ l. h x ++ l) (flat_map-same f h xs (All-tail (λ x. f x ≡ h x) x xs same))

pub each_below-same : (n : ℕ) (f h : ℕ → List StateError) → ((i : ℕ) → i < n → f i ≡ h i) → each_below n f ≡ each_below n h
unfolding each_below
each_below-same n f h same =
    flat_map-same f h (range_with_len 0 n) (λ k d low.
    let below : k < n = omega (arith, low, length-range_with_len 0 n) in
    let is = get_or-range_with_len 0 n k d below ∙ zero-add k in
    ap f is ∙ same k below ∙ ap h (sym is))

module _ (g : Parts) (logs places : List (List ℕ)) (marking : List ℕ) (counts : HaveCounts places marking) where
  count_is : (a : ℕ) → length (list_at places a) ≡ slice_index marking a
  count_is a = sym (get_or-map (λ (tokens : List ℕ). length tokens) places a []) ∙ ap (λ l. get_or l a 0) counts

  markings-counts : wrong_markings g logs places ≡ wrong_counts g logs marking
  unfolding wrong_marking wrong_marked
  markings-counts =
      each_below-same (arc_count g) (wrong_marking g logs places) (wrong_marked g logs marking) (λ a there. ap (wrong_count g logs a) (count_is a))

  pub refusals-marked : state_refusals g logs places ≡ marked_refusals g logs marking ++ wrong_tokens g logs places
  unfolding state_refusals marked_refusals
  refusals-marked =
      let long = long_logs g logs in
      let dates = wrong_dates g logs in
      let tokens = wrong_tokens g logs places in
      ap (λ l. long ++ (l ++ (dates ++ tokens))) markings-counts
      ∙ ap (λ l. long ++ l) (sym (append_assoc (wrong_counts g logs marking) dates tokens))
      ∙ sym (append_assoc long (wrong_counts g logs marking ++ dates) tokens)

pub refuses_marked : (g : Parts) (logs : List (List ℕ)) (marking : List ℕ) (refusal : StateError) → first (marked_refusals g logs marking) ≡ Some refusal → RefusesMarked g logs marking refusal
refuses_marked g logs marking refusal found places counts =
    ap first (refusals-marked g logs places marking counts) ∙ first-front (marked_refusals g logs marking) (wrong_tokens g logs places) refusal found

pub tokens_alone : (g : Parts) (logs : List (List ℕ)) (marking : List ℕ) → marked_refusals g logs marking ≡ [] → RefusesTokensAlone g logs marking
tokens_alone g logs marking none places counts =
    refusals-marked g logs places marking counts ∙ ap (λ l. l ++ wrong_tokens g logs places) none

-- ---- the tokens that the logs leave

module _ (g : Parts) (logs : List (List ℕ)) (marking : List ℕ) (none : marked_refusals g logs marking ≡ []) where
  abbrev left : List (List ℕ)
  left = map (tokens_left g logs) (range_with_len 0 (arc_count g))

  long_none : long_logs g logs ≡ []
  unfolding marked_refusals
  long_none = append-none_left (long_logs g logs) _ none

  rest_none : wrong_counts g logs marking ++ wrong_dates g logs ≡ []
  unfolding marked_refusals
  rest_none = append-none_right (long_logs g logs) _ none

  left_at : (a : ℕ) → a < arc_count g → list_at left a ≡ tokens_left g logs a
  left_at a there = get_or-map-range_with_len (tokens_left g logs) 0 (arc_count g) a a [] there (zero-add a)

  marking_right : (a : ℕ) → a < arc_count g → wrong_marking g logs left a ≡ []
  unfolding wrong_marked
  marking_right a there =
      let s : State = record { logs = logs; places = left } in
      let right = counted g logs a (slice_index marking a) (none_each (arc_count g) (wrong_marked g logs marking) (append-none_left (wrong_counts g logs marking) _ rest_none) a there) in
      let taken = length (list_at logs (arc g a).to) in
      wrong_marking-none g logs left a (
      omega (arith, ap length (left_at a there), right, length-drop taken (all_tokens g logs a), length-all_tokens g s a))

  tokens_right : (a : ℕ) → a < arc_count g → wrong_tokens_on g logs left a ≡ []
  unfolding wrong_tokens_on
  tokens_right a there =
      each_none (length (list_at left a)) (wrong_token g logs left a) (λ k low. wrong_token-none g logs left a k (ap (λ l. get_or l k 0) (left_at a there)))

  left_right : state_refusals g logs left ≡ []
  unfolding state_refusals
  left_right =
      none-append (long_logs g logs) _ long_none (
      none-append (wrong_markings g logs left) _ (each_none (arc_count g) (wrong_marking g logs left) marking_right) (
      none-append (wrong_dates g logs) _ (append-none_right (wrong_counts g logs marking) _ rest_none) (
      each_none (arc_count g) (wrong_tokens_on g logs left) tokens_right)))

pub reached_marked : (l : LiveGraph) (ranked : IsRanked l) (logs : RoomyLogs) (marking : List ℕ) → length logs.logs ≡ stations l.graph → All (All (λ date. date ≤ LATEST_GIVEN)) (dates_of logs) → marked_refusals l.graph (dates_of logs) marking ≡ [] → Reached l.graph (state_of l.graph (dates_of logs))
reached_marked l ranked logs marking a_log early none =
    let g = l.graph in
    let left_lists = map (tokens_left g (dates_of logs)) (range_with_len 0 (arc_count g)) in
    let places : RoomyLogs = record { logs = map (log_of 0) left_lists; room = 0 } in
    let dates : dates_of places ≡ left_lists = dates-log_of 0 left_lists in
    let parts : AreParts g logs places = record {
      a_log_each = a_log;
      a_place_each = length-map left_lists (log_of 0) ∙ length-map-range_with_len (tokens_left g (dates_of logs)) 0 (arc_count g);
      early = early;
    } in
    reached_logs l ranked logs places parts (ap (state_refusals g (dates_of logs)) dates ∙ left_right g (dates_of logs) marking none)
