-- Logs and places with which nothing is wrong are consistent, and those of a consistent state have nothing wrong.
use Rattle.std.proofs.Common.{◌≡◌, ◌≢◌, ℕ, ◌+◌, ◌<◌, ◌≤◌, Bool, true, false, eqb, ltb, List, [], ◌++◌, length, get_or, refl, sym, ap, ◌∙◌, subst, arith}
use Rattle.std.specs.Prelude.{Some, not, ℤ, pos, ◌-ℤ◌}
use Rattle.std.specs.List.{All}
use Rattle.std.proofs.lemmas.Bool.Decides.{nat_tests}
use Rattle.std.proofs.lemmas.Bool.{lt-ltb, le-ltb, ne_eqb, eq-eqb, eqb-true}
use Rattle.std.proofs.lemmas.List.{length-map, length-drop, get_or-drop, ext_get_or}
use Rattle.std.proofs.lemmas.List.Elements.{All-from_get_or}
use Rattle.line_base.specs.declared.event.Parts.{Parts}
use Rattle.line_base.specs.Roomy.{RoomyLog, RoomyLogs, dates_of}
use Rattle.event_graph.specs.Network.{stations, jobs, arc, arc_count}
use Rattle.event_graph.specs.Table.{date_in}
use Rattle.event_graph.specs.Term.{token_date}
use Rattle.event_graph.specs.State.{State}
use Rattle.event_graph.specs.Reached.{Reached}
use Rattle.live_check.specs.Order.{LiveGraph, IsRanked}
use Rattle.line_core.specs.declared.error.StateError.{StateError}
use Rattle.line_core.specs.declared.error.StateError.TheVariants.{Count, Marking, Date, PlaceDate}
use Rattle.line_core.specs.Consistent.{all_tokens, tokens_left, due_date, state_of, IsConsistent}
use Rattle.line_core.specs.Run.{Run, run_of}
use Rattle.line_core.specs.Parts.{AreParts, run_with, list_at, refuse_if, long_log, long_logs, wrong_count, wrong_marking, wrong_markings, wrong_date, wrong_dates_at, wrong_dates, wrong_token, wrong_tokens_on, wrong_tokens, state_refusals, first, IsReachedExactly}
use Rattle.line_core.proofs.ArcTokens.{length-all_tokens, token_date-next}
use Rattle.line_core.proofs.Consistency.{reached_is_consistent}
use Rattle.line_core.proofs.LastFirings.{state_of-logs, consistent_is_reached}
use Rattle.line_core.proofs.FirstRefusals.{first-none, none-append, append-none_left, append-none_right, refuse_if-none, refuse_if-first, test-none, each_none, none_each}

abbrev Lists : Type 0
Lists = List (List ℕ)

-- ---- one refusal

pub long_log-first : (g : Parts) (logs : Lists) (t have limit : ℕ) → have ≡ length (list_at logs t) → limit ≡ jobs g → limit < have → first (long_log g logs t) ≡ Some (Count t have limit)
unfolding long_log
long_log-first g logs t have limit is most long =
    refuse_if-first (ltb (jobs g) (length (list_at logs t))) _ (lt-ltb _ _ (omega arith))
    ∙ ap (λ n. Some (Count t n (jobs g))) (sym is)
    ∙ ap (λ n. Some (Count t have n)) (sym most)

pub long_log-none : (g : Parts) (logs : Lists) (t : ℕ) → length (list_at logs t) ≤ jobs g → long_log g logs t ≡ []
unfolding long_log
long_log-none g logs t few = refuse_if-none (ltb (jobs g) (length (list_at logs t))) _ (le-ltb _ _ few)

few_dates : (g : Parts) (logs : Lists) (t : ℕ) → long_log g logs t ≡ [] → length (list_at logs t) ≤ jobs g
unfolding long_log
few_dates g logs t none =
    let fails = test-none (ltb (jobs g) (length (list_at logs t))) _ none in grind (arith, nat_tests)

-- where no log is too long none has more dates than there are jobs
pub few_from : (g : Parts) (logs : Lists) → long_logs g logs ≡ [] → (t : ℕ) → t < stations g → length (list_at logs t) ≤ jobs g
few_from g logs none t there = few_dates g logs t (none_each (stations g) (long_log g logs) none t there)

not_from : (b : Bool) → b ≡ false → not b ≡ true
not_from b fails = ap not fails

not_none : (b : Bool) → b ≡ true → not b ≡ false
not_none b holds = ap not holds

true_from : (b : Bool) → not b ≡ false → b ≡ true
true_from true same = refl
true_from false same = cc

-- a pair of numbers, compared
pub differs : (n m : ℕ) (refusal : StateError) → n ≢ m → first (refuse_if (not (eqb n m)) refusal) ≡ Some refusal
differs n m refusal other = refuse_if-first (not (eqb n m)) refusal (not_from (eqb n m) (ne_eqb n m other))

pub agrees : (n m : ℕ) (refusal : StateError) → n ≡ m → refuse_if (not (eqb n m)) refusal ≡ []
agrees n m refusal same = refuse_if-none (not (eqb n m)) refusal (not_none (eqb n m) (eq-eqb n m same))

agreed : (n m : ℕ) (refusal : StateError) → refuse_if (not (eqb n m)) refusal ≡ [] → n ≡ m
agreed n m refusal none = eqb-true n m (true_from (eqb n m) (test-none (not (eqb n m)) refusal none))

module _ (g : Parts) (logs : Lists) (a : ℕ) where
  pub wrong_count-first : (have put taken : ℕ) (need : ℤ) → put ≡ (arc g a).tokens + length (list_at logs (arc g a).from) → taken ≡ length (list_at logs (arc g a).to) → need ≡ pos put -ℤ pos taken → have + taken ≢ put → first (wrong_count g logs a have) ≡ Some (Marking a have need)
  unfolding wrong_count
  wrong_count-first have put taken need puts takes needs other =
      let to_dates = length (list_at logs (arc g a).to) in
      let same : have + taken ≡ have + to_dates = omega arith in
      differs (have + to_dates) ((arc g a).tokens + length (list_at logs (arc g a).from)) _ (λ e. other (same ∙ e ∙ sym puts))
      ∙ ap (λ n. Some (Marking a have (pos n -ℤ pos to_dates))) (sym puts)
      ∙ ap (λ n. Some (Marking a have (pos put -ℤ pos n))) (sym takes)
      ∙ ap (λ n. Some (Marking a have n)) (sym needs)

  pub wrong_count-none : (have : ℕ) → have + length (list_at logs (arc g a).to) ≡ (arc g a).tokens + length (list_at logs (arc g a).from) → wrong_count g logs a have ≡ []
  unfolding wrong_count
  wrong_count-none have same = agrees _ _ _ same

  pub counted : (have : ℕ) → wrong_count g logs a have ≡ [] → have + length (list_at logs (arc g a).to) ≡ (arc g a).tokens + length (list_at logs (arc g a).from)
  unfolding wrong_count
  counted have none = agreed _ _ _ none

module _ (g : Parts) (logs places : Lists) (a : ℕ) where
  abbrev to_dates : ℕ
  to_dates = length (list_at logs (arc g a).to)

  pub wrong_marking-none : length (list_at places a) + to_dates ≡ (arc g a).tokens + length (list_at logs (arc g a).from) → wrong_marking g logs places a ≡ []
  unfolding wrong_marking wrong_count
  wrong_marking-none same = agrees _ _ _ same

  marked : wrong_marking g logs places a ≡ [] → length (list_at places a) + to_dates ≡ (arc g a).tokens + length (list_at logs (arc g a).from)
  unfolding wrong_marking wrong_count
  marked none = agreed _ _ _ none

  pub wrong_token-first : (k have need : ℕ) → have ≡ get_or (list_at places a) k 0 → need ≡ get_or (tokens_left g logs a) k 0 → have ≢ need → first (wrong_token g logs places a k) ≡ Some (PlaceDate a (k + 1) have need)
  unfolding wrong_token
  wrong_token-first k have need is needs other =
      differs (get_or (list_at places a) k 0) (get_or (tokens_left g logs a) k 0) _ (λ e. other (is ∙ e ∙ sym needs))
      ∙ ap (λ n. Some (PlaceDate a (k + 1) n (get_or (tokens_left g logs a) k 0))) (sym is)
      ∙ ap (λ n. Some (PlaceDate a (k + 1) have n)) (sym needs)

  pub wrong_token-none : (k : ℕ) → get_or (list_at places a) k 0 ≡ get_or (tokens_left g logs a) k 0 → wrong_token g logs places a k ≡ []
  unfolding wrong_token
  wrong_token-none k same = agrees _ _ _ same

  same_token : (k : ℕ) → wrong_token g logs places a k ≡ [] → get_or (list_at places a) k 0 ≡ get_or (tokens_left g logs a) k 0
  unfolding wrong_token
  same_token k none = agreed _ _ _ none

-- where no marking is wrong each place has the tokens that it needs
pub marked_from : (g : Parts) (logs places : Lists) → wrong_markings g logs places ≡ [] → (a : ℕ) → a < arc_count g → length (list_at places a) + length (list_at logs (arc g a).to) ≡ (arc g a).tokens + length (list_at logs (arc g a).from)
marked_from g logs places none a there =
    marked g logs places a (none_each (arc_count g) (wrong_marking g logs places) none a there)

pub wrong_date-first : (g : Parts) (logs : Lists) (t k have need : ℕ) → have ≡ get_or (list_at logs t) k 0 → need ≡ due_date g logs t (k + 1) → have ≢ need → first (wrong_date g logs t k) ≡ Some (Date t (k + 1) have need)
unfolding wrong_date
wrong_date-first g logs t k have need is needs other =
    differs (get_or (list_at logs t) k 0) (due_date g logs t (k + 1)) _ (λ e. other (is ∙ e ∙ sym needs))
    ∙ ap (λ n. Some (Date t (k + 1) n (due_date g logs t (k + 1)))) (sym is)
    ∙ ap (λ n. Some (Date t (k + 1) have n)) (sym needs)

pub wrong_date-none : (g : Parts) (logs : Lists) (t k : ℕ) → get_or (list_at logs t) k 0 ≡ due_date g logs t (k + 1) → wrong_date g logs t k ≡ []
unfolding wrong_date
wrong_date-none g logs t k same = agrees _ _ _ same

is_due : (g : Parts) (logs : Lists) (t k : ℕ) → wrong_date g logs t k ≡ [] → get_or (list_at logs t) k 0 ≡ due_date g logs t (k + 1)
unfolding wrong_date
is_due g logs t k none = agreed _ _ _ none

-- the token that a job takes from an arc, counted over those that are left
pub token-left : (g : Parts) (logs : Lists) (a taken k : ℕ) → taken ≡ length (list_at logs (arc g a).to) → taken + k < (arc g a).tokens + length (list_at logs (arc g a).from) → token_date g (date_in logs) a (taken + k + 1) ≡ get_or (tokens_left g logs a) k 0
token-left g logs a taken k takes low =
    let s : State = record { logs = logs; places = [] } in
    token_date-next g s a (taken + k) (omega (arith, low, length-all_tokens g s a))
    ∙ ap (λ n. get_or (all_tokens g logs a) (n + k) 0) takes
    ∙ sym (get_or-drop (length (list_at logs (arc g a).to)) (all_tokens g logs a) k 0)

-- ---- all of them

module _ (g : Parts) (logs places : Lists) (a_log_each : length logs ≡ stations g) (a_place_each : length places ≡ arc_count g) where
  abbrev given : State
  given = record { logs = logs; places = places }

  pub nothing_wrong : IsConsistent g given → state_refusals g logs places ≡ []
  unfolding state_refusals wrong_dates_at wrong_tokens_on
  nothing_wrong c =
      none-append (long_logs g logs) _ (each_none (stations g) (long_log g logs) (λ t there. long_log-none g logs t (c.few_dates t there))) (
      none-append (wrong_markings g logs places) _ (each_none (arc_count g) (wrong_marking g logs places) (λ a there.
      wrong_marking-none g logs places a (
      omega (arith, ap length (c.places_are_left a there), length-drop (length (list_at logs (arc g a).to)) (all_tokens g logs a), length-all_tokens g given a, c.tokens_suffice a there)))) (
      none-append (wrong_dates g logs) _ (each_none (stations g) (wrong_dates_at g logs) (λ t there.
      each_none (length (list_at logs t)) (wrong_date g logs t) (λ k low. wrong_date-none g logs t k (c.dates_are_due t k there low)))) (
      each_none (arc_count g) (wrong_tokens_on g logs places) (λ a there.
      each_none (length (list_at places a)) (wrong_token g logs places a) (λ k low. wrong_token-none g logs places a k (ap (λ l. get_or l k 0) (c.places_are_left a there)))))))

  module _ (none : state_refusals g logs places ≡ []) where
    few_none : long_logs g logs ≡ []
    unfolding state_refusals
    few_none = append-none_left (long_logs g logs) _ none

    rest_none : wrong_markings g logs places ++ (wrong_dates g logs ++ wrong_tokens g logs places) ≡ []
    unfolding state_refusals
    rest_none = append-none_right (long_logs g logs) _ none

    later_none : wrong_dates g logs ++ wrong_tokens g logs places ≡ []
    later_none = append-none_right (wrong_markings g logs places) _ rest_none

    marks : (a : ℕ) → a < arc_count g → length (list_at places a) + length (list_at logs (arc g a).to) ≡ (arc g a).tokens + length (list_at logs (arc g a).from)
    marks = marked_from g logs places (append-none_left (wrong_markings g logs places) _ rest_none)

    due : (t k : ℕ) → t < stations g → k < length (list_at logs t) → get_or (list_at logs t) k 0 ≡ due_date g logs t (k + 1)
    unfolding wrong_dates_at
    due t k there low =
        is_due g logs t k (
        none_each (length (list_at logs t)) (wrong_date g logs t) (none_each (stations g) (wrong_dates_at g logs) (append-none_left (wrong_dates g logs) _ later_none) t there) k low)

    left : (a : ℕ) → a < arc_count g → list_at places a ≡ tokens_left g logs a
    unfolding wrong_tokens_on
    left a there =
        ext_get_or
        0
        (list_at places a)
        (tokens_left g logs a)
        (omega (arith, marks a there, length-drop (length (list_at logs (arc g a).to)) (all_tokens g logs a), length-all_tokens g given a))
        (λ k low.
        same_token g logs places a k (
        none_each (length (list_at places a)) (wrong_token g logs places a) (none_each (arc_count g) (wrong_tokens_on g logs places) (append-none_right (wrong_dates g logs) _ later_none) a there) k low))

    pub given_is_consistent : IsConsistent g given
    given_is_consistent = record {
      a_log_each = a_log_each;
      a_place_each = a_place_each;
      few_dates = few_from g logs few_none;
      tokens_suffice = λ a there. omega (arith, marks a there, length-all_tokens g given a);
      dates_are_due = due;
      places_are_left = left;
    }

many_dates : (logs : RoomyLogs) → length (dates_of logs) ≡ length logs.logs
many_dates logs = length-map logs.logs (λ (l : RoomyLog). l.dates)

-- ---- parts of a live graph

module _ (l : LiveGraph) (ranked : IsRanked l) (logs places : RoomyLogs) (parts : AreParts l.graph logs places) where
  a_log : length (dates_of logs) ≡ stations l.graph
  a_log = many_dates logs ∙ parts.a_log_each

  a_place : length (dates_of places) ≡ arc_count l.graph
  a_place = many_dates places ∙ parts.a_place_each

  consistent : state_refusals l.graph (dates_of logs) (dates_of places) ≡ [] → IsConsistent l.graph (run_with l.graph (dates_of logs) (dates_of places)).state
  consistent none = given_is_consistent l.graph (dates_of logs) (dates_of places) a_log a_place none

  pub reached : state_refusals l.graph (dates_of logs) (dates_of places) ≡ [] → Reached l.graph (run_with l.graph (dates_of logs) (dates_of places)).state
  reached none =
      consistent_is_reached l.graph l.ranks ranked.limits.some_station ranked.sound ranked.upward.upward _ (consistent none)

  pub run-with : state_refusals l.graph (dates_of logs) (dates_of places) ≡ [] → run_with l.graph (dates_of logs) (dates_of places) ≡ run_of l.graph logs
  run-with none =
      ap (λ s. record { graph = l.graph; state = s }) (state_of-logs l.graph _ (consistent none))

  pub all_few : state_refusals l.graph (dates_of logs) (dates_of places) ≡ [] → All (λ dates. length dates ≤ jobs l.graph) (dates_of logs)
  all_few none =
      All-from_get_or (λ dates. length dates ≤ jobs l.graph) (dates_of logs) [] (λ t low. (consistent none).few_dates t (omega (arith, low, a_log)))

  pub reached_logs : state_refusals l.graph (dates_of logs) (dates_of places) ≡ [] → Reached l.graph (state_of l.graph (dates_of logs))
  reached_logs none = subst (λ (r : Run). Reached l.graph r.state) (run-with none) (reached none)

  pub reached_exactly : IsReachedExactly l.graph (dates_of logs) (dates_of places)
  reached_exactly = (
    λ none. reached (first-none _ none),
    λ leads. ap first (nothing_wrong l.graph (dates_of logs) (dates_of places) a_log a_place (reached_is_consistent l.graph _ leads)),
  )
