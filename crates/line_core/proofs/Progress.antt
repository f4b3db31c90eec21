-- A consistent state that isn't finished lets some station fire, so that a finished state is reached.
use Rattle.std.proofs.Common.{◌≡◌, ℕ, zero, suc, ◌+◌, ◌*◌, ◌<◌, ◌≤◌, ◌⊎◌, List, length, get_or, ap, ◌∙◌, subst, arith, ⊎_elim, inl, inr}
use Rattle.std.proofs.lemmas.Bool.{cases_lt, cases_eq}
use Rattle.std.proofs.lemmas.List.{length-drop}
use Rattle.line_base.specs.declared.event.Parts.{Parts}
use Rattle.event_graph.specs.Network.{stations, jobs, arc, arc_count, IsGraph}
use Rattle.event_graph.specs.State.{State, log, place, start}
use Rattle.event_graph.specs.Firing.{CanFire, after}
use Rattle.event_graph.specs.Reached.{Reached, begins, fires}
use Rattle.line_core.specs.Consistent.{all_tokens, IsConsistent, IsFinished, firing_count}
use Rattle.line_core.proofs.ArcTokens.{length-all_tokens}
use Rattle.line_core.proofs.Consistency.{exists, reached_is_consistent, after_is_consistent}
use Rattle.line_core.proofs.Bounds.{fired-after, fired-le}
use Rattle.line_core.proofs.Order.{GoesUp, first_station, no_more_dates, fewer_dates}

-- the first station in the order can fire where some station isn't done
pub some_can_fire : (g : Parts) (s : State) (places : List ℕ) → IsGraph g → GoesUp g places → IsConsistent g s → (u : ℕ) → u < stations g → length (log s u) < jobs g → (t : ℕ) × CanFire g s t
some_can_fire g s places graph up c u there undone =
    let first = first_station g s places (omega arith) in
    let t = first.0 in
    let has_token : (a : ℕ) → a < arc_count g → (arc g a).to ≡ t → 0 < length (place s a) =
    λ a known ends.
    let from = (arc g a).from in
    let order = first.2 from (graph.starts_exist a known) in
    let left = ap length (c.places_are_left a known) ∙ length-drop (length (log s (arc g a).to)) (all_tokens g s.logs a) in
    let many = length-all_tokens g s a in
    let here = ap (λ v. length (log s v)) ends in
    ⊎_elim
    (λ none.
    let above : get_or places from 0 < get_or places t 0 = subst (λ v. get_or places from 0 < get_or places v 0) ends (up a known none) in
    omega (arith, left, many, here, fewer_dates s places t from order above))
    (λ some. omega (arith, left, many, here, some, no_more_dates s places t from order))
    (cases_eq (arc g a).tokens 0) in
    (t, record { exists = first.1; more = omega (arith, no_more_dates s places t u (first.2 u there)); tokens = has_token })

-- some station isn't done, or each is
undone_or_finished : (g : Parts) (s : State) (n : ℕ) → ((u : ℕ) × (u < n) × (length (log s u) < jobs g)) ⊎ ((u : ℕ) → u < n → jobs g ≤ length (log s u))
undone_or_finished g s zero = inr (λ u low. absurd (omega arith))
undone_or_finished g s (suc n) =
    let Answer = ((u : ℕ) × (u < suc n) × (length (log s u) < jobs g)) ⊎ ((u : ℕ) → u < suc n → jobs g ≤ length (log s u)) in
    let here : length (log s n) < jobs g → Answer = λ undone. inl (n, omega arith, undone) in
    let below : jobs g ≤ length (log s n) → Answer =
    λ done.
    ⊎_elim
    (λ found. inl (found.0, omega (arith, found.1), found.2))
    (λ all. inr (λ u low.
    ⊎_elim
    (λ early. all u early)
    (λ last. omega (arith, done, ap (λ v. length (log s v)) (let same : u ≡ n = omega arith in same)))
    (cases_lt u n)))
    (undone_or_finished g s n) in
    ⊎_elim here below (cases_lt (length (log s n)) (jobs g))

-- from a reached state with this many firings left a finished one is reached
done_is_finished : (g : Parts) (s : State) → IsConsistent g s → ((u : ℕ) → u < stations g → jobs g ≤ length (log s u)) → IsFinished g s
done_is_finished g s c done t there = omega (arith, done t there, c.few_dates t there)

finish : (g : Parts) (places : List ℕ) → IsGraph g → GoesUp g places → (left : ℕ) (s : State) → Reached g s → stations g * jobs g ≤ firing_count s + left → (end : State) × Reached g end × IsFinished g end
finish g places graph up zero s reached enough =
    let c = reached_is_consistent g s reached in
    let Answer = (end : State) × Reached g end × IsFinished g end in
    let go_on : ((u : ℕ) × (u < stations g) × (length (log s u) < jobs g)) → Answer =
    λ undone.
    let next = some_can_fire g s places graph up c undone.0 undone.1 undone.2 in
    absurd (omega (arith, enough, fired-after g s next.0 (exists g s next.0 c next.1), fired-le g (after g s next.0) (after_is_consistent g s next.0 c next.1))) in
    ⊎_elim go_on (λ done. (s, reached, done_is_finished g s c done)) (undone_or_finished g s (stations g))
finish g places graph up (suc left) s reached enough =
    let c = reached_is_consistent g s reached in
    let Answer = (end : State) × Reached g end × IsFinished g end in
    let go_on : ((u : ℕ) × (u < stations g) × (length (log s u) < jobs g)) → Answer =
    λ undone.
    let next = some_can_fire g s places graph up c undone.0 undone.1 undone.2 in
    finish g places graph up left (after g s next.0) (fires s next.0 reached next.1) (omega (arith, enough, fired-after g s next.0 (exists g s next.0 c next.1))) in
    ⊎_elim go_on (λ done. (s, reached, done_is_finished g s c done)) (undone_or_finished g s (stations g))

pub some_is_finished : (g : Parts) (places : List ℕ) → IsGraph g → GoesUp g places → (end : State) × Reached g end × IsFinished g end
some_is_finished g places graph up = finish g places graph up (stations g * jobs g) (start g) begins (omega arith)
