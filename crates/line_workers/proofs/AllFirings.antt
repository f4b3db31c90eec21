-- How many firings there are in all: a state has made them where each station is done, and nowhere else. And what a new
-- line has made.
use Rattle.std.proofs.Common.{◌≡◌, ℕ, zero, suc, ◌*◌, ◌<◌, ◌≤◌, List, [], ◌∷◌, Option, length, get_or, refl, sym, subst, ap, ◌∙◌, arith}
use Rattle.std.specs.List.{All, sum, sum_by}
use Rattle.std.proofs.Math.Nat.{suc-mul}
use Rattle.std.proofs.lemmas.List.Elements.{All-from_get_or}
use Rattle.std.proofs.lemmas.List.Sums.{sum_by-le, sum_by-cons}
use Rattle.line_base.specs.declared.event.Parts.{Parts}
use Rattle.event_graph.specs.Network.{stations, jobs}
use Rattle.event_graph.specs.State.{State}
use Rattle.live_check.specs.Order.{LiveGraph}
use Rattle.line_core.specs.Consistent.{IsConsistent, IsFinished, firing_count}
use Rattle.line_worker.specs.Worker.{LineWorker}
use Rattle.line_worker.specs.Workers.{graph_of}
use Rattle.line_workers.specs.Counts.{AreCounts}
use Rattle.line_workers.specs.Line.{StandsIn}
use Rattle.line_workers.specs.OfWorkers.{line_of}

-- where no list has more than n members, and all together have as many as that allows, each has n
all_full : (n : ℕ) (xs : List (List ℕ)) → All (λ x. length x ≤ n) xs → length xs * n ≤ sum_by length xs → (t : ℕ) → t < length xs → length (get_or xs t []) ≡ n
all_full n [] short enough t there = absurd (omega arith)
all_full n (x ∷ xs) short enough t there =
    let head : length x ≤ n = short 0 [] (omega arith) in
    let tail : All (λ (y : List ℕ). length y ≤ n) xs = λ k d low. short (suc k) d (omega arith) in
    let rest = sum_by-le length n xs tail in
    let all = sum_by-cons length x xs in
    let many = suc-mul (length xs) n in
    elim t as (λ i. i < suc (length xs) → length (get_or (x ∷ xs) i []) ≡ n) [
      | zero ↦ λ low. omega arith
      | suc i ↦ λ low. all_full n xs tail (omega arith) i (omega arith)
    ] there

-- where each list has n members, they have as many together as that says
sum_full : (n : ℕ) (xs : List (List ℕ)) → ((t : ℕ) → t < length xs → length (get_or xs t []) ≡ n) → sum_by length xs ≡ length xs * n
sum_full n [] each = omega arith
sum_full n (x ∷ xs) each =
    let head : length x ≡ n = each 0 (omega arith) in
    let rest = sum_full n xs (λ t low. each (suc t) (omega arith)) in
    omega (arith, sum_by-cons length x xs, suc-mul (length xs) n, head, rest)

-- a consistent state that has made all firings is finished
pub all_is_finished : (g : Parts) (s : State) → IsConsistent g s → stations g * jobs g ≤ firing_count s → IsFinished g s
all_is_finished g s c enough t there =
    let short : All (λ (dates : List ℕ). length dates ≤ jobs g) s.logs =
    All-from_get_or (λ dates. length dates ≤ jobs g) s.logs [] (λ u low. c.few_dates u (omega (arith, c.a_log_each, low))) in
    all_full (jobs g) s.logs short (subst (λ n. n * jobs g ≤ firing_count s) (sym c.a_log_each) enough) t (omega (arith, there, c.a_log_each))

-- and a finished one has made them all
pub finished_is_all : (g : Parts) (s : State) → IsConsistent g s → IsFinished g s → firing_count s ≡ stations g * jobs g
finished_is_all g s c finished =
    sum_full (jobs g) s.logs (λ t there. finished t (omega (arith, there, c.a_log_each))) ∙ ap (λ n. n * jobs g) c.a_log_each

-- ---- a new line

sum_none : (xs : List ℕ) → All (λ x. x ≡ 0) xs → sum xs ≡ 0
sum_none [] none = refl
sum_none (x ∷ xs) none =
    omega (arith, sum_by-cons (λ (n : ℕ). n) x xs, none 0 0 (omega arith), sum_none xs (λ k d low. none (suc k) d (omega arith)))

module _ (room : Option ℕ) (live : LiveGraph) (state : State) (worker_count : ℕ) (workers : List LineWorker) (made : ℕ) (stands : StandsIn room live state worker_count (line_of workers made)) where
  pub new_counts : AreCounts (record { fired = made; steps = 0 }) workers
  new_counts = record {
    fired = stands.made_is ∙ ap firing_count (sym stands.state_is);
    steps = sym (sum_none (line_of workers made).turns stands.no_turns);
  }

  pub new_all : (all : ℕ) → all ≡ stations live.graph * jobs live.graph → all ≡ stations (graph_of workers) * jobs (graph_of workers)
  new_all all is = is ∙ ap (λ (v : LiveGraph). stations v.graph * jobs v.graph) (sym stands.live_is)

  pub new_station_count : (count : ℕ) → count ≡ stations live.graph → count ≡ stations (graph_of workers)
  new_station_count count is = is ∙ ap (λ (v : LiveGraph). stations v.graph) (sym stands.live_is)
