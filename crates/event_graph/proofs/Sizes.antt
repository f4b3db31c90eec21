-- The numbers of a graph within the limits.
use Rattle.std.proofs.Common.{ℕ, ◌-◌, ◌≤◌, length, get_or, List, false, sym, subst, arith, ⊎_elim}
use Rattle.std.specs.List.{All}
use Rattle.std.proofs.lemmas.Bool.{cases_lt, cond_both}
use Rattle.std.proofs.lemmas.List.{get_or_past}
use Rattle.line_base.specs.declared.limits.TheConstants.{MAX_TIME, MAX_CARDS, MAX_DEMAND_DATE}
use Rattle.line_base.specs.declared.event.Arc.{Arc}
use Rattle.line_base.specs.declared.event.Parts.{Parts}
use Rattle.line_base.specs.declared.times.Times.{Times}
use Rattle.line_base.specs.declared.times.Times.TheVariants.{Fixed, Each}
use Rattle.line_base.specs.Times.{time_at}
use Rattle.event_graph.specs.Network.{jobs, arc, time, demand, delay}
use Rattle.event_graph.specs.Limits.{AreTimesFor, IsWithinLimits}
use Rattle.event_graph.specs.Term.{work}

All-at : (P : ℕ → Type 0) (xs : List ℕ) (k : ℕ) → All P xs → P 0 → P (get_or xs k 0)
All-at P xs k all none =
    ⊎_elim (λ low. all k 0 low) (λ past. subst P (sym (get_or_past xs k 0 past)) none) (cases_lt k (length xs))

pub demand-small : (g : Parts) (n : ℕ) → IsWithinLimits g → demand g n ≤ MAX_DEMAND_DATE
unfolding demand
demand-small g n limits = All-at (λ date. date ≤ MAX_DEMAND_DATE) g.dates (n - 1) limits.demands_small (omega arith)

pub delay-small : (g : Parts) (a : ℕ) → IsWithinLimits g → delay g a ≤ MAX_TIME
unfolding delay
delay-small g a limits = All-at (λ time. time ≤ MAX_TIME) g.delays a limits.delays_small (omega arith)

time_at-small : (jobs n : ℕ) (times : Times) → AreTimesFor jobs times → time_at times n ≤ MAX_TIME
time_at-small jobs n (Fixed time) small = small
time_at-small jobs n (Each times) small = All-at (λ time. time ≤ MAX_TIME) times (n - 1) small.1 (omega arith)

pub time-small : (g : Parts) (t n : ℕ) → IsWithinLimits g → time g t n ≤ MAX_TIME
unfolding time
time-small g t n limits =
    ⊎_elim
    (λ there. time_at-small (jobs g) n (get_or g.times t (Fixed 0)) (limits.times_small t (Fixed 0) there))
    (λ past. subst (λ (times : Times). time_at times n ≤ MAX_TIME) (sym (get_or_past g.times t (Fixed 0) past)) (omega arith))
    (cases_lt t (length g.times))

pub work-small : (g : Parts) (a n : ℕ) → IsWithinLimits g → work g a n ≤ MAX_TIME
unfolding work
work-small g a n limits =
    cond_both
    (arc g a).worked
    (time g (arc g a).to n)
    0
    (λ most. most ≤ MAX_TIME)
    (λ yes. time-small g (arc g a).to n limits)
    (λ no. omega arith)

pub tokens-small : (g : Parts) (a : ℕ) → IsWithinLimits g → (arc g a).tokens ≤ MAX_CARDS
tokens-small g a limits =
    ⊎_elim
    (λ there. limits.few_tokens a (record { from = 0; to = 0; tokens = 0; worked = false }) there)
    (λ past. subst (λ (b : Arc). b.tokens ≤ MAX_CARDS) (sym (get_or_past g.arcs a (record { from = 0; to = 0; tokens = 0; worked = false }) past)) (omega arith))
    (cases_lt a (length g.arcs))
