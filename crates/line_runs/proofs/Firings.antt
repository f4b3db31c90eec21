-- How many firings a line makes, and how many are left.
use Rattle.std.proofs.Common.{◌≡◌, ℕ, ◌-◌, ◌<◌, ◌≤◌, ap, arith, ⊎_elim}
use Rattle.std.proofs.lemmas.Bool.{cases_lt}
use Rattle.line_base.specs.declared.event.Parts.{Parts}
use Rattle.event_graph.specs.State.{State}
use Rattle.line_core.specs.Consistent.{IsConsistent, IsFinished, firing_count}
use Rattle.line_core.proofs.Bounds.{fired-le}
use Rattle.line_core.proofs.Consistency.{reached_is_consistent}
use Rattle.line_workers.specs.Line.{WorkLine, IsLine}
use Rattle.line_workers.proofs.AllFirings.{all_is_finished, finished_is_all}
use Rattle.line_runs.specs.Bursts.{IsBurst, IsDone}
use Rattle.line_runs.specs.AllFirings.{all_firings}

-- a consistent state that is not finished has firings left
unfinished_is_below : (g : Parts) (s : State) → IsConsistent g s → ¬ IsFinished g s → firing_count s < all_firings g
unfinished_is_below g s c unfinished =
    ⊎_elim
    (λ low. low)
    (λ high. absurd (unfinished (all_is_finished g s c high)))
    (cases_lt (firing_count s) (all_firings g))

-- ---- the same of lines

line_is_consistent : (l : WorkLine) → IsLine l → IsConsistent l.live.graph l.state
line_is_consistent l is = reached_is_consistent l.live.graph l.state is.reached.reached

pub undone_is_below : (l : WorkLine) → IsLine l → ¬ IsDone l → firing_count l.state < all_firings l.live.graph
undone_is_below l is undone = unfinished_is_below l.live.graph l.state (line_is_consistent l is) undone

pub done_is_all : (l : WorkLine) → IsLine l → IsDone l → firing_count l.state ≡ all_firings l.live.graph
done_is_all l is done = finished_is_all l.live.graph l.state (line_is_consistent l is) done

pub line_is_within : (l : WorkLine) → IsLine l → firing_count l.state ≤ all_firings l.live.graph
line_is_within l is = fired-le l.live.graph l.state (line_is_consistent l is)

-- how many firings are left of a line
abbrev pub left_of : WorkLine → ℕ
left_of l = all_firings l.live.graph - firing_count l.state

-- a burst leaves fewer
pub burst_leaves_less : (old new : WorkLine) → IsBurst old new → left_of new < left_of old
burst_leaves_less old new burst =
    let same : all_firings new.live.graph ≡ all_firings old.live.graph = ap (λ (l : WorkLine). all_firings l.live.graph) burst.frame in
    omega (arith, line_is_within new burst.line, burst.some, same)
