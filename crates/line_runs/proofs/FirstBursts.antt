-- Bursts before each of which fewer than n firings were made, and what they leave.
use Rattle.std.proofs.Common.{◌≡◌, ℕ, suc, ◌+◌, ◌*◌, ◌<◌, ◌≤◌, min, ap, ◌∙◌, arith, refl, ◌⊎◌, inl, inr, ⊎_elim}
use Rattle.std.specs.List.{sum}
use Rattle.event_graph.specs.Network.{stations, jobs}
use Rattle.live_check.specs.Order.{LiveGraph}
use Rattle.line_core.specs.Consistent.{firing_count}
use Rattle.line_core.specs.Round.{HasFired}
use Rattle.line_core.specs.Run.{Dates}
use Rattle.line_worker.specs.Sweeps.{most_sweeps}
use Rattle.line_workers.specs.Line.{WorkLine, IsLine, run_in}
use Rattle.line_runs.specs.Bursts.{IsBurst, IsDone, HasMade, BurstsBelow, none, more}
use Rattle.line_runs.specs.AllFirings.{all_firings}
use Rattle.line_runs.specs.Stop.{FinishesBefore, IsShort, IsStopAt}
use Rattle.line_runs.proofs.Firings.{undone_is_below, done_is_all, line_is_within}

pub burst_live : (old new : WorkLine) → IsBurst old new → new.live ≡ old.live
burst_live old new burst = ap (λ (l : WorkLine). l.live) burst.frame

-- some bursts have led from the first line to this one
pub record HaveLed (n : ℕ) (first last : WorkLine) : Type 0 where
  pub count : ℕ
  pub bursts : BurstsBelow n first count last

pub led_more : (n : ℕ) (first l last : WorkLine) → HaveLed n first l → firing_count l.state < n → IsBurst l last → HaveLed n first last
led_more n first l last led below burst = record { count = suc led.count; bursts = more led.count l last led.bursts below burst }

-- the graph stays
pub bursts_live : (n : ℕ) (first : WorkLine) (count : ℕ) (last : WorkLine) → BurstsBelow n first count last → last.live ≡ first.live
bursts_live n first count last none = refl
bursts_live n first count last (more before l new bursts below burst) = burst_live l new burst ∙ bursts_live n first before l bursts

-- each makes a firing
bursts_grow : (n : ℕ) (first : WorkLine) (count : ℕ) (last : WorkLine) → BurstsBelow n first count last → count + firing_count first.state ≤ firing_count last.state
bursts_grow n first count last none = omega arith
bursts_grow n first count last (more before l new bursts below burst) = omega (arith, bursts_grow n first before l bursts, burst.some)

-- a line of one worker stays one, and its stations fire as often as each other
bursts_alone : (n : ℕ) (first : WorkLine) (count : ℕ) (last : WorkLine) (times : ℕ) → BurstsBelow n first count last → first.worker_count ≡ 1 → HasFired (run_in first) times → (last.worker_count ≡ 1) × ((k : ℕ) × HasFired (run_in last) k)
bursts_alone n first count last times none one has = (one, (times, has))
bursts_alone n first count last times (more before l new bursts below burst) one has =
    let alone = bursts_alone n first before l times bursts one has in (
      ap (λ (v : WorkLine). v.worker_count) burst.frame ∙ alone.0,
      (min (alone.1.0 + most_sweeps) (jobs l.live.graph), burst.alone alone.1.0 alone.0 alone.1.1),
    )

-- and each step is a firing
bursts_steps : (n : ℕ) (first : WorkLine) (count : ℕ) (last : WorkLine) (times : ℕ) → BurstsBelow n first count last → first.worker_count ≡ 1 → HasFired (run_in first) times → sum last.turns + firing_count first.state ≡ sum first.turns + firing_count last.state
bursts_steps n first count last times none one has = refl
bursts_steps n first count last times (more before l new bursts below burst) one has =
    let alone = bursts_alone n first before l times bursts one has in
    omega (arith, bursts_steps n first before l times bursts one has, burst.alone_steps alone.1.0 alone.0 alone.1.1)

-- what bursts have made
pub bursts_made : (n : ℕ) (first : WorkLine) (count : ℕ) (last : WorkLine) → BurstsBelow n first count last → IsLine last → HasMade first last count
bursts_made n first count last bursts is =
    let same : all_firings last.live.graph ≡ all_firings first.live.graph = ap (λ (v : LiveGraph). all_firings v.graph) (bursts_live n first count last bursts) in
    record {
      firings = bursts_grow n first count last bursts;
      at_most = omega (arith, bursts_grow n first count last bursts, line_is_within last is, same);
      steps = λ times one has. bursts_steps n first count last times bursts one has;
    }

-- and where all firings are made, how many these are
pub bursts_all : (n : ℕ) (first : WorkLine) (count : ℕ) (last : WorkLine) → BurstsBelow n first count last → IsLine last → IsDone last → firing_count last.state ≡ all_firings first.live.graph
bursts_all n first count last bursts is done =
    done_is_all last is done ∙ ap (λ (v : LiveGraph). all_firings v.graph) (bursts_live n first count last bursts)

-- there was no burst, or the last one began where fewer than n firings were made
record IsSoon (n : ℕ) (first last : WorkLine) : Type 0 where
  below : firing_count first.state < n
  few : firing_count last.state < n + most_sweeps * stations first.live.graph

bursts_soon : (n : ℕ) (first : WorkLine) (count : ℕ) (last : WorkLine) → BurstsBelow n first count last → (last ≡ first) ⊎ IsSoon n first last
bursts_soon n first count last none = inl refl
bursts_soon n first count last (more before l new bursts below burst) =
    let same : stations l.live.graph ≡ stations first.live.graph = ap (λ (v : LiveGraph). stations v.graph) (bursts_live n first before l bursts) in
    inr (record {
      below = omega (arith, bursts_grow n first before l bursts, below);
      few = omega (arith, burst.few, below, same);
    })

-- how many firings a run made that was stopped
pub stop_counts : (n : ℕ) (first : WorkLine) (count : ℕ) (last : WorkLine) → BurstsBelow n first count last → IsLine last → n ≤ firing_count last.state → ¬ IsDone last → IsStopAt first.live.graph n (firing_count first.state) (firing_count last.state)
stop_counts n first count last bursts is enough undone =
    let same : all_firings last.live.graph ≡ all_firings first.live.graph = ap (λ (v : LiveGraph). all_firings v.graph) (bursts_live n first count last bursts) in
    record {
      enough = enough;
      not_all = omega (arith, undone_is_below last is undone, same);
      soon = ⊎_elim (λ none. inl (ap (λ (l : WorkLine). firing_count l.state) none)) (λ soon. inr soon.few) (bursts_soon n first count last bursts);
      at_once = λ early.
          ⊎_elim (λ none. ap (λ (l : WorkLine). firing_count l.state) none) (λ soon. absurd (omega (arith, soon.below, early))) (bursts_soon n first count last bursts);
    }

-- and one that made all firings
pub finish_counts : (n : ℕ) (first : WorkLine) (count : ℕ) (last : WorkLine) → BurstsBelow n first count last → IsLine last → IsDone last → firing_count first.state < all_firings first.live.graph → IsShort first.live.graph n (firing_count first.state)
finish_counts n first count last bursts is done left =
    let all : firing_count last.state ≡ all_firings first.live.graph = bursts_all n first count last bursts is done in
    ⊎_elim
    (λ none. absurd (omega (arith, left, all, ap (λ (l : WorkLine). firing_count l.state) none)))
    (λ soon. record { begun_below = soon.below; few = omega (arith, soon.few, all) })
    (bursts_soon n first count last bursts)

pub finishes : (n : ℕ) (first last : WorkLine) → HaveLed n first last → IsLine last → IsDone last → (d : Dates) → d.rows ≡ last.state.logs → FinishesBefore n first d
finishes n first last led is done d dates = record {
  last = last;
  count = led.count;
  bursts = led.bursts;
  counts = bursts_made n first led.count last led.bursts is;
  done = done;
  all = bursts_all n first led.count last led.bursts is done;
  dates = dates;
}
