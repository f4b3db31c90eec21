-- How a run ends that is to stop at n firings.
use Rattle.std.specs.Prelude.{ℕ}
use Rattle.commands.specs.FirstEnd.{IsFirstEnd, IsDoneFirst}
use Rattle.line_base.specs.declared.event.Parts.{Parts}
use Rattle.line_runs.specs.Headline.{EndsWell}
use Rattle.line_runs.specs.Stop.{CountsWell}
use Rattle.line_runs.specs.declared.stop.Outcome.{Outcome}
use Rattle.line_runs.specs.declared.stop.Outcome.TheVariants.{Finished, Stopped}

-- so ends a run that is to stop
abbrev pub EndsAtFirst : Parts → ℕ → ℕ → Outcome → Type 0
EndsAtFirst g n workers (Finished d) = IsDoneFirst g n workers
EndsAtFirst g n workers (Stopped r) = IsFirstEnd g n workers r.state

-- so ends a run from the start of the graph that is to stop: in the least solution or in a state from which it may be
-- resumed, with as many firings as it should have, and at the first burst's end with n
pub record EndsAsAsked (g : Parts) (n workers : ℕ) (outcome : Outcome) : Type 0 where
  pub well : EndsWell g outcome
  pub count : CountsWell g n 0 outcome
  pub first : EndsAtFirst g n workers outcome
