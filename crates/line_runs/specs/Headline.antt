-- The theorem on runs, as far as it speaks of event graphs. For every live graph, number of workers
-- and interleaving of their steps: a run ends in the least solution of the graph's equations; or,
-- if it was asked to stop before all firings were made, it stands in a state that firings reach, in
-- which every circuit holds its initial number of tokens, and whoever resumes the text of that
-- state ends in the least solution. There is one least solution: `HasOneLeast` of `event_graph`.
use Rattle.std.specs.Prelude.{◌≡◌, ℕ, ◌<◌, List, Result, MatchResult}
use Rattle.line_base.specs.declared.event.Parts.{Parts}
use Rattle.event_graph.specs.State.{State, tokens_in}
use Rattle.event_graph.specs.Reached.{Reached}
use Rattle.event_graph.specs.Circuit.{IsCircuit, tokens_on}
use Rattle.line_core.specs.Consistent.{firing_count}
use Rattle.line_core.specs.Run.{Dates}
use Rattle.checkpoint.specs.declared.error.CheckpointError.{CheckpointError}
use Rattle.checkpoint.specs.declared.error.CheckpointError.TheVariants.{NoMemory}
use Rattle.checkpoint.specs.declared.format.Format.TheVariants.{Differences}
use Rattle.checkpoint.specs.Text.{text}
use Rattle.line_runs.specs.Table.{IsLeastOf}
use Rattle.line_runs.specs.Resume.{Resumes}
use Rattle.line_runs.specs.AllFirings.{all_firings}
use Rattle.line_runs.specs.declared.stop.Outcome.{Outcome}
use Rattle.line_runs.specs.declared.stop.Outcome.TheVariants.{Finished, Stopped}

-- whatever resuming the text of the state answers, it is the least solution, or memory ran out
abbrev pub ResumesToLeast : Parts → State → Type 0
ResumesToLeast g s =
    (answer : Result Dates CheckpointError) → Resumes g (text Differences g s) answer →
    MatchResult answer (IsLeastOf g) (λ error. error ≡ NoMemory)

-- a state in which a run may stop
pub record MayBeResumed (g : Parts) (s : State) : Type 0 where
  pub not_all : firing_count s < all_firings g
  pub reached : Reached g s
  pub circuits : (arcs : List ℕ) → IsCircuit g arcs → tokens_in s arcs ≡ tokens_on g arcs
  pub resumes : ResumesToLeast g s

-- how every run ends
abbrev pub EndsWell : Parts → Outcome → Type 0
EndsWell g (Finished d) = IsLeastOf g d
EndsWell g (Stopped r) = (r.graph ≡ g) × MayBeResumed g r.state
