-- A state that firings reach may be resumed.
use Rattle.std.proofs.Common.{◌<◌, Ok, Err, refl}
use Rattle.line_base.specs.declared.event.Parts.{Parts}
use Rattle.event_graph.specs.State.{State}
use Rattle.event_graph.specs.Reached.{Reached}
use Rattle.line_core.specs.Consistent.{firing_count}
use Rattle.line_core.specs.Run.{Run, IsReached}
use Rattle.checkpoint.specs.declared.format.Format.TheVariants.{Differences}
use Rattle.checkpoint.specs.Text.{text}
use Rattle.line_runs.specs.Resume.{IsCheckpoint}
use Rattle.line_runs.specs.AllFirings.{all_firings}
use Rattle.line_runs.specs.Headline.{ResumesToLeast, MayBeResumed}

-- the text of a reached state is a checkpoint
pub text_is_checkpoint : (g : Parts) (s : State) → Reached g s → IsCheckpoint g (text Differences g s)
text_is_checkpoint g s reached = record {
  state = s;
  reached = reached;
  text = record { format = Differences; read = tt; is = refl };
}

resumes_to_least : (g : Parts) (s : State) → Reached g s → ResumesToLeast g s
resumes_to_least g s reached (Ok d) resumes = resumes.least
resumes_to_least g s reached (Err error) resumes = resumes.found (text_is_checkpoint g s reached)

pub may_be_resumed : (r : Run) → IsReached r → firing_count r.state < all_firings r.graph → MayBeResumed r.graph r.state
may_be_resumed r is left = record {
  not_all = left;
  reached = is.reached;
  circuits = is.circuits;
  resumes = resumes_to_least r.graph r.state is.reached;
}
