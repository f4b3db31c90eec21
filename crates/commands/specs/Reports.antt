-- What a run of a plant answers: the report, over the least solution of the plant's graph; and what a run answers that
-- is resumed from a text.
use Rattle.std.specs.Prelude.{◌≡◌, ◌⊎◌, ℕ, List, Result, Ok, Err}
use Rattle.checkpoint.specs.Answers.{Tells}
use Rattle.checkpoint.specs.declared.error.CheckpointError.{CheckpointError}
use Rattle.answers.specs.Answer.{answer_bytes}
use Rattle.event_graph.specs.Least.{IsLeast}
use Rattle.event_graph.specs.Table.{date_in}
use Rattle.line_report.specs.ReportText.{report}
use Rattle.line_runs.specs.Resume.{IsCheckpoint}
use Rattle.plant_model.specs.declared.plant.Plant.{Plant}
use Rattle.plant_model.specs.Graph.{graph}
use Rattle.live_plant.specs.Checkpoints.{checkpoint_refusal}
use Rattle.live_plant.specs.declared.refusals.refusal.Refusal.{Refusal}
use Rattle.answers.specs.declared.answer.Answer.{Answer}
use Rattle.answers.specs.declared.answer.Answer.TheVariants.{Curved}

-- exactly this text is written, which is known before any of it is
abbrev pub Writes : List ℕ → Result Answer Refusal → Type 0
Writes text (Ok (Curved counts)) = ⊥
Writes text (Ok answer) = answer_bytes answer ≡ text
Writes text (Err refusal) = ⊥

-- exactly the text is written that this makes of the least solution of the plant's graph
pub record WritesOfLeast (p : Plant) (text : (ℕ → ℕ → ℕ) → List ℕ) (answer : Result Answer Refusal) : Type 0 where
  pub rows : List (List ℕ)
  pub least : IsLeast (graph p) (date_in rows)
  pub written : Writes (text (date_in rows)) answer

-- `run`: the report of the plant
abbrev pub IsReport : Plant → Result Answer Refusal → Type 0
IsReport p = WritesOfLeast p (report p)

-- the bytes are no checkpoint of the plant, and this is why
pub record IsNoCheckpoint (p : Plant) (bytes : List ℕ) (answer : Result Answer Refusal) : Type 0 where
  pub error : CheckpointError
  pub tells : Tells (graph p) bytes error
  pub none : ¬ IsCheckpoint (graph p) bytes
  pub says : answer ≡ Err (checkpoint_refusal (graph p) error)

-- `resume`: the report exactly where the bytes are the text of a state that firings reach, and else why they are none
abbrev pub IsResumed : Plant → List ℕ → Result Answer Refusal → Type 0
IsResumed p bytes answer = (IsCheckpoint (graph p) bytes × IsReport p answer) ⊎ IsNoCheckpoint p bytes answer
