-- The second half of the headline. For every plant file, number of workers and interleaving of their steps, a run that
-- is asked to stop and ends with status 0 has written the report too, or, if it was stopped before all firings were
-- made, has saved a state that firings reach, in which every circuit holds its initial number of tokens, and resuming
-- it writes that same report.
use Rattle.std.specs.Prelude.{◌≡◌, ◌⊎◌, ℕ, ◌<◌, ◌≤◌, List, [], ◌∷◌, ◌++◌, length, codes, decimal, IsTrue, Some, Ok}
use Rattle.checkpoint.specs.Text.{text, IsTextOf}
use Rattle.checkpoint.specs.declared.format.Format.TheVariants.{Differences}
use Rattle.command_line.specs.Sources.{plant_at}
use Rattle.command_line.specs.Words.{command_of, resuming}
use Rattle.command_line.specs.declared.command.Command.TheVariants.{Stopping}
use Rattle.command_line.specs.declared.command.Stop.{Stop}
use Rattle.event_graph.specs.Circuit.{IsCircuit, tokens_on}
use Rattle.event_graph.specs.Reached.{Reached}
use Rattle.event_graph.specs.State.{State, tokens_in}
use Rattle.line_base.specs.Limits.{most_checkpoint_bytes}
use Rattle.line_core.specs.Consistent.{firing_count}
use Rattle.line_runs.specs.AllFirings.{all_firings}
use Rattle.outside_io.specs.Calls.{write_of}
use Rattle.outside_io.specs.Faults.{Rose}
use Rattle.outside_io.specs.SinkView.{PutsAll}
use Rattle.live_plant.specs.Outside.{StoreOver, SinkOver}
use Rattle.plant_model.specs.Graph.{graph}
use Rattle.plant_model.specs.declared.plant.Plant.{Plant}
use Rattle.pull_cli.specs.RunReports.{IsPlantRead, HasReported}

-- "stopped before all firings were made", but not before N were; "a state that firings reach, in which every circuit
-- holds its initial number of tokens"
pub record IsStopped (p : Plant) (n : ℕ) (s : State) : Type 0 where
  pub enough : n ≤ firing_count s
  pub not_all : firing_count s < all_firings (graph p)
  pub reached : Reached (graph p) s
  pub circuits : (arcs : List ℕ) → IsCircuit (graph p) arcs → tokens_in s arcs ≡ tokens_on (graph p) arcs

-- the bytes in which a state of a plant is saved
abbrev pub saved_text : Plant → State → List ℕ
saved_text p s = text Differences (graph p) s

-- the line of a run that stopped after this many firings
abbrev pub stopped_line : ℕ → List ℕ
stopped_line fired = (codes "stopped " ++ decimal fired) ++ codes "\n"

-- "has saved": the one write of this call was done, of the state's bytes into FILE, which are no more than a checkpoint
-- may have; where files are known FILE has them; and the line was written
pub record HasSaved (p : Plant) (stop : Stop) (store : StoreOver) (sink : SinkOver) : Type 0 where
  pub state : State
  pub stopped : IsStopped p stop.after state
  pub fits : length (saved_text p state) ≤ most_checkpoint_bytes
  pub asked : store.new.asked.writes ≡ store.old.asked.writes ++ write_of stop.save (saved_text p state) (Ok tt) ∷ []
  pub saved : IsTrue store.tells → store.new.files stop.save ≡ Some (saved_text p state)
  pub written : PutsAll sink.old sink.new (stopped_line (firing_count state))

-- the one or the other
pub record ReportsOrSaves (name : List ℕ) (stop : Stop) (store : StoreOver) (sink : SinkOver) : Type 0 where
  pub plant : Plant
  pub read : IsPlantRead plant name store
  pub done : HasReported plant sink ⊎ HasSaved plant stop store sink

-- "resuming it": the words ask to resume from a file; the call has read this plant, and of that file a text of the state
pub record Resumes (p : Plant) (s : State) (words : List (List ℕ)) (store : StoreOver) : Type 0 where
  pub name : List ℕ
  pub file : List ℕ
  pub workers : ℕ
  pub asked : command_of words ≡ Some (resuming name file workers)
  pub read : IsPlantRead p name store
  pub bytes : List ℕ
  pub text : IsTextOf (graph p) s bytes
  pub found : read.more ≡ record { name = file; answer = Ok bytes } ∷ []

-- "writes that same report", with status 0; or the sink failed, or memory ran out
pub data WritesReport (p : Plant) (sink : SinkOver) (status : ℕ) : Type 0 where
  reported : status ≡ 0 → HasReported p sink → WritesReport p sink status
  unwritten : status ≡ 6 → Rose sink.old.faults sink.new.faults → WritesReport p sink status
  no_memory : status ≡ 9 → WritesReport p sink status

-- "a run that is asked to stop and ends with status 0"; and a call that resumes a state that firings reach
pub record StopsAndResumes (words : List (List ℕ)) (store : StoreOver) (sink : SinkOver) (status : ℕ) : Type 0 where
  pub stops : (name : List ℕ) (workers : ℕ) (stop : Stop) →
      command_of words ≡ Some (Stopping (plant_at name) workers stop) → status ≡ 0 → ReportsOrSaves name stop store sink
  pub resumes : (p : Plant) (s : State) → Reached (graph p) s → Resumes p s words store → WritesReport p sink status
