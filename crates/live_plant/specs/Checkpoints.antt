-- The refusal of a checkpoint that is the text of no state that firings reach, with its line. Stations go by their
-- labels and arcs by their numbers.
use Rattle.std.specs.Prelude.{ℕ, ◌<◌, List, ◌++◌, codes, decimal, ⊤}
use Rattle.std.specs.Fmt.{signed_decimal}
use Rattle.line_base.specs.declared.event.Parts.{Parts}
use Rattle.event_graph.specs.Network.{stations, label}
use Rattle.checkpoint.specs.declared.error.CheckpointError.{CheckpointError}
use Rattle.checkpoint.specs.declared.error.CheckpointError.TheVariants as error
use Rattle.live_plant.specs.declared.refusals.refusal.Refusal.{Refusal}
use Rattle.live_plant.specs.declared.refusals.refusal.Refusal.TheVariants.{NotReached, NoMemory}

-- the date that stands there, and the one that is needed
abbrev pub has_date : ℕ → ℕ → List ℕ
has_date have need = codes " has date " ++ (decimal have ++ (codes ", needs " ++ decimal need))

-- what is wrong with a checkpoint, and where
abbrev pub checkpoint_refusal : Parts → CheckpointError → Refusal
checkpoint_refusal g (error.Line number) = NotReached (codes "checkpoint: line " ++ decimal number)
checkpoint_refusal g (error.Count t have limit) =
    NotReached (codes "checkpoint: " ++ (label g t
    ++ (codes " has " ++ (decimal have ++ (codes " of " ++ decimal limit)))))
checkpoint_refusal g (error.Marking a have need) =
    NotReached (codes "checkpoint: place " ++ (decimal a ++ (codes " has "
    ++ (decimal have ++ (codes " tokens, needs " ++ signed_decimal need)))))
checkpoint_refusal g (error.Date t job have need) =
    NotReached (codes "checkpoint: " ++ (label g t ++ (codes " " ++ (decimal job ++ has_date have need))))
checkpoint_refusal g (error.PlaceDate a token have need) =
    NotReached (codes "checkpoint: place " ++ (decimal a ++ (codes " token " ++ (decimal token ++ has_date have need))))
checkpoint_refusal g error.NoMemory = NoMemory

-- the station that a refusal names is one of the graph
abbrev pub NamesStation : Parts → CheckpointError → Type 0
NamesStation g (error.Count t have limit) = t < stations g
NamesStation g (error.Date t job have need) = t < stations g
NamesStation g other = ⊤
