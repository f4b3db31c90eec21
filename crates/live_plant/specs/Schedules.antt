-- The refusal of a schedule that can't be followed, with its line. Stations go by their labels.
use Rattle.std.specs.Prelude.{◌<◌, ◌++◌, codes, decimal, ⊤}
use Rattle.line_base.specs.declared.event.Parts.{Parts}
use Rattle.event_graph.specs.Network.{stations, jobs, arc_count, arc, label}
use Rattle.line_core.specs.declared.error.ReplayError.{ReplayError}
use Rattle.line_core.specs.declared.error.ReplayError.TheVariants as replay
use Rattle.live_plant.specs.declared.refusals.refusal.Refusal.{Refusal}
use Rattle.live_plant.specs.declared.refusals.refusal.Refusal.TheVariants.{NotFollowed, NoMemory}

-- why a schedule can't be followed, and at which line of it
abbrev pub schedule_refusal : Parts → ReplayError → Refusal
schedule_refusal g (replay.NoStation line) =
    NotFollowed (codes "replay: line " ++ decimal line ++ codes " is no station")
schedule_refusal g (replay.Done line t) =
    NotFollowed (codes "replay: line " ++ decimal line ++ codes ": " ++ label g t ++ codes " is done")
schedule_refusal g (replay.Empty line a) =
    NotFollowed (codes "replay: line " ++ decimal line ++ codes ": " ++ label g (arc g a).to ++ codes " waits for "
    ++ label g (arc g a).from)
schedule_refusal g (replay.Unfinished t have) =
    NotFollowed (codes "replay: " ++ label g t ++ codes " made " ++ decimal have ++ codes " of " ++ decimal (jobs g))
schedule_refusal g replay.NoMemory = NoMemory

-- the stations and arcs that a refusal names are those of the graph
abbrev pub NamesExisting : Parts → ReplayError → Type 0
NamesExisting g (replay.NoStation line) = ⊤
NamesExisting g (replay.Done line t) = t < stations g
NamesExisting g (replay.Empty line a) = a < arc_count g
NamesExisting g (replay.Unfinished t have) = t < stations g
NamesExisting g replay.NoMemory = ⊤
