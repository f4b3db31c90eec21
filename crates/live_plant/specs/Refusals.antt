-- The refusals of the calls that find a cycle time, size cards, find latest dates, or follow edits.
use Rattle.std.specs.Prelude.{◌<◌, ⊤}
use Rattle.line_base.specs.declared.event.Parts.{Parts}
use Rattle.event_graph.specs.Network.{stations, label}
use Rattle.cycle_time.specs.declared.certificate.CycleError.{CycleError}
use Rattle.cycle_time.specs.declared.certificate.CycleError.TheVariants as cycle
use Rattle.card_sizing.specs.declared.sizing.SizingError.{SizingError}
use Rattle.card_sizing.specs.declared.sizing.SizingError.TheVariants as sizing
use Rattle.latest_dates.specs.declared.error.LatestError.{LatestError}
use Rattle.latest_dates.specs.declared.error.LatestError.TheVariants as latest
use Rattle.what_if.specs.declared.edits.RefusedLine.{RefusedLine}
use Rattle.live_plant.specs.declared.refusals.refusal.Refusal.{Refusal}
use Rattle.live_plant.specs.declared.refusals.refusal.Refusal.TheVariants.{Varying, NoCount, NoSingleCount, Late, NotEdited, NoMemory}

-- the refusal of a graph without a cycle time, in which the station goes by its label
abbrev pub cycle_refusal : Parts → CycleError → Refusal
cycle_refusal g (cycle.Varying t) = Varying (label g t)
cycle_refusal g cycle.NoMemory = NoMemory

-- the station that the refusal names is one of the graph
abbrev pub NamesStation : Parts → CycleError → Type 0
NamesStation g (cycle.Varying t) = t < stations g
NamesStation g cycle.NoMemory = ⊤

-- the refusal of a plant without a count of cards
abbrev pub sizing_refusal : SizingError → Refusal
sizing_refusal sizing.NoSingleCount = NoSingleCount
sizing_refusal (sizing.NoCount job wait) = NoCount job wait
sizing_refusal sizing.NoMemory = NoMemory

-- the refusal of a run in which a job waits longer than it may
abbrev pub latest_refusal : LatestError → Refusal
latest_refusal (latest.Late job wait) = Late job wait
latest_refusal latest.NoMemory = NoMemory

-- the refusal of a line of an edits file that can't be followed
abbrev pub edits_refusal : RefusedLine → Refusal
edits_refusal refused = NotEdited refused.line
