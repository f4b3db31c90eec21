-- The station that the refusal of a cycle time names is one of the graph.
use Rattle.line_base.specs.declared.event.Parts.{Parts}
use Rattle.cycle_time.specs.declared.certificate.CycleError.{CycleError}
use Rattle.cycle_time.specs.declared.certificate.CycleError.TheVariants.{Varying, NoMemory}
use Rattle.cycle_time.specs.Certificate.{IsCycleRefusal}
use Rattle.live_plant.specs.Refusals.{NamesStation}

pub names_station : (g : Parts) (error : CycleError) → IsCycleRefusal g error → NamesStation g error
names_station g (Varying t) why = why.within
names_station g NoMemory why = tt
