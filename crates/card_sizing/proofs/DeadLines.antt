-- What a refusal of `rank` shows of the graph that it was given.
use Rattle.std.proofs.Common.{ℕ, List, sym, subst}
use Rattle.line_base.specs.declared.event.Parts.{Parts}
use Rattle.live_check.specs.declared.live.NotLive.{NotLive}
use Rattle.live_check.specs.declared.live.NotLive.TheVariants.{Dead, NoMemory}
use Rattle.live_check.specs.NotLive.{HandsBack, ShowsDeadCircuit}
use Rattle.live_check.specs.DeadCircuit.{IsDeadCircuit}
use Rattle.line_graph.specs.DeadLabels.{AreDead}
use Rattle.card_sizing.specs.Trying.{ShowsItsCircuit, NamesItsCircuit}

pub shows_its_circuit : (g : Parts) (e : NotLive) → HandsBack g e → ShowsDeadCircuit g e → ShowsItsCircuit e
shows_its_circuit g (Dead h arcs) same dead = subst (λ (k : Parts). IsDeadCircuit k arcs) (sym same) dead
shows_its_circuit g (NoMemory h) same dead = tt

pub names_its_circuit : (g : Parts) (e : NotLive) (labels : List (List ℕ)) → HandsBack g e → NamesItsCircuit e labels → AreDead g labels
names_its_circuit g (Dead h arcs) labels same named = subst (λ (k : Parts). AreDead k labels) same named
names_its_circuit g (NoMemory h) labels same named = absurd named
