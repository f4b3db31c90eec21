-- What a refusal of `rank` says of the graph.
use Rattle.std.specs.Prelude.{◌≡◌}
use Rattle.line_base.specs.declared.event.Parts.{Parts}
use Rattle.event_graph.specs.Live.{IsLive}
use Rattle.live_check.specs.declared.live.NotLive.{NotLive}
use Rattle.live_check.specs.declared.live.NotLive.TheVariants.{Dead, NoMemory}
use Rattle.live_check.specs.DeadCircuit.{IsDeadCircuit}

-- the refusal hands this graph back
abbrev pub HandsBack : Parts → NotLive → Type 0
HandsBack g (Dead graph arcs) = graph ≡ g
HandsBack g (NoMemory graph) = graph ≡ g

-- a graph that is called dead isn't live
abbrev pub SaysNotLive : Parts → NotLive → Type 0
SaysNotLive g (Dead graph arcs) = ¬ IsLive g
SaysNotLive g (NoMemory graph) = Unit {0}

-- a graph that is called dead has this circuit, which holds no token
abbrev pub ShowsDeadCircuit : Parts → NotLive → Type 0
ShowsDeadCircuit g (Dead graph arcs) = IsDeadCircuit g arcs
ShowsDeadCircuit g (NoMemory graph) = Unit {0}
