-- A live graph in an order of its stations.
use Rattle.line_base.specs.declared.event.Parts.{Parts}
use Rattle.event_graph.specs.Live.{IsLive}
use Rattle.event_graph.specs.Network.{IsGraph}
use Rattle.live_check.specs.Order.{LiveGraph, IsUpward}
use Rattle.live_check.proofs.LiveOrder.{has_order}

abbrev pub ordered : (g : Parts) → IsGraph g → IsLive g → LiveGraph
ordered g graph live = record { graph = g; ranks = (has_order g graph live).0 }

pub upward : (g : Parts) (graph : IsGraph g) (live : IsLive g) → IsUpward g (ordered g graph live).ranks
upward g graph live = (has_order g graph live).1
