use Rattle.event_graph.specs.Table.{date_in}
use Rattle.date_causes.proofs.WaysBack.{IsOnWay, steps_left}
use Rattle.date_causes.proofs.chain.causes.Given as goal

-- a chain that ends at the next date is followed by the links so far, turned round
abbrev pub invariant-loop-next : goal.invariant-loop-next
invariant-loop-next l = IsOnWay l.live.graph (date_in l.table.rows) l.t l.n l.links.items l.next

-- each date comes before the one behind it, by job and then by rank
abbrev pub decreases-loop-next : goal.decreases-loop-next
decreases-loop-next l = steps_left l.live l.next
