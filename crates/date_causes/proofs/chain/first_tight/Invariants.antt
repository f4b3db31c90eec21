use Rattle.std.proofs.Common.{◌≢◌, ℕ, ◌<◌, get_or}
use Rattle.event_graph.specs.Table.{date_in}
use Rattle.event_graph.specs.Term.{term}
use Rattle.date_causes.proofs.chain.first_tight.Given as goal

-- no arc before has a term that is the date
abbrev pub invariant-loop-a : goal.invariant-loop-a
invariant-loop-a l =
    (k : ℕ) → k < l.a-index → term l.graph (date_in l.table.rows) (get_or l.ins k 0) l.n ≢ l.date
