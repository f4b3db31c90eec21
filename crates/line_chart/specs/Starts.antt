-- From when on a machine works on a job, over a table of dates of the graph. Jobs count from 1.
use Rattle.std.specs.Prelude.{ℕ, List, filter}
use Rattle.line_base.specs.declared.event.Parts.{Parts}
use Rattle.event_graph.specs.Network.{arc, ins}
use Rattle.event_graph.specs.Table.{Table}
use Rattle.event_graph.specs.Term.{token_date}
use Rattle.event_graph.specs.GreatestValue.{greatest}

-- the worked arcs into station t: on these come its parts and the tokens of its servers
unfoldable pub worked_ins : Parts → ℕ → List ℕ
worked_ins g t = filter (λ a. (arc g a).worked) (ins g t)

-- the greatest date among the tokens that job n takes on the worked arcs into station t, with their delays
unfoldable pub start : Parts → Table → ℕ → ℕ → ℕ
start g x t n = greatest (λ a. token_date g x a n) (worked_ins g t)
