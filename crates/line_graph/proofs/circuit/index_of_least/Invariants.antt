use Rattle.std.proofs.Common.{ℕ, ◌<◌, ◌≤◌, get_or}
use Rattle.line_graph.proofs.circuit.index_of_least.Given as goal

abbrev pub invariant-loop-index : goal.invariant-loop-index
invariant-loop-index l = record {
  within : l.least ≤ l.index;
  inside : 0 < l.index → l.least < l.index;
  least : (k : ℕ) → k < l.index → get_or l.numbers l.least 0 ≤ get_or l.numbers k 0;
}
