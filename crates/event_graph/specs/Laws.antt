-- Laws of the definitions, each on a public function whose contract cites it.
use Rattle.std.specs.Prelude.{◌≡◌, ℕ, List}
use Rattle.line_base.specs.declared.event.Parts.{Parts}
use Rattle.event_graph.specs.Table.{Table, IsSameTable}
use Rattle.event_graph.specs.Least.{IsLeast}
use Rattle.event_graph.specs.Greatest.{IsGreatestOfTerms}
use Rattle.event_graph.specs.State.{State, start, tokens_in}
use Rattle.event_graph.specs.Firing.{CanFire, after}
use Rattle.event_graph.specs.Circuit.{IsCircuit, tokens_on}

-- there is at most one least solution
abbrev pub HasOneLeast : Parts → Type 0
HasOneLeast g = (x y : Table) → IsLeast g x → IsLeast g y → IsSameTable g x y

-- each date of a least solution is the greatest of its terms
abbrev pub LeastIsGreatest : Parts → Type 0
LeastIsGreatest g = (x : Table) → IsLeast g x → IsGreatestOfTerms g x

-- at the start every circuit has its tokens
abbrev pub StartsFull : Parts → Type 0
StartsFull g = (arcs : List ℕ) → IsCircuit g arcs → tokens_in (start g) arcs ≡ tokens_on g arcs

-- both states have the same number of tokens on the arcs
abbrev pub HasSameTokens : State → State → List ℕ → Type 0
HasSameTokens old new arcs = tokens_in new arcs ≡ tokens_in old arcs

-- a firing leaves the tokens of every circuit as they were, in any state in which it is possible
abbrev pub KeepsCircuits : Parts → Type 0
KeepsCircuits g =
    (s : State) (t : ℕ) → CanFire g s t → (arcs : List ℕ) → IsCircuit g arcs → HasSameTokens s (after g s t) arcs
