-- What stands against building a graph of some parts, for the refusals of `Graph::build`.
use Rattle.std.specs.Prelude.{◌≡◌, ◌≢◌, ℕ, ◌<◌, ◌≤◌, ◌⊎◌, ⊤}
use Rattle.line_base.specs.declared.event.Parts.{Parts}
use Rattle.event_graph.specs.declared.error.GraphError.{GraphError}
use Rattle.event_graph.specs.declared.error.GraphError.TheVariants.{EndOutOfRange, FeedInput, NoInput, NoMemory}
use Rattle.event_graph.specs.Network.{stations, arc_count, arc}

-- arc a starts or ends at a station that isn't there
abbrev pub NamesNoStation : Parts → ℕ → Type 0
NamesNoStation g a = (stations g ≤ (arc g a).from) ⊎ (stations g ≤ (arc g a).to)

-- arc a ends at station 0
abbrev pub EntersFeed : Parts → ℕ → Type 0
EntersFeed g a = (arc g a).to ≡ 0

-- t is another station than the feed, and no arc ends there
abbrev pub LacksInput : Parts → ℕ → Type 0
LacksInput g t = (1 ≤ t) × ((a : ℕ) → a < arc_count g → (arc g a).to ≢ t)

-- no number below the bound has the fault
abbrev pub HasNone : (ℕ → Type 0) → ℕ → Type 0
HasNone Fault bound = (k : ℕ) → k < bound → ¬ Fault k

-- k is the first number below the bound that has the fault
pub record IsFirst (Fault : ℕ → Type 0) (bound k : ℕ) : Type 0 where
  pub within : k < bound
  pub found : Fault k
  pub first : HasNone Fault k

-- the parts have none of the faults of one kind
abbrev pub AllNameStations : Parts → Type 0
AllNameStations g = HasNone (NamesNoStation g) (arc_count g)

abbrev pub NoneEntersFeed : Parts → Type 0
NoneEntersFeed g = HasNone (EntersFeed g) (arc_count g)

abbrev pub NoneLacksInput : Parts → Type 0
NoneLacksInput g = HasNone (LacksInput g) (stations g)

-- the error names the first fault of the parts: of the first kind that they have, its first arc or
-- station; running out of memory may come at any time
abbrev pub IsFirstFault : Parts → GraphError → Type 0
IsFirstFault g (EndOutOfRange a) = IsFirst (NamesNoStation g) (arc_count g) a
IsFirstFault g (FeedInput a) = AllNameStations g × IsFirst (EntersFeed g) (arc_count g) a
IsFirstFault g (NoInput t) =
    AllNameStations g × NoneEntersFeed g × IsFirst (LacksInput g) (stations g) t
IsFirstFault g NoMemory = ⊤
