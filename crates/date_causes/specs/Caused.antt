-- What contracts see of a `Causes`.
use Rattle.std.specs.Prelude.{◌≡◌, ℕ, ◌<◌, ◌≤◌, List, All}
use Rattle.line_base.specs.declared.event.Parts.{Parts}
use Rattle.plant_model.specs.declared.plant.Plant.{Plant}
use Rattle.plant_model.specs.Graph.{graph}
use Rattle.plant_model.specs.Sound.{IsSound}
use Rattle.event_graph.specs.Network.{stations, jobs}
use Rattle.event_graph.specs.Table.{date_in}
use Rattle.line_core.specs.Run.{Dates}
use Rattle.date_causes.specs.declared.link.Link.{Link}
use Rattle.date_causes.specs.declared.writing.Chain.{Chain}
use Rattle.date_causes.specs.Chain.{IsChain, HasArc}
use Rattle.date_causes.specs.Shares.{shares}
use Rattle.date_causes.specs.WhyText.{why_text}

-- a plant, and the chain of causes of a date
pub record Caused : Type 0 where
  pub plant : Plant
  pub links : List Link

-- the text of the chain
abbrev pub text_of : Caused → List ℕ
text_of c = why_text c.plant c.links

-- the plant has this station, and a job of this number
abbrev pub HasStation : Plant → ℕ → Type 0
HasStation p t = t < stations (graph p)

abbrev pub HasJob : Plant → ℕ → Type 0
HasJob p n = n ≤ jobs (graph p)

-- the links are the chain of causes of job n at station t in the graph of the plant
abbrev pub IsChainOf : Dates → ℕ → ℕ → Caused → Type 0
IsChainOf table t n c = IsChain (graph c.plant) (date_in table.rows) t n c.links

-- the station of a link is there, and its arc, if it has one
pub record IsPlaced (g : Parts) (l : Link) : Type 0 where
  pub station : l.station < stations g
  pub arc : HasArc g l

-- the plant is sound, and the numbers and the graph are its own
pub record IsOfPlant (p numbers : Plant) (g : Parts) : Type 0 where
  pub sound : IsSound p
  pub numbers_are : numbers ≡ p
  pub graph_is : g ≡ graph p

-- the chain can be written: the numbers and the graph are those of a sound plant, the links are placed in the graph,
-- and the shares are theirs
pub record IsWritable (p : Plant) (g : Parts) (chain : Chain) : Type 0 where
  pub of_plant : IsOfPlant p chain.numbers g
  pub placed : All (IsPlaced g) chain.links
  pub shares_are : chain.shares.items ≡ shares chain.links (stations g)
