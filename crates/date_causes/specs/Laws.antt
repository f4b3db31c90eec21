-- Laws of chains of causes, each on a public function whose contract cites it.
use Rattle.std.specs.Prelude.{◌≡◌, ℕ, ◌<◌, ◌≤◌, List, sum}
use Rattle.line_base.specs.declared.event.Parts.{Parts}
use Rattle.event_graph.specs.Network.{stations, jobs}
use Rattle.event_graph.specs.Table.{Table}
use Rattle.date_causes.specs.declared.link.Link.{Link}
use Rattle.date_causes.specs.Chain.{IsChain}
use Rattle.date_causes.specs.Walk.{IsWalkTo}
use Rattle.date_causes.specs.Shares.{amounts, total, all_shares}

-- the amounts of a chain sum to its date
abbrev pub ChainsSumToDates : Parts → Table → Type 0
ChainsSumToDates g x = (t n : ℕ) (links : List Link) → IsChain g x t n links → total links ≡ x t n

-- and they are those of a walk that ends at the date and begins at a demand or a token of the start
abbrev pub ChainsAreWalks : Parts → Table → Type 0
ChainsAreWalks g x = (t n : ℕ) (links : List Link) → IsChain g x t n links → IsWalkTo g t n (amounts links)

-- no walk that ends at a date and begins at a demand or a token of the start sums to more than the date
abbrev pub NoWalkSumsToMore : Parts → Table → Type 0
NoWalkSumsToMore g x = (t n : ℕ) (walk : List ℕ) → IsWalkTo g t n walk → sum walk ≤ x t n

-- the chain of causes of job n at station t: there is one, and no other
pub record HasOneChain (g : Parts) (x : Table) (t n : ℕ) : Type 0 where
  pub links : List Link
  pub chain : IsChain g x t n links
  pub only : (others : List Link) → IsChain g x t n others → others ≡ links

-- each date has one chain of causes
abbrev pub DatesHaveOneChain : Parts → Table → Type 0
DatesHaveOneChain g x = (t n : ℕ) → t < stations g → 1 ≤ n → n ≤ jobs g → HasOneChain g x t n

-- what all stations have added to a date sums to it
abbrev pub SharesSumToDates : Parts → Table → Type 0
SharesSumToDates g x =
    (t n : ℕ) (links : List Link) → IsChain g x t n links → all_shares links (stations g) ≡ x t n
