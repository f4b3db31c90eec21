-- A chain of causes can be written: its links are placed in the graph, and what they add is no late date.
use Rattle.std.proofs.Common.{◌≡◌, ℕ, ◌<◌, List, get_or, refl, sym, ap, ◌∙◌, subst, arith}
use Rattle.std.specs.List.{All}
use Rattle.line_base.specs.declared.event.Parts.{Parts}
use Rattle.event_graph.specs.Network.{stations}
use Rattle.event_graph.specs.Table.{Table, date_in}
use Rattle.plant_model.specs.declared.plant.Plant.{Plant}
use Rattle.line_core.specs.Run.{Dates, IsLeastTable}
use Rattle.date_causes.specs.declared.link.Cause.{Cause}
use Rattle.date_causes.specs.declared.link.Cause.TheVariants.{DemandDate, Start, Along}
use Rattle.date_causes.specs.declared.link.Link.{Link}
use Rattle.date_causes.specs.Chain.{IsLed, IsLink, IsChain, NamesArc}
use Rattle.date_causes.specs.Shares.{shares, total}
use Rattle.date_causes.specs.declared.writing.Chain.{Chain}
use Rattle.date_causes.specs.Caused.{IsPlaced, IsOfPlant, IsWritable}
use Rattle.date_causes.proofs.Chains.{caused_by, chain_links, chain_sums}

-- a link is placed
names_arc : (g : Parts) (x : Table) (l : Link) → IsLink g x l → (c : Cause) → l.cause ≡ c → NamesArc g l.job c
names_arc g x l link DemandDate is = tt
names_arc g x l link Start is = tt
names_arc g x l link (Along a) is =
    let by : IsLed g x l.station l.job a l.added = caused_by g x l (Along a) link is in (by.cause.enters.0, by.later)

pub chain_placed : (g : Parts) (x : Table) (t n : ℕ) (links : List Link) → IsChain g x t n links → All (IsPlaced g) links
chain_placed g x t n links chain k d low =
    let l = get_or links k d in
    let link = chain_links g x t n links chain k d low in
    record { station = link.station; arc = names_arc g x l link l.cause refl }

-- the links' stations are there
pub chain_stations : (g : Parts) (x : Table) (t n : ℕ) (links listed : List Link) (count : ℕ) → IsChain g x t n links → listed ≡ links → count ≡ stations g → All (λ l. l.station < count) listed
chain_stations g x t n links listed count chain same is =
    subst (All (λ l. l.station < count)) (sym same) (λ k d low. omega (arith, is, (chain_links g x t n links chain k d low).station))

-- what all links add isn't late
pub chain_small : (table : Dates) (g : Parts) (t n : ℕ) (links listed : List Link) → IsLeastTable table → IsChain g (date_in table.rows) t n links → listed ≡ links → total listed < 18446744073709551616
chain_small table g t n links listed least chain same =
    omega (arith, ap total same, chain_sums g (date_in table.rows) t n links chain, least.early t n)

-- so the chain can be written
pub writable : (p : Plant) (g : Parts) (x : Table) (t n count : ℕ) (listed : List Link) (chain : Chain) → IsOfPlant p chain.numbers g → IsChain g x t n chain.links → listed ≡ chain.links → count ≡ stations g → chain.shares.items ≡ shares listed count → IsWritable p g chain
writable p g x t n count listed chain of_plant is_chain list is sums =
    record {
      of_plant = of_plant;
      placed = chain_placed g x t n chain.links is_chain;
      shares_are = sums ∙ ap (λ ls. shares ls count) list ∙ ap (shares chain.links) is;
    }
