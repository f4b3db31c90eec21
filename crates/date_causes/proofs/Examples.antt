-- The kinds of a small plant's arcs and the text of a chain, against what was written by hand.
use Rattle.std.specs.Prelude.{◌≡◌, ℕ, List, [], ◌∷◌, codes, refl}
use Rattle.std.specs.Fmt.{digits}
use Rattle.std.proofs.Common.{arith}
use Rattle.plant_model.specs.declared.plant.Policy.TheVariants.{Conwip, Extended}
use Rattle.plant_model.specs.Graph.{graph, labels}
use Rattle.plant_model.proofs.TwoStage.{two_stages, kanban_line}
use Rattle.event_graph.specs.Network.{demand}
use Rattle.event_graph.specs.Table.{date_in}
use Rattle.date_causes.specs.declared.kind.ArcKind.TheVariants.{Part, Server, Order, Demand, Card, Loop}
use Rattle.date_causes.specs.declared.link.Cause.{Cause}
use Rattle.date_causes.specs.declared.link.Cause.TheVariants.{DemandDate, Start, Along}
use Rattle.date_causes.specs.declared.link.Link.{Link}
use Rattle.date_causes.specs.Chain.{IsChain, demanded}
use Rattle.date_causes.specs.Kinds.{kinds}
use Rattle.date_causes.specs.WhyText.{link_line, share_line, share_lines, why_text}

kanban_kinds :
    kinds kanban_line
    ≡ Part ∷ Server ∷ Order ∷ Part ∷ Part ∷ Server ∷ Order ∷ Part ∷ Demand ∷ Card ∷ Card ∷ []
unfolding kinds
kanban_kinds = refl

extended_kinds :
    kinds (two_stages Extended 1 0 1 0 (record { first = 0; last = 1; cards = 4; card_time = 0 } ∷ []))
    ≡ Part ∷ Server ∷ Order ∷ Part ∷ Part ∷ Server ∷ Order ∷ Part ∷ Demand ∷ Demand ∷ Card ∷ Demand ∷ Card ∷ Loop ∷ []
unfolding kinds
extended_kinds = refl

conwip_kinds :
    kinds (two_stages (Conwip 2) 1 0 1 0 [])
    ≡ Part ∷ Server ∷ Order ∷ Part ∷ Part ∷ Server ∷ Order ∷ Part ∷ Demand ∷ Card ∷ []
unfolding kinds
conwip_kinds = refl

abbrev link : ℕ → ℕ → ℕ → Cause → ℕ → Link
link station job date cause added = record { station = station; job = job; date = date; cause = cause; added = added }

-- why job 3 is delivered at 10
abbrev delivered : List Link
delivered =
    link 3 1 0 Start 0
    ∷ link 4 1 5 (Along 4) 5
    ∷ link 5 2 5 (Along 7) 0
    ∷ link 3 2 5 (Along 10) 0
    ∷ link 4 2 10 (Along 4) 5
    ∷ link 5 3 10 (Along 7) 0
    ∷ []

delivered_text :
    why_text kanban_line delivered
    ≡ codes "weld 1 0 start 0\nweld.torch 1 5 part 5\ndeliver 2 5 part 0\nweld 2 5 card 0\nweld.torch 2 10 part 5\ndeliver 3 10 part 0\nshare weld.torch 10\n"
unfolding why_text link_line share_lines share_line kinds graph labels digits
delivered_text = refl

demanded_text : why_text kanban_line (link 0 3 4 DemandDate 4 ∷ []) ≡ codes "feed 3 4 date 4\nshare feed 4\n"
unfolding why_text link_line share_lines share_line kinds graph labels digits
demanded_text = refl

-- the chain of a demand date is the date alone
demanded_chain :
    IsChain (graph kanban_line) (date_in ((0 ∷ 2 ∷ 4 ∷ []) ∷ [])) 0 3 (link 0 3 4 DemandDate 4 ∷ [])
unfolding graph labels demand
demanded_chain =
    demanded (link 0 3 4 DemandDate 4)
    (record { station = omega arith; from_one = omega arith; job = omega arith; date = refl; caused = record { feed = refl; demanded = refl; added_is = refl } })
    refl
