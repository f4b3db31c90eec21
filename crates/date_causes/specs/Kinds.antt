-- What each arc of a plant's graph stands for, in the order of the rows of `plant_model`'s Graph.antt.
use Rattle.std.specs.Prelude.{◌≡◌, ℕ, ◌<◌, ◌≤◌, Bool, true, false, List, [], ◌∷◌, ◌++◌, map, slice_index_or, codes}
use Rattle.std.specs.List.{flat_map}
use Rattle.line_base.specs.declared.event.Arc.{Arc}
use Rattle.event_graph.specs.Network.{arc}
use Rattle.plant_model.specs.declared.plant.Policy.{Policy}
use Rattle.plant_model.specs.declared.plant.Policy.TheVariants.{Kanban, Conwip, BaseStock, Extended}
use Rattle.plant_model.specs.declared.plant.Plant.{Plant}
use Rattle.plant_model.specs.Line.{stage_numbers, machine_numbers, first_stages}
use Rattle.plant_model.specs.ArcNumbers.{delivery_arc, policy_arc, first_loop_arc}
use Rattle.plant_model.specs.Graph.{graph}
use Rattle.date_causes.specs.declared.kind.ArcKind.{ArcKind}
use Rattle.date_causes.specs.declared.kind.ArcKind.TheVariants.{Part, Server, Order, Demand, Card, Loop}

-- the three arcs out of a machine: its servers, the order of its parts, and onward
abbrev pub machine_kinds : List ArcKind
machine_kinds = Server ∷ Order ∷ Part ∷ []

-- the arcs of stage i: into its first machine, then those of its machines
abbrev pub stage_kinds : Plant → ℕ → List ArcKind
stage_kinds p i = Part ∷ flat_map (λ j. machine_kinds) (machine_numbers p i)

-- the arcs of the policy: a card a stage; a card a first stage; a demand a stage; a demand and a card a stage
abbrev pub policy_kinds : Plant → List ArcKind
policy_kinds p = kinds_under p.policy
  where
    kinds_under : Policy → List ArcKind
    kinds_under Kanban = map (λ i. Card) (stage_numbers p)
    kinds_under (Conwip _) = map (λ i. Card) (first_stages p)
    kinds_under BaseStock = map (λ i. Demand) (stage_numbers p)
    kinds_under Extended = flat_map (λ i. Demand ∷ Card ∷ []) (stage_numbers p)

-- all arcs: those of the stages in order, the demands of the delivery, the policy's, the loops'
unfoldable pub kinds : Plant → List ArcKind
kinds p = flat_map (stage_kinds p) (stage_numbers p) ++ Demand ∷ (policy_kinds p ++ map (λ l. Loop) p.loops)

-- the kind of arc a
abbrev pub kind_at : Plant → ℕ → ArcKind
kind_at p a = slice_index_or (kinds p) a Part

-- the word of a kind
abbrev pub kind_word : ArcKind → List ℕ
kind_word Part = codes "part"
kind_word Server = codes "server"
kind_word Order = codes "order"
kind_word Demand = codes "demand"
kind_word Card = codes "card"
kind_word Loop = codes "loop"

-- an arc of the stages, which starts at a station of one of them
pub record IsOfStages (p : Plant) (a : ℕ) (arc : Arc) : Type 0 where
  pub low : a < delivery_arc p
  pub from_stage : 0 < arc.from

-- an arc of the policy, which doesn't start at the feed
pub record IsOfPolicy (p : Plant) (a : ℕ) (arc : Arc) : Type 0 where
  pub high : policy_arc p ≤ a
  pub low : a < first_loop_arc p
  pub from_line : 0 < arc.from

-- an arc of the loops
pub record IsOfLoops (p : Plant) (a : ℕ) (arc : Arc) : Type 0 where
  pub high : first_loop_arc p ≤ a
  pub from_line : 0 < arc.from

-- a station's own arc, on which its time is added or isn't
pub record IsOwn (arc : Arc) (worked : Bool) : Type 0 where
  pub own : arc.from ≡ arc.to
  pub worked_is : arc.worked ≡ worked

-- what an arc of a kind is: a part goes on to a later station; a server and the order of parts are a machine's own
-- arcs, with and without its time; a demand comes from the feed; a card is the policy's, or a loop's
abbrev pub IsLike : Plant → ℕ → Arc → ArcKind → Type 0
IsLike p a arc Part = IsOfStages p a arc × (arc.from < arc.to)
IsLike p a arc Server = IsOfStages p a arc × IsOwn arc true
IsLike p a arc Order = IsOfStages p a arc × IsOwn arc false
IsLike p a arc Demand = arc.from ≡ 0
IsLike p a arc Card = IsOfPolicy p a arc
IsLike p a arc Loop = IsOfLoops p a arc

abbrev pub IsOfKind : Plant → ℕ → ArcKind → Type 0
IsOfKind p a kind = IsLike p a (arc (graph p) a) kind
