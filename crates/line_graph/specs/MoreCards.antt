-- Plants that differ in cards and stock alone, for the law *More tokens, never later* on plants. Source: Baccelli,
-- Cohen, Olsder, Quadrat, Synchronization and Linearity: dates do not get later with more tokens; Dallery and
-- Liberopoulos 2000 for the cards.
use Rattle.std.specs.Prelude.{◌≡◌, ℕ, ◌<◌, ◌≤◌, map, length}
use Rattle.plant_model.specs.declared.plant.Policy.{Policy}
use Rattle.plant_model.specs.declared.plant.Policy.TheVariants.{Kanban, Conwip, BaseStock, Extended}
use Rattle.plant_model.specs.Stages.{Stage}
use Rattle.plant_model.specs.declared.plant.CardLoop.{CardLoop}
use Rattle.plant_model.specs.declared.plant.Plant.{Plant}
use Rattle.plant_model.specs.Line.{stage_at, line_cards, loop_at}
use Rattle.plant_model.specs.Graph.{graph}
use Rattle.event_graph.specs.Network.{arc, arc_count}
use Rattle.event_graph.specs.Live.{IsLive}
use Rattle.live_check.specs.MoreTokens.{IsNeverLater}

-- a policy, and no cards of the line
abbrev pub policy_without_cards : Policy → Policy
policy_without_cards Kanban = Kanban
policy_without_cards (Conwip _) = Conwip 0
policy_without_cards BaseStock = BaseStock
policy_without_cards Extended = Extended

-- a stage with no cards and no stock
abbrev pub stage_without_cards : Stage → Stage
stage_without_cards s = record s { cards = 0; stock = 0 }

-- a loop with no cards
abbrev pub loop_without_cards : CardLoop → CardLoop
loop_without_cards l = record l { cards = 0 }

-- a plant with no cards and no stock
abbrev pub without_cards : Plant → Plant
without_cards p =
    record p {
      policy = policy_without_cards p.policy;
      stages = map stage_without_cards p.stages;
      loops = map loop_without_cards p.loops;
    }

-- the plants differ in cards and stock alone
pub record DifferInCards (few many : Plant) : Type 0 where
  pub alike : without_cards few ≡ without_cards many

-- each arc of the second plant's graph has at least as many tokens at the start
pub record HasMoreOnEachArc (few many : Plant) : Type 0 where
  pub each : (a : ℕ) → a < arc_count (graph few) → (arc (graph few) a).tokens ≤ (arc (graph many) a).tokens

-- the second plant has at least as many cards at each stage, on the line and on each loop, and the same stock; under
-- kanban, where a stage's cards are its stock, a plant with a loop has the same cards at each stage
pub record HasMoreCards (few many : Plant) : Type 0 where
  pub differ : DifferInCards few many
  pub stages : (i : ℕ) → i < length few.stages → (stage_at few i).cards ≤ (stage_at many i).cards
  pub stock : (i : ℕ) → i < length few.stages → (stage_at few i).stock ≡ (stage_at many i).stock
  pub line : line_cards few.policy ≤ line_cards many.policy
  pub loops : (k : ℕ) → k < length few.loops → (loop_at few k).cards ≤ (loop_at many k).cards
  pub kanban_loops : few.policy ≡ Kanban → 1 ≤ length few.loops
      → (i : ℕ) → i < length few.stages → (stage_at few i).cards ≡ (stage_at many i).cards

-- with more tokens on some arcs the line stays live, and no date gets later
abbrev pub MoreOnEachArcNeverLater : Plant → Plant → Type 0
MoreOnEachArcNeverLater few many =
    DifferInCards few many → HasMoreOnEachArc few many → IsLive (graph few) → IsNeverLater (graph few) (graph many)

-- with more cards the line stays live, and no date gets later
abbrev pub MoreCardsNeverLater : Plant → Plant → Type 0
MoreCardsNeverLater few many =
    HasMoreCards few many → IsLive (graph few) → IsNeverLater (graph few) (graph many)
