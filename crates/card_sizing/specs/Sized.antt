-- A plant with one count of cards: at each stage under kanban and extended kanban, for the line under CONWIP.
-- Source: Dallery and Liberopoulos 2000, for what a stage's cards and its stock are.
use Rattle.std.specs.Prelude.{ℕ, ◌+◌, min, Bool, true, false, ◌==◌, map, length}
use Rattle.line_base.specs.Limits.{most_cards}
use Rattle.event_graph.specs.GreatestValue.{greatest}
use Rattle.plant_model.specs.declared.plant.Policy.{Policy}
use Rattle.plant_model.specs.declared.plant.Policy.TheVariants.{Kanban, Conwip, BaseStock, Extended}
use Rattle.plant_model.specs.Stages.{Stage}
use Rattle.plant_model.specs.declared.plant.Plant.{Plant}
use Rattle.plant_model.specs.Line.{stage_at, stage_numbers, first_stages, path_stock}

-- whether one count says how many cards the plant has: not under base stock, which has none, and not under kanban with
-- a loop, whose cards stand against those of its stages
abbrev pub has_count_under : Policy → Plant → Bool
has_count_under Kanban p = length p.loops == 0
has_count_under (Conwip _) p = true
has_count_under BaseStock p = false
has_count_under Extended p = true

abbrev pub has_single_count : Plant → Bool
has_single_count p = has_count_under p.policy p

-- the policy, with c cards for the line
abbrev pub policy_with : ℕ → Policy → Policy
policy_with c Kanban = Kanban
policy_with c (Conwip _) = Conwip c
policy_with c BaseStock = BaseStock
policy_with c Extended = Extended

-- the cards of a stage with c cards where the policy gives stages cards, and with its own else
abbrev pub cards_under : Policy → ℕ → ℕ → ℕ
cards_under Kanban c own = c
cards_under (Conwip _) c own = own
cards_under BaseStock c own = own
cards_under Extended c own = c

-- the stage with these cards
abbrev pub stage_with : Policy → ℕ → Stage → Stage
stage_with policy c s = record s { cards = cards_under policy c s.cards }

-- the plant with c cards at each stage, or for the line
unfoldable pub sized_plant : Plant → ℕ → Plant
sized_plant p c =
    record p {
      policy = policy_with c p.policy;
      stages = map (stage_with p.policy c) p.stages;
    }

-- the most stock of a stage
abbrev pub most_stock : Plant → ℕ
most_stock p = greatest (λ i. (stage_at p i).stock) (stage_numbers p)

-- the most stock on the path of a first stage
abbrev pub most_path_stock : Plant → ℕ
most_path_stock p = greatest (path_stock p) (first_stages p)

-- the lowest count with which each part of the stock has a card
abbrev pub lowest_under : Policy → Plant → ℕ
lowest_under Kanban p = 0
lowest_under (Conwip _) p = most_path_stock p
lowest_under BaseStock p = 0
lowest_under Extended p = most_stock p

unfoldable pub lowest : Plant → ℕ
lowest p = lowest_under p.policy p

-- a count from which on no card more changes a date: under extended kanban one for each part of the most stock and one
-- for each job; at most, and else, the most cards
abbrev pub highest_under : Policy → Plant → ℕ
highest_under Kanban p = most_cards
highest_under (Conwip _) p = most_cards
highest_under BaseStock p = most_cards
highest_under Extended p = min most_cards (most_stock p + length p.demands)

unfoldable pub highest : Plant → ℕ
highest p = highest_under p.policy p
