-- The definitions at small plants, against numbers that were worked out by hand.
use Rattle.std.specs.Prelude.{◌≡◌, ℕ, true, false, List, [], ◌∷◌, Option, None, Some, codes, refl}
use Rattle.line_base.specs.declared.times.Times.TheVariants.{Fixed}
use Rattle.plant_model.specs.declared.plant.Policy.{Policy}
use Rattle.plant_model.specs.declared.plant.Policy.TheVariants.{Kanban, Conwip, BaseStock, Extended}
use Rattle.plant_model.specs.Stages.{Stage, one_server}
use Rattle.plant_model.specs.Line.{no_stage}
use Rattle.plant_model.specs.declared.plant.CardLoop.{CardLoop}
use Rattle.plant_model.specs.declared.plant.Plant.{Plant}
use Rattle.event_graph.specs.GreatestValue.{greatest}
use Rattle.event_graph.specs.Table.{Table, date_in}
use Rattle.card_sizing.specs.Sized.{has_single_count, sized_plant, lowest, highest}
use Rattle.card_sizing.specs.Counted.{has_stage_counts, with_counts}
use Rattle.card_sizing.specs.Serving.{wait_of}

-- a stage with one machine
abbrev stage : List ℕ → Option ℕ → ℕ → ℕ → ℕ → Stage
stage name to cards stock time =
    let machines = one_server (codes "m") (Fixed time) ∷ [] in
    record no_stage { name = name; feeds = to; cards = cards; stock = stock; machines = machines }

-- `left` and `right` feed `top`, with these cards and this stock at each
abbrev assembly : Policy → ℕ → ℕ → ℕ → ℕ → ℕ → ℕ → List CardLoop → Plant
assembly policy left_cards left_stock right_cards right_stock top_cards top_stock loops =
    record {
      policy = policy;
      stages =
          stage (codes "left") (Some 2) left_cards left_stock 2
          ∷ stage (codes "right") (Some 2) right_cards right_stock 7
          ∷ stage (codes "top") None top_cards top_stock 1
          ∷ [];
      loops = loops;
      card_time = 9;
      demands = 0 ∷ 2 ∷ 4 ∷ [];
      observe = [];
    }

abbrev one_loop : List CardLoop
one_loop = record { first = 0; last = 2; cards = 9; card_time = 0 } ∷ []

-- each stage gets the cards under kanban and extended kanban, and keeps its stock
kanban_sized : sized_plant (assembly Kanban 1 0 2 0 3 0 []) 5 ≡ assembly Kanban 5 0 5 0 5 0 []
unfolding sized_plant
kanban_sized = refl

extended_sized : sized_plant (assembly Extended 1 1 4 2 3 0 one_loop) 5 ≡ assembly Extended 5 1 5 2 5 0 one_loop
unfolding sized_plant
extended_sized = refl

-- the line gets the cards under CONWIP
conwip_sized : sized_plant (assembly (Conwip 6) 1 1 4 2 3 0 []) 5 ≡ assembly (Conwip 5) 1 1 4 2 3 0 []
unfolding sized_plant
conwip_sized = refl

-- the lowest counts: none, the most stock of a stage, the most stock on the path of `left` or `right`
kanban_lowest : lowest (assembly Kanban 1 7 2 7 3 7 []) ≡ 0
unfolding lowest
kanban_lowest = refl

extended_lowest : lowest (assembly Extended 9 1 9 2 9 4 []) ≡ 4
unfolding lowest greatest
extended_lowest = refl

conwip_lowest : lowest (assembly (Conwip 9) 0 1 0 3 0 4 []) ≡ 7
unfolding lowest greatest
conwip_lowest = refl

-- the highest counts: the most stock, and one for each of three jobs; else the most cards
extended_highest : highest (assembly Extended 9 1 9 2 9 4 []) ≡ 7
unfolding highest greatest
extended_highest = refl

kanban_highest : highest (assembly Kanban 1 7 2 7 3 7 []) ≡ 10000
unfolding highest
kanban_highest = refl

-- each stage gets its own count
each_counted : with_counts (assembly Extended 1 1 4 2 3 0 one_loop) (4 ∷ 5 ∷ 6 ∷ []) ≡ assembly Extended 4 1 5 2 6 0 one_loop
unfolding with_counts
each_counted = refl

-- which plants have a single count
single_counts : has_single_count (assembly Kanban 1 0 1 0 1 0 []) ≡ true
single_counts = refl

looped_kanban : has_single_count (assembly Kanban 1 0 1 0 1 0 one_loop) ≡ false
looped_kanban = refl

looped_extended : has_single_count (assembly Extended 1 0 1 0 1 0 one_loop) ≡ true
looped_extended = refl

base_stock : has_single_count (assembly BaseStock 0 1 0 1 0 1 []) ≡ false
base_stock = refl

-- which plants have a count for each stage
stage_counts : has_stage_counts (assembly Kanban 1 0 1 0 1 0 []) ≡ true
stage_counts = refl

line_count : has_stage_counts (assembly (Conwip 9) 1 0 1 0 1 0 []) ≡ false
line_count = refl

-- a feed at 0 2 4, six stations before the delivery, and deliveries at 0 5 10
abbrev dates : Table
dates =
    date_in
    ((0 ∷ 2 ∷ 4 ∷ []) ∷ [] ∷ [] ∷ [] ∷ [] ∷ [] ∷ [] ∷ (0 ∷ 5 ∷ 10 ∷ []) ∷ [])

-- job 3 is demanded at 4 and delivered at 10
third_wait : wait_of (assembly Kanban 1 0 1 0 1 0 []) dates 3 ≡ 6
third_wait = refl
