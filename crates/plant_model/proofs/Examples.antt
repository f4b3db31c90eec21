-- The definitions at small plants, against tables that were written by hand.
use Rattle.std.specs.Prelude.{◌≡◌, ℕ, List, [], ◌∷◌, ◌++◌, Option, None, Some, codes, refl}
use Rattle.std.specs.Fmt.{digits}
use Rattle.line_base.specs.declared.times.Times.TheVariants.{Fixed, Each}
use Rattle.plant_model.specs.declared.error.PlantError.TheVariants.{OutOfRange, TimesCount, DemandOrder, TooFewCards, LoopNotDownstream}
use Rattle.plant_model.specs.declared.plant.Policy.{Policy}
use Rattle.plant_model.specs.declared.plant.Policy.TheVariants.{Kanban, Conwip, BaseStock, Extended}
use Rattle.plant_model.specs.Stages.{Machine, Stage, one_server}
use Rattle.plant_model.specs.declared.plant.CardLoop.{CardLoop}
use Rattle.plant_model.specs.declared.plant.Plant.{Plant}
use Rattle.plant_model.specs.Line.{path, first_stages}
use Rattle.plant_model.specs.Graph.{Row, worked_row, plain_row, rows, graph, labels, times}
use Rattle.plant_model.proofs.TwoStage.{machine, stage, two_stages, kanban_line}
use Rattle.plant_model.specs.Refusals.{refusals, parts_refusals, whole_refusals}

-- the rows of the two stages and of the delivery's demands, with the starting stock of each stage
abbrev line_a : ℕ → ℕ → List Row
line_a cut_stock weld_stock =
    worked_row 1 2 0
    ∷ worked_row 2 2 1
    ∷ plain_row 2 2 1 0
    ∷ plain_row 2 3 cut_stock 0
    ∷ worked_row 3 4 0
    ∷ worked_row 4 4 1
    ∷ plain_row 4 4 1 0
    ∷ plain_row 4 5 weld_stock 0
    ∷ plain_row 0 5 0 0
    ∷ []

kanban_a : rows kanban_line ≡ line_a 1 1 ++ plain_row 3 1 0 0 ∷ plain_row 5 3 0 0 ∷ []
unfolding rows
kanban_a = refl

labels_a :
    labels kanban_line
    ≡ codes "feed" ∷ codes "cut" ∷ codes "cut.saw" ∷ codes "weld" ∷ codes "weld.torch" ∷ codes "deliver" ∷ []
unfolding labels
labels_a = refl

times_a : times kanban_line ≡ Fixed 0 ∷ Fixed 0 ∷ Fixed 3 ∷ Fixed 0 ∷ Fixed 5 ∷ Fixed 0 ∷ []
unfolding times
times_a = refl

base_stock_a : rows (two_stages BaseStock 0 1 0 1 []) ≡ line_a 1 1 ++ plain_row 0 1 0 0 ∷ plain_row 0 3 0 0 ∷ []
unfolding rows
base_stock_a = refl

extended_a :
    rows (two_stages Extended 2 1 3 1 [])
    ≡ line_a 1 1 ++ plain_row 0 1 0 0 ∷ plain_row 3 1 1 0 ∷ plain_row 0 3 0 0 ∷ plain_row 5 3 2 0 ∷ []
unfolding rows
extended_a = refl

conwip_a : rows (two_stages (Conwip 2) 0 0 0 1 []) ≡ line_a 0 1 ++ plain_row 5 1 1 0 ∷ []
unfolding rows
conwip_a = refl

loop_a :
    rows (two_stages BaseStock 0 1 0 1 (record { first = 0; last = 1; cards = 2; card_time = 0 } ∷ []))
    ≡ line_a 1 1 ++ plain_row 0 1 0 0 ∷ plain_row 0 3 0 0 ∷ plain_row 5 1 0 0 ∷ []
unfolding rows
loop_a = refl

-- `left` and `right` feed `top`
abbrev assembly : Policy → Plant
assembly policy =
    record {
      policy = policy;
      stages =
          stage (codes "left") (Some 2) 1 0 (machine (codes "l") 2)
          ∷ stage (codes "right") (Some 2) 1 0 (machine (codes "r") 7)
          ∷ stage (codes "top") None 1 4 (machine (codes "press") 1)
          ∷ [];
      loops = [];
      card_time = 9;
      demands = 0 ∷ 0 ∷ [];
      observe = [];
    }

-- the rows of its stages and of the delivery's demands
abbrev assembly_line : ℕ → ℕ → ℕ → List Row
assembly_line left right top =
    worked_row 1 2 0
    ∷ worked_row 2 2 1
    ∷ plain_row 2 2 1 0
    ∷ plain_row 2 5 left 0
    ∷ worked_row 3 4 0
    ∷ worked_row 4 4 1
    ∷ plain_row 4 4 1 0
    ∷ plain_row 4 5 right 0
    ∷ worked_row 5 6 0
    ∷ worked_row 6 6 1
    ∷ plain_row 6 6 1 0
    ∷ plain_row 6 7 top 0
    ∷ plain_row 0 7 0 0
    ∷ []

kanban_assembly :
    rows (assembly Kanban) ≡ assembly_line 1 1 1 ++ plain_row 5 1 0 0 ∷ plain_row 5 3 0 0 ∷ plain_row 7 5 0 0 ∷ []
unfolding rows
kanban_assembly = refl

-- both first stages have the stock of `top` on their paths
conwip_assembly : rows (assembly (Conwip 6)) ≡ assembly_line 0 0 4 ++ plain_row 7 1 2 9 ∷ plain_row 7 3 2 9 ∷ []
unfolding rows
conwip_assembly = refl

paths : path (assembly Kanban) 1 ≡ 1 ∷ 2 ∷ []
paths = refl

firsts : first_stages (assembly Kanban) ≡ 0 ∷ 1 ∷ []
firsts = refl

-- `cut` with a travel of 4 and a card time of 1, and a loop with one of 7
abbrev plant_with_travel : Plant
plant_with_travel =
    record kanban_line {
      stages =
          record (stage (codes "cut") (Some 1) 1 0 (machine (codes "saw") 3)) { travel = 4; card_time = 1 }
          ∷ stage (codes "weld") None 1 0 (machine (codes "torch") 5)
          ∷ [];
      loops = record { first = 1; last = 1; cards = 1; card_time = 7 } ∷ [];
      card_time = 9;
    }

delays_of_travel : (graph plant_with_travel).delays ≡ 0 ∷ 0 ∷ 0 ∷ 4 ∷ 0 ∷ 0 ∷ 0 ∷ 0 ∷ 0 ∷ 1 ∷ 0 ∷ 7 ∷ []
unfolding graph rows
delays_of_travel = refl

-- two machines: one goes on to the other, the last one to the delivery
abbrev cell : Plant
cell =
    record {
      policy = Kanban;
      stages =
          record {
            name = codes "cell";
            feeds = None;
            cards = 2;
            stock = 0;
            travel = 0;
            card_time = 0;
            machines = machine (codes "a") 3 ∷ record (machine (codes "b") 4) { servers = 2 } ∷ [];
          }
          ∷ [];
      loops = [];
      card_time = 0;
      demands = 0 ∷ [];
      observe = [];
    }

kanban_cell :
    rows cell
    ≡ worked_row 1 2 0
    ∷ worked_row 2 2 1
    ∷ plain_row 2 2 1 0
    ∷ worked_row 2 3 0
    ∷ worked_row 3 3 2
    ∷ plain_row 3 3 1 0
    ∷ plain_row 3 4 2 0
    ∷ plain_row 0 4 0 0
    ∷ plain_row 4 1 0 0
    ∷ []
unfolding rows
kanban_cell = refl

sound_a : refusals kanban_line ≡ []
unfolding refusals parts_refusals whole_refusals digits
sound_a = refl

too_few_in_stage : refusals (two_stages Extended 1 2 2 1 []) ≡ TooFewCards (codes "stage[1].cards") 1 2 ∷ []
unfolding refusals parts_refusals whole_refusals digits
too_few_in_stage = refl

-- a loop from one stage to another, over base stock
abbrev looped : ℕ → ℕ → ℕ → Plant
looped a b cards = two_stages BaseStock 0 1 0 1 (record { first = a; last = b; cards = cards; card_time = 0 } ∷ [])

too_few_in_loop : refusals (looped 0 1 1) ≡ TooFewCards (codes "loop[1].cards") 1 2 ∷ []
unfolding refusals parts_refusals whole_refusals digits
too_few_in_loop = refl

upstream : refusals (looped 1 0 2) ≡ LoopNotDownstream (codes "loop[1]") ∷ []
unfolding refusals parts_refusals whole_refusals digits
upstream = refl

-- the line of two stages with these demands
abbrev demanded : List ℕ → Plant
demanded dates = record kanban_line { demands = dates }

no_demand : refusals (demanded []) ≡ OutOfRange (codes "demands") ∷ []
unfolding refusals parts_refusals whole_refusals digits
no_demand = refl

falling : refusals (demanded (4 ∷ 2 ∷ [])) ≡ DemandOrder 2 ∷ []
unfolding refusals parts_refusals whole_refusals digits
falling = refl

-- one stage, whose machine has a list of times
abbrev mill : List ℕ → Plant
mill times =
    record {
      policy = BaseStock;
      stages =
          stage (codes "mill") None 0 0 (record (one_server (codes "m") (Each times)) { servers = 2 })
          ∷ [];
      loops = [];
      card_time = 0;
      demands = 0 ∷ 0 ∷ 0 ∷ [];
      observe = [];
    }

sound_mill : refusals (mill (10 ∷ 1 ∷ 1 ∷ [])) ≡ []
unfolding refusals parts_refusals whole_refusals digits
sound_mill = refl

short_mill : refusals (mill (10 ∷ 1 ∷ [])) ≡ TimesCount (codes "stage[1].machine[1]") 2 3 ∷ []
unfolding refusals parts_refusals whole_refusals digits
short_mill = refl

late_mill : refusals (mill (10 ∷ 1 ∷ 1000000001 ∷ [])) ≡ OutOfRange (codes "stage[1].machine[1].times[3]") ∷ []
unfolding refusals parts_refusals whole_refusals digits
late_mill = refl
