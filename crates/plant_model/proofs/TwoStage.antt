-- The line of two stages at which examples are worked out, and its dates.
use Rattle.std.specs.Prelude.{ℕ, List, [], ◌∷◌, Option, None, Some, codes}
use Rattle.line_base.specs.declared.times.Times.TheVariants.{Fixed}
use Rattle.plant_model.specs.declared.plant.Policy.{Policy}
use Rattle.plant_model.specs.declared.plant.Policy.TheVariants.{Kanban}
use Rattle.plant_model.specs.Stages.{Machine, Stage, one_server}
use Rattle.plant_model.specs.declared.plant.CardLoop.{CardLoop}
use Rattle.plant_model.specs.declared.plant.Plant.{Plant}

-- a machine with one server, and the same time for each job
abbrev pub machine : List ℕ → ℕ → Machine
machine name time = one_server name (Fixed time)

-- a stage with one machine: its name, what it feeds, its cards and its stock
abbrev pub stage : List ℕ → Option ℕ → ℕ → ℕ → Machine → Stage
stage name to cards stock m =
    record { name = name; feeds = to; cards = cards; stock = stock; travel = 0; card_time = 0; machines = m ∷ [] }

-- `cut` with `saw` feeds `weld` with `torch`: the cards and the stock of each, and three demands
abbrev pub two_stages : Policy → ℕ → ℕ → ℕ → ℕ → List CardLoop → Plant
two_stages policy cut_cards cut_stock weld_cards weld_stock loops =
    record {
      policy = policy;
      stages =
          stage (codes "cut") (Some 1) cut_cards cut_stock (machine (codes "saw") 3)
          ∷ stage (codes "weld") None weld_cards weld_stock (machine (codes "torch") 5)
          ∷ [];
      loops = loops;
      card_time = 0;
      demands = 0 ∷ 2 ∷ 4 ∷ [];
      observe = [];
    }

-- the line under kanban, with one card at each stage
abbrev pub kanban_line : Plant
kanban_line = two_stages Kanban 1 0 1 0 []

-- its dates by hand: those of the feed, of `cut` and its machine, of `weld` and its machine, and of the delivery
abbrev pub kanban_dates : List (List ℕ)
kanban_dates =
    (0 ∷ 2 ∷ 4 ∷ [])
    ∷ (0 ∷ 5 ∷ 10 ∷ [])
    ∷ (3 ∷ 8 ∷ 13 ∷ [])
    ∷ (0 ∷ 5 ∷ 10 ∷ [])
    ∷ (5 ∷ 10 ∷ 15 ∷ [])
    ∷ (0 ∷ 5 ∷ 10 ∷ [])
    ∷ []
