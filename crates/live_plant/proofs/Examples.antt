-- The definitions at seed 7, against numbers that were worked out by hand.
use Rattle.std.specs.Prelude.{◌≡◌, ℕ, List, [], ◌∷◌, Option, None, Some, codes, refl}
use Rattle.std.specs.Fmt.{digits}
use Rattle.line_base.specs.declared.times.Times.TheVariants.{Fixed}
use Rattle.plant_model.specs.Stages.{Machine, Stage, one_server}
use Rattle.plant_model.specs.Line.{no_stage}
use Rattle.live_plant.specs.Generator.{next_state, state_after, draw}
use Rattle.live_plant.specs.Big.{stage_of, stage_from, machines_from, date_from, dates_from}

first_draw : draw 7 1 ≡ 1_059_165_278
unfolding draw state_after next_state
first_draw = refl

-- a machine with a time for every job
abbrev machine : List ℕ → ℕ → ℕ → Machine
machine name servers time = record (one_server name (Fixed time)) { servers = servers }

-- a stage with a name, the next stage, cards and stock; cards go back at once
abbrev stage : List ℕ → Option ℕ → ℕ → ℕ → List Machine → Stage
stage name feeds cards stock machines =
    record no_stage { name = name; feeds = feeds; cards = cards; stock = stock; machines = machines }

-- of the draws 1059165278, 2052263231, 1946856753, 585718673, 572045545, 297257219, 865189864, 691615764
first_stage :
    stage_of 7 0
    ≡ stage (codes "s1") (Some 1) 6 2 (machine (codes "a") 1 14 ∷ machine (codes "b") 2 20 ∷ machine (codes "c") 2 5 ∷ [])
unfolding stage_from machines_from draw state_after next_state digits
first_stage = refl

fourth_stage :
    stage_of 7 3
    ≡ stage (codes "s4") (Some 8) 2 1 (machine (codes "a") 3 6 ∷ machine (codes "b") 1 13 ∷ machine (codes "c") 2 18 ∷ [])
unfolding stage_from machines_from draw state_after next_state digits
fourth_stage = refl

last_stage :
    stage_of 7 11
    ≡ stage (codes "s12") None 7 3 (machine (codes "a") 1 2 ∷ machine (codes "b") 2 15 ∷ machine (codes "c") 2 19 ∷ [])
unfolding stage_from machines_from draw state_after next_state digits
last_stage = refl

-- the draws 97 to 99 modulo 30 are 5, 6 and 15
first_dates : dates_from (state_after 96 7) 3 ≡ 5 ∷ 11 ∷ 26 ∷ []
unfolding dates_from date_from draw state_after next_state
first_dates = refl
