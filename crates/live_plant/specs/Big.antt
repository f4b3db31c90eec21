-- The big plant of a seed: twelve stages of three machines under extended kanban, and two thousand demands. All its
-- numbers are draws, in this order: for each stage its stock, the cards that it has above one for each part of the
-- stock and one more, and for each machine the servers above one, then the time above one; then for each demand how
-- much later it comes than the one before. Stages and machines are numbered from 0 here, jobs from 1.
use Rattle.std.specs.Prelude.{ℕ, zero, suc, ◌+◌, ◌*◌, ◌==◌, if◌then◌else◌, List, [], ◌∷◌, ◌++◌, map, Option, None, Some, codes, decimal}
use Rattle.std.specs.List.{range_with_len}
use Rattle.line_base.specs.declared.times.Times.TheVariants.{Fixed}
use Rattle.plant_model.specs.declared.plant.Policy.TheVariants.{Extended}
use Rattle.plant_model.specs.Stages.{Machine, Stage, one_server}
use Rattle.plant_model.specs.declared.plant.Plant.{Plant}
use Rattle.live_plant.specs.Generator.{state_after, draw_below}

-- the machine with this name, of two draws from state s
abbrev pub machine_from : ℕ → List ℕ → Machine
machine_from s name = record (one_server name (Fixed (1 + draw_below s 2 20))) { servers = 1 + draw_below s 1 3 }

-- the machines `a`, `b` and `c`, of two draws each from state s
unfoldable pub machines_from : ℕ → List Machine
machines_from s =
    machine_from s (codes "a")
    ∷ machine_from (state_after 2 s) (codes "b")
    ∷ machine_from (state_after 4 s) (codes "c")
    ∷ []

-- `s1` to `s12`
abbrev pub stage_name : ℕ → List ℕ
stage_name i = codes "s" ++ decimal (i + 1)

-- `s4` and `s8` feed `s9`, `s12` is final, and each other stage feeds the next
abbrev pub fed_by : ℕ → Option ℕ
fed_by i =
    if i == 3 then Some 8 else if i == 7 then Some 8 else if i == 11 then None else Some (i + 1)

-- stage i, of eight draws from state s
unfoldable pub stage_from : ℕ → ℕ → Stage
stage_from s i =
    record {
      name = stage_name i;
      feeds = fed_by i;
      cards = draw_below s 1 4 + 1 + draw_below s 2 4;
      stock = draw_below s 1 4;
      travel = 0;
      card_time = 0;
      machines = machines_from (state_after 2 s);
    }

-- stage i of the plant of a seed: the stages before it take eight draws each
abbrev pub stage_of : ℕ → ℕ → Stage
stage_of seed i = stage_from (state_after (8 * i) seed) i

-- the first n stages
unfoldable pub stages_of : ℕ → ℕ → List Stage
stages_of seed n = map (stage_of seed) (range_with_len 0 n)

-- the date of job n, of n draws from state s: that of the job before plus a draw; the first job comes after date 0
unfoldable pub date_from : ℕ → ℕ → ℕ
date_from s zero = 0
date_from s (suc n) = date_from s n + draw_below s (suc n) 30

-- the dates of the first n jobs
unfoldable pub dates_from : ℕ → ℕ → List ℕ
dates_from s n = map (date_from s) (range_with_len 1 n)

-- the plant of a seed: twelve stages, of 96 draws, and then 2,000 demands
unfoldable pub big_plant : ℕ → Plant
big_plant seed =
    record {
      policy = Extended;
      stages = stages_of seed 12;
      loops = [];
      card_time = 0;
      demands = dates_from (state_after 96 seed) 2_000;
      observe = [];
    }
