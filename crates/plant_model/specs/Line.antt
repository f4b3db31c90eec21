-- The words for a line: its stages, its stations, its loops, what a stage feeds, its starting stock, its path. Stages,
-- stations and loops are numbered from 0.
use Rattle.std.specs.Prelude.{ℕ, zero, suc, ◌+◌, Bool, not, ◌==◌, if◌then◌else◌, false, List, [], ◌∷◌, length, take, filter, sum_by, slice_index_or, Option, None, Some}
use Rattle.std.specs.Option.{option_map_or}
use Rattle.std.specs.List.{range_with_len, list_any}
use Rattle.line_base.specs.declared.times.Times.TheVariants.{Fixed}
use Rattle.plant_model.specs.declared.plant.Policy.{Policy}
use Rattle.plant_model.specs.declared.plant.Policy.TheVariants.{Kanban, Conwip, BaseStock, Extended}
use Rattle.plant_model.specs.declared.plant.Stage.{Stage as StageOf}
use Rattle.plant_model.specs.Stages.{Machine, Stage, one_server}
use Rattle.plant_model.specs.declared.plant.CardLoop.{CardLoop}
use Rattle.plant_model.specs.declared.plant.Plant.{Plant}

-- what stands where a number names no stage
abbrev pub no_stage : Stage
no_stage = record { name = []; feeds = None; cards = 0; stock = 0; travel = 0; card_time = 0; machines = [] }

-- the stage with this number
abbrev pub stage_at : Plant → ℕ → Stage
stage_at p i = slice_index_or p.stages i no_stage

-- what stands where a number names no machine
abbrev pub no_machine : Machine
no_machine = record (one_server [] (Fixed 0)) { servers = 0 }

-- machine j of stage i
abbrev pub machine_at : Plant → ℕ → ℕ → Machine
machine_at p i j = slice_index_or (stage_at p i).machines j no_machine

-- what stands where a number names no loop
abbrev pub no_loop : CardLoop
no_loop = record { first = 0; last = 0; cards = 0; card_time = 0 }

-- loop k
abbrev pub loop_at : Plant → ℕ → CardLoop
loop_at p k = slice_index_or p.loops k no_loop

-- the numbers of the stages, in order
abbrev pub stage_numbers : Plant → List ℕ
stage_numbers p = range_with_len 0 (length p.stages)

-- the numbers of the machines of stage i, in order
abbrev pub machine_numbers : Plant → ℕ → List ℕ
machine_numbers p i = range_with_len 0 (length (stage_at p i).machines)

-- how many stations stages have, whatever stands in place of their job times: each a release and its machines
abbrev pub stations_of : {T : Type 0} → List (StageOf T) → ℕ
stations_of stages = sum_by (λ s. 1 + length s.machines) stages

-- the station of the release of stage i: the feed comes first, then the stations of the stages before
abbrev pub release : Plant → ℕ → ℕ
release p i = 1 + stations_of (take i p.stages)

-- the station of machine j of stage i
abbrev pub machine_station : Plant → ℕ → ℕ → ℕ
machine_station p i j = release p i + 1 + j

-- the station of the last machine of stage i
abbrev pub last_machine : Plant → ℕ → ℕ
last_machine p i = release p i + length (stage_at p i).machines

-- the station of the delivery, the last one
abbrev pub deliver : Plant → ℕ
deliver p = 1 + stations_of p.stages

-- how many stations the line has
abbrev pub station_count : Plant → ℕ
station_count p = deliver p + 1

-- the stage that stage i feeds; none for the final stage
abbrev pub next : Plant → ℕ → Option ℕ
next p i = (stage_at p i).feeds

-- the station that takes the parts of stage i: the release of the stage that it feeds, or the delivery
abbrev pub receiver : Plant → ℕ → ℕ
receiver p i = option_map_or (release p) (next p i) (deliver p)

-- the starting stock of a stage: its cards under kanban, else its stock
abbrev pub stock_under : Policy → Stage → ℕ
stock_under Kanban s = s.cards
stock_under (Conwip _) s = s.stock
stock_under BaseStock s = s.stock
stock_under Extended s = s.stock

-- the starting stock of stage i
abbrev pub starting : Plant → ℕ → ℕ
starting p i = stock_under p.policy (stage_at p i)

-- the cards of the whole line: those of CONWIP
abbrev pub line_cards : Policy → ℕ
line_cards Kanban = 0
line_cards (Conwip cards) = cards
line_cards BaseStock = 0
line_cards Extended = 0

-- whether a stage feeds stage i
abbrev pub feeds : ℕ → Stage → Bool
feeds i s = option_map_or (λ j. j == i) s.feeds false

-- whether no stage feeds stage i
abbrev pub is_first : Plant → ℕ → Bool
is_first p i = not (list_any (feeds i) p.stages)

-- the first stages, in order
abbrev pub first_stages : Plant → List ℕ
first_stages p = filter (is_first p) (stage_numbers p)

-- the first n stages of the path of stage i: the stage, the stage that it feeds, and so on
abbrev pub path_within : ℕ → Plant → ℕ → List ℕ
path_within zero p i = []
path_within (suc n) p i = i ∷ option_map_or (path_within n p) (next p i) []

-- the path of stage i to the final stage, which goes to later stages alone
abbrev pub path : Plant → ℕ → List ℕ
path p i = path_within (length p.stages) p i

-- a path up to stage b
abbrev pub up_to : ℕ → List ℕ → List ℕ
up_to b [] = []
up_to b (i ∷ is) = if i == b then i ∷ [] else i ∷ up_to b is

-- whether stage b is on the path of stage a
abbrev pub is_downstream : Plant → ℕ → ℕ → Bool
is_downstream p a b = list_any (λ i. i == b) (path p a)

-- the starting stock on the path of stage a
abbrev pub path_stock : Plant → ℕ → ℕ
path_stock p a = sum_by (starting p) (path p a)

-- the starting stock of the stages from a to b on the path of a
abbrev pub stock_between : Plant → ℕ → ℕ → ℕ
stock_between p a b = sum_by (starting p) (up_to b (path p a))

-- that stock, if stage b is on the path of stage a
abbrev pub stock_down_to : Plant → ℕ → ℕ → Option ℕ
stock_down_to p a b = if is_downstream p a b then Some (stock_between p a b) else None
