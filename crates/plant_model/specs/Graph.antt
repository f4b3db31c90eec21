-- The graph of a plant: the stations, their labels and job times, and the arcs in order, as one list of rows. The
-- policies follow the idea of Dallery and Liberopoulos 2000, the words those of Baccelli, Cohen, Olsder and Quadrat,
-- Synchronization and Linearity.
use Rattle.std.specs.Prelude.{ℕ, ◌+◌, ◌-◌, ◌==◌, if◌then◌else◌, true, false, List, [], ◌∷◌, ◌++◌, length, map, codes}
use Rattle.std.specs.List.{flat_map}
use Rattle.line_base.specs.declared.times.Times.{Times}
use Rattle.line_base.specs.declared.times.Times.TheVariants.{Fixed}
use Rattle.line_base.specs.declared.event.Arc.{Arc}
use Rattle.line_base.specs.declared.event.Parts.{Parts}
use Rattle.plant_model.specs.declared.plant.Policy.{Policy}
use Rattle.plant_model.specs.declared.plant.Policy.TheVariants.{Kanban, Conwip, BaseStock, Extended}
use Rattle.plant_model.specs.Stages.{Stage}
use Rattle.plant_model.specs.declared.plant.CardLoop.{CardLoop}
use Rattle.plant_model.specs.declared.plant.Plant.{Plant}
use Rattle.plant_model.specs.Line.{stage_at, machine_at, stage_numbers, machine_numbers, release, machine_station, deliver, receiver, starting, line_cards, first_stages, path_stock, stock_between}

-- an arc with its delay
pub record Row : Type 0 where
  pub arc : Arc
  pub delay : ℕ

-- an arc on which the job time of the station at its end is added
abbrev pub worked_row : ℕ → ℕ → ℕ → Row
worked_row s t n = record { arc = record { from = s; to = t; tokens = n; worked = true }; delay = 0 }

-- an arc on which no job time is added, with its delay
abbrev pub plain_row : ℕ → ℕ → ℕ → ℕ → Row
plain_row s t n late = record { arc = record { from = s; to = t; tokens = n; worked = false }; delay = late }

-- from machine j of stage i on: to the next machine, or after the last one, over the starting stock, to what the stage
-- feeds
abbrev pub onward : Plant → ℕ → ℕ → Row
onward p i j =
    if j + 1 == length (stage_at p i).machines
    then plain_row (machine_station p i j) (receiver p i) (starting p i) (stage_at p i).travel
    else worked_row (machine_station p i j) (machine_station p i (j + 1)) 0

-- the three arcs out of machine j of stage i: a token a server, one token that keeps the parts in order, and onward
abbrev pub machine_rows : Plant → ℕ → ℕ → List Row
machine_rows p i j =
    worked_row (machine_station p i j) (machine_station p i j) (machine_at p i j).servers
    ∷ plain_row (machine_station p i j) (machine_station p i j) 1 0
    ∷ onward p i j
    ∷ []

-- the arcs of stage i: from its release to its first machine, then those of its machines
abbrev pub stage_rows : Plant → ℕ → List Row
stage_rows p i = worked_row (release p i) (machine_station p i 0) 0 ∷ flat_map (machine_rows p i) (machine_numbers p i)

-- the feed tells the delivery of each demand
abbrev pub feed_row : Plant → Row
feed_row p = plain_row 0 (deliver p) 0 0

-- the feed tells the release of stage i of each demand
abbrev pub demand_row : Plant → ℕ → Row
demand_row p i = plain_row 0 (release p i) 0 0

-- the card of stage i goes back to its release as a part leaves; these many are free at the start
abbrev pub card_row : Plant → ℕ → ℕ → Row
card_row p free i = plain_row (receiver p i) (release p i) free (stage_at p i).card_time

-- kanban: for each stage the way back of its cards, which all lie with the starting stock
abbrev pub kanban_rows : Plant → List Row
kanban_rows p = map (card_row p 0) (stage_numbers p)

-- base stock: for each stage the demands
abbrev pub base_stock_rows : Plant → List Row
base_stock_rows p = map (demand_row p) (stage_numbers p)

-- extended kanban: for each stage the demands, and the way back of its cards
abbrev pub extended_rows : Plant → List Row
extended_rows p =
    flat_map (λ i. demand_row p i ∷ card_row p ((stage_at p i).cards - starting p i) i ∷ []) (stage_numbers p)

-- the card of the line goes from the delivery to the release of a first stage
abbrev pub line_card_row : Plant → ℕ → Row
line_card_row p i = plain_row (deliver p) (release p i) (line_cards p.policy - path_stock p i) p.card_time

-- CONWIP: for each first stage the way back of the line's cards
abbrev pub conwip_rows : Plant → List Row
conwip_rows p = map (line_card_row p) (first_stages p)

-- the rows of the plant's policy
abbrev pub policy_rows : Plant → List Row
policy_rows p = rows_under p.policy
  where
    rows_under : Policy → List Row
    rows_under Kanban = kanban_rows p
    rows_under (Conwip _) = conwip_rows p
    rows_under BaseStock = base_stock_rows p
    rows_under Extended = extended_rows p

-- a loop's cards go from what takes the parts of its last stage to the release of its first stage
abbrev pub loop_row : Plant → CardLoop → Row
loop_row p l = plain_row (receiver p l.last) (release p l.first) (l.cards - stock_between p l.first l.last) l.card_time

-- the rows of the loops, in order
abbrev pub loop_rows : Plant → List Row
loop_rows p = map (loop_row p) p.loops

-- all rows: those of the stages in order, the demands of the delivery, the policy's, the loops'
unfoldable pub rows : Plant → List Row
rows p = flat_map (stage_rows p) (stage_numbers p) ++ feed_row p ∷ (policy_rows p ++ loop_rows p)

-- the arcs of rows
abbrev pub arcs_of : List Row → List Arc
arcs_of rows = map (λ r. r.arc) rows

-- the delays of rows
abbrev pub delays_of : List Row → List ℕ
delays_of rows = map (λ r. r.delay) rows

-- the labels of a stage: its name for the release, name, dot, name for a machine
abbrev pub stage_labels : Stage → List (List ℕ)
stage_labels s = s.name ∷ map (λ m. s.name ++ codes "." ++ m.name) s.machines

-- the labels of the stations
unfoldable pub labels : Plant → List (List ℕ)
labels p = codes "feed" ∷ (flat_map stage_labels p.stages ++ codes "deliver" ∷ [])

-- the job times of a stage: none for the release, then those of its machines
abbrev pub stage_times : Stage → List Times
stage_times s = Fixed 0 ∷ map (λ m. m.times) s.machines

-- the job times of the stations
unfoldable pub times : Plant → List Times
times p = Fixed 0 ∷ (flat_map stage_times p.stages ++ Fixed 0 ∷ [])

-- the graph of a plant
unfoldable pub graph : Plant → Parts
graph p =
    record {
      labels = labels p;
      times = times p;
      dates = p.demands;
      arcs = arcs_of (rows p);
      delays = delays_of (rows p);
    }
