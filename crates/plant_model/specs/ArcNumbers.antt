-- The numbers of the arcs of a plant's graph, over the order of its rows: those of the stages, the demand of the
-- delivery, the policy's, the loops'.
use Rattle.std.specs.Prelude.{ℕ, ◌+◌, ◌*◌, List, length, take, map, sum_by, count_by}
use Rattle.std.specs.List.{range_with_len, flat_map}
use Rattle.plant_model.specs.Stages.{Stage}
use Rattle.plant_model.specs.declared.plant.Plant.{Plant}
use Rattle.plant_model.specs.Line.{stage_at, is_first, path, up_to}
use Rattle.plant_model.specs.Graph.{policy_rows}

-- how many arcs stages have: each one into its first machine, and three a machine
abbrev pub arcs_in : List Stage → ℕ
arcs_in stages = sum_by (λ s. 1 + 3 * length s.machines) stages

-- the arc from the release of stage i to its first machine, which comes after those of the stages before
abbrev pub entry_arc : Plant → ℕ → ℕ
entry_arc p i = arcs_in (take i p.stages)

-- the arcs on which the parts of stage i go on: from its release to its first machine, from each machine to the next,
-- and from the last one to what the stage feeds; a machine's two arcs to itself stand between
abbrev pub onward_arcs : Plant → ℕ → List ℕ
onward_arcs p i = map (λ k. entry_arc p i + 3 * k) (range_with_len 0 (length (stage_at p i).machines + 1))

-- those of these stages, one stage after the other
abbrev pub onward_arcs_of : Plant → List ℕ → List ℕ
onward_arcs_of p stages = flat_map (onward_arcs p) stages

-- those of the stages from a to b on the path of a
abbrev pub onward_arcs_between : Plant → ℕ → ℕ → List ℕ
onward_arcs_between p a b = onward_arcs_of p (up_to b (path p a))

-- the arc from the feed to the delivery, which comes after those of the stages
abbrev pub delivery_arc : Plant → ℕ
delivery_arc p = arcs_in p.stages

-- the first arc of the policy
abbrev pub policy_arc : Plant → ℕ
policy_arc p = delivery_arc p + 1

-- kanban: the arc of the cards of stage i, one a stage
abbrev pub kanban_arc : Plant → ℕ → ℕ
kanban_arc p i = policy_arc p + i

-- extended kanban: the arc of the cards of stage i, after that of its demands
abbrev pub extended_arc : Plant → ℕ → ℕ
extended_arc p i = policy_arc p + 2 * i + 1

-- CONWIP: the arc of the line's cards to the first stage i, one a first stage
abbrev pub conwip_arc : Plant → ℕ → ℕ
conwip_arc p i = policy_arc p + count_by (is_first p) (range_with_len 0 i)

-- the arc of the first loop, after those of the policy; those of the other loops follow
abbrev pub first_loop_arc : Plant → ℕ
first_loop_arc p = policy_arc p + length (policy_rows p)
