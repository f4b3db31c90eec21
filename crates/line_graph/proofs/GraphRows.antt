-- What holds of each kind of row holds of all rows of a plant's graph.
use Rattle.std.proofs.Common.{◌≡◌, ℕ, ◌-◌, ◌<◌, true, [], ◌∷◌, ◌++◌, length, get_or, refl}
use Rattle.std.specs.List.{All, flat_map}
use Rattle.std.proofs.lemmas.List.Elements.{All-nil, All-cons, All-append, All-map}
use Rattle.plant_model.specs.declared.plant.Policy.{Policy}
use Rattle.plant_model.specs.declared.plant.Policy.TheVariants.{Kanban, Conwip, BaseStock, Extended}
use Rattle.plant_model.specs.declared.plant.CardLoop.{CardLoop}
use Rattle.plant_model.specs.declared.plant.Plant.{Plant}
use Rattle.plant_model.specs.Line.{stage_at, machine_at, stage_numbers, machine_numbers, release, machine_station, starting, is_first}
use Rattle.plant_model.specs.Graph.{Row, worked_row, plain_row, onward, machine_rows, stage_rows, feed_row, card_row, demand_row, line_card_row, loop_row, policy_rows, loop_rows, rows}
use Rattle.line_base.proofs.RangeLists.{All-map-range, All-map-filter, All-flat_map-range}
use Rattle.line_graph.proofs.PolicyRows.{policy_rows-kanban, policy_rows-base_stock, policy_rows-extended, policy_rows-conwip}

-- P holds of each row of the plant's policy
pub record EachPolicyRow (P : Row → Type 0) (p : Plant) : Type 0 where
  pub kanban : p.policy ≡ Kanban → (i : ℕ) → i < length p.stages → P (card_row p 0 i)
  pub base_stock : p.policy ≡ BaseStock → (i : ℕ) → i < length p.stages → P (demand_row p i)
  pub extended_demand : p.policy ≡ Extended → (i : ℕ) → i < length p.stages → P (demand_row p i)
  pub extended_card :
      p.policy ≡ Extended → (i : ℕ) → i < length p.stages → P (card_row p ((stage_at p i).cards - starting p i) i)
  pub conwip : (cards : ℕ) → p.policy ≡ Conwip cards → (i : ℕ) → i < length p.stages → is_first p i ≡ true → P (line_card_row p i)

pub All-policy_rows : (P : Row → Type 0) (p : Plant) → EachPolicyRow P p → All P (policy_rows p)
All-policy_rows P p each = by_policy p.policy refl
  where
    by_policy : (policy : Policy) → p.policy ≡ policy → All P (policy_rows p)
    by_policy Kanban is =
        rw (policy_rows-kanban p is) (All-map-range P (card_row p 0) (length p.stages) (each.kanban is))
    by_policy (Conwip cards) is =
        rw (policy_rows-conwip p cards is) (All-map-filter P (line_card_row p) (is_first p) (length p.stages) (each.conwip cards is))
    by_policy BaseStock is =
        rw (policy_rows-base_stock p is) (All-map-range P (demand_row p) (length p.stages) (each.base_stock is))
    by_policy Extended is =
        let card = λ (i : ℕ). card_row p ((stage_at p i).cards - starting p i) i in
        let both = λ (i : ℕ). λ (below : i < length p.stages). All-cons P (demand_row p i) (card i ∷ []) (each.extended_demand is i below) (All-cons P (card i) [] (each.extended_card is i below) (All-nil P)) in
        rw (policy_rows-extended p is) (All-flat_map-range P (λ i. demand_row p i ∷ card i ∷ []) (length p.stages) both)

All-three : (P : Row → Type 0) (a b c : Row) → P a → P b → P c → All P (a ∷ b ∷ c ∷ [])
All-three P a b c h_a h_b h_c = All-cons P a (b ∷ c ∷ []) h_a (All-cons P b (c ∷ []) h_b (All-cons P c [] h_c (All-nil P)))

-- P holds of each row of a stage, and of its machines
pub record EachStageRow (P : Row → Type 0) (p : Plant) (i : ℕ) : Type 0 where
  pub entry : P (worked_row (release p i) (machine_station p i 0) 0)
  pub servers : (j : ℕ) → j < length (stage_at p i).machines → P (worked_row (machine_station p i j) (machine_station p i j) (machine_at p i j).servers)
  pub order : (j : ℕ) → j < length (stage_at p i).machines → P (plain_row (machine_station p i j) (machine_station p i j) 1 0)
  pub onward : (j : ℕ) → j < length (stage_at p i).machines → P (onward p i j)

pub All-stage_rows : (P : Row → Type 0) (p : Plant) (i : ℕ) → EachStageRow P p i → All P (stage_rows p i)
All-stage_rows P p i each =
    let machine = λ (j : ℕ). λ (below : j < length (stage_at p i).machines).
    All-three P _ _ (onward p i j) (each.servers j below) (each.order j below) (each.onward j below)
    in
    let machines = All-flat_map-range P (machine_rows p i) (length (stage_at p i).machines) machine in
    All-cons P _ (flat_map (machine_rows p i) (machine_numbers p i)) each.entry machines

-- P holds of each row of the graph
pub record EachRow (P : Row → Type 0) (p : Plant) : Type 0 where
  pub stages : (i : ℕ) → i < length p.stages → EachStageRow P p i
  pub feed : P (feed_row p)
  pub policy : EachPolicyRow P p
  pub loops : (k : ℕ) (d : CardLoop) → k < length p.loops → P (loop_row p (get_or p.loops k d))

pub All-rows : (P : Row → Type 0) (p : Plant) → EachRow P p → All P (rows p)
unfolding rows
All-rows P p each =
    let stages = All-flat_map-range P (stage_rows p) (length p.stages) (λ i below. All-stage_rows P p i (each.stages i below)) in
    let policy = All-policy_rows P p each.policy in
    let loops = All-map P (loop_row p) p.loops each.loops in
    let rest = All-cons P (feed_row p) (policy_rows p ++ loop_rows p) each.feed (All-append P (policy_rows p) (loop_rows p) policy loops) in
    All-append P (flat_map (stage_rows p) (stage_numbers p)) _ stages rest
