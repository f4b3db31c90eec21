-- The rows of a plant's graph, each with its kind: the rows are those of the graph, the kinds those of Kinds.antt, and
-- each row is what its kind says.
use Rattle.std.proofs.Common.{◌≡◌, ℕ, zero, suc, ◌+◌, ◌-◌, ◌<◌, ◌≤◌, true, false, eqb, List, [], ◌∷◌, ◌++◌, map, length, get_or, refl, sym, ap, ◌∙◌, subst, arith, inl, inr}
use Rattle.std.specs.Prelude.{Option, None, Some}
use Rattle.std.specs.Option.{option_map_or}
use Rattle.std.specs.List.{All, flat_map}
use Rattle.std.proofs.lemmas.Bool.{cond_both, cases_lt, false≢true}
use Rattle.std.proofs.lemmas.List.{map-append, length-append, length-map, get_or_append_left, get_or-append-add, get_or-map}
use Rattle.std.proofs.lemmas.List.Elements.{All-nil, All-cons, All-map}
use Rattle.std.proofs.lemmas.Simd.{map-map}
use Rattle.line_base.proofs.RangeLists.{All-flat_map-range}
use Rattle.line_base.specs.declared.event.Arc.{Arc}
use Rattle.line_base.specs.declared.event.Parts.{Parts}
use Rattle.event_graph.specs.Network.{arc, arc_count}
use Rattle.plant_model.specs.declared.plant.Policy.{Policy}
use Rattle.plant_model.specs.declared.plant.Policy.TheVariants.{Kanban, Conwip, BaseStock, Extended}
use Rattle.plant_model.specs.declared.plant.Plant.{Plant}
use Rattle.plant_model.specs.Line.{stage_at, machine_at, stage_numbers, machine_numbers, release, machine_station, deliver, next, receiver, starting, first_stages}
use Rattle.plant_model.specs.ArcNumbers.{delivery_arc, policy_arc, first_loop_arc}
use Rattle.plant_model.specs.Graph.{Row, worked_row, plain_row, onward, stage_rows, feed_row, card_row, demand_row, line_card_row, policy_rows, loop_row, rows, graph}
use Rattle.plant_model.specs.Sound.{IsSound}
use Rattle.plant_model.proofs.LayoutStations.{receiver-above}
use Rattle.circuit_sums.proofs.RowNumbers.{no_row, length-rows}
use Rattle.date_causes.specs.declared.kind.ArcKind.{ArcKind}
use Rattle.date_causes.specs.declared.kind.ArcKind.TheVariants.{Part, Server, Order, Demand, Card, Loop}
use Rattle.date_causes.specs.Kinds.{stage_kinds, policy_kinds, kinds, kind_at, IsOwn, IsLike, IsOfKind}
use Rattle.date_causes.specs.Caused.{IsOfPlant}

record KindedRow : Type 0 where
  row : Row
  kind : ArcKind

abbrev kinded : ArcKind → Row → KindedRow
kinded kind row = record { row = row; kind = kind }

abbrev row_of : KindedRow → Row
row_of k = k.row

abbrev kind_of : KindedRow → ArcKind
kind_of k = k.kind

-- ---- all rows with their kinds

abbrev machine_part : Plant → ℕ → ℕ → List KindedRow
machine_part p i j =
    kinded Server (worked_row (machine_station p i j) (machine_station p i j) (machine_at p i j).servers)
    ∷ kinded Order (plain_row (machine_station p i j) (machine_station p i j) 1 0)
    ∷ kinded Part (onward p i j)
    ∷ []

abbrev stage_part : Plant → ℕ → List KindedRow
stage_part p i =
    kinded Part (worked_row (release p i) (machine_station p i 0) 0) ∷ flat_map (machine_part p i) (machine_numbers p i)

abbrev stages_part : Plant → List KindedRow
stages_part p = flat_map (stage_part p) (stage_numbers p)

abbrev extended_card : Plant → ℕ → Row
extended_card p i = card_row p ((stage_at p i).cards - starting p i) i

abbrev policy_part : Policy → Plant → List KindedRow
policy_part Kanban p = map (λ i. kinded Card (card_row p 0 i)) (stage_numbers p)
policy_part (Conwip cards) p = map (λ i. kinded Card (line_card_row p i)) (first_stages p)
policy_part BaseStock p = map (λ i. kinded Demand (demand_row p i)) (stage_numbers p)
policy_part Extended p =
    flat_map (λ i. kinded Demand (demand_row p i) ∷ kinded Card (extended_card p i) ∷ []) (stage_numbers p)

abbrev loops_part : Plant → List KindedRow
loops_part p = map (λ l. kinded Loop (loop_row p l)) p.loops

abbrev later_part : Plant → List KindedRow
later_part p = policy_part p.policy p ++ loops_part p

abbrev all_parts : Plant → List KindedRow
all_parts p = stages_part p ++ kinded Demand (feed_row p) ∷ later_part p

-- ---- what they are

map-flat_map : {X Y Z : Type 0} (part : Y → Z) (f : X → List Y) (xs : List X) → map part (flat_map f xs) ≡ flat_map (λ x. map part (f x)) xs
map-flat_map part f [] = refl
map-flat_map part f (x ∷ xs) =
    map-append part (f x) (flat_map f xs) ∙ ap (λ ys. map part (f x) ++ ys) (map-flat_map part f xs)

flat_map-same : {X Y : Type 0} (f h : X → List Y) (xs : List X) → ((x : X) → f x ≡ h x) → flat_map f xs ≡ flat_map h xs
flat_map-same f h [] same = refl
flat_map-same f h (x ∷ xs) same = ap (λ ys. ys ++ flat_map f xs) (same x) ∙ ap (λ ys. h x ++ ys) (flat_map-same f h xs same)

abbrev with_policy : Policy → Plant → Plant
with_policy policy p = record p { policy = policy }

parts-joined : {Z : Type 0} (part : KindedRow → Z) (p : Plant) → map part (all_parts p) ≡ map part (stages_part p) ++ part (kinded Demand (feed_row p)) ∷ (map part (policy_part p.policy p) ++ map part (loops_part p))
parts-joined part p =
    map-append part (stages_part p) (kinded Demand (feed_row p) ∷ later_part p)
    ∙ ap (λ ys. map part (stages_part p) ++ part (kinded Demand (feed_row p)) ∷ ys) (map-append part (policy_part p.policy p) (loops_part p))

-- what is known of each row of the policy, and of all rows
abbrev policy_told : {Z : Type 0} → (KindedRow → Z) → Policy → Plant → List Z
policy_told part Kanban p = map (λ i. part (kinded Card (card_row p 0 i))) (stage_numbers p)
policy_told part (Conwip cards) p = map (λ i. part (kinded Card (line_card_row p i))) (first_stages p)
policy_told part BaseStock p = map (λ i. part (kinded Demand (demand_row p i))) (stage_numbers p)
policy_told part Extended p =
    flat_map (λ i. part (kinded Demand (demand_row p i)) ∷ part (kinded Card (extended_card p i)) ∷ []) (stage_numbers p)

policy_part-known : {Z : Type 0} (part : KindedRow → Z) (policy : Policy) (p : Plant) → map part (policy_part policy p) ≡ policy_told part policy p
policy_part-known part Kanban p = map-map part (λ i. kinded Card (card_row p 0 i)) (stage_numbers p)
policy_part-known part (Conwip cards) p = map-map part (λ i. kinded Card (line_card_row p i)) (first_stages p)
policy_part-known part BaseStock p = map-map part (λ i. kinded Demand (demand_row p i)) (stage_numbers p)
policy_part-known part Extended p =
    map-flat_map part (λ i. kinded Demand (demand_row p i) ∷ kinded Card (extended_card p i) ∷ []) (stage_numbers p)

all_parts-known : {Z : Type 0} (part : KindedRow → Z) (p : Plant) (stages policy loops : List Z) → map part (stages_part p) ≡ stages → map part (policy_part p.policy p) ≡ policy → map part (loops_part p) ≡ loops → map part (all_parts p) ≡ stages ++ part (kinded Demand (feed_row p)) ∷ (policy ++ loops)
all_parts-known part p stages policy loops of_stages of_policy of_loops =
    parts-joined part p
    ∙ ap (λ ys. ys ++ part (kinded Demand (feed_row p)) ∷ (map part (policy_part p.policy p) ++ map part (loops_part p))) of_stages
    ∙ ap (λ ys. stages ++ part (kinded Demand (feed_row p)) ∷ (ys ++ map part (loops_part p))) of_policy
    ∙ ap (λ ys. stages ++ part (kinded Demand (feed_row p)) ∷ (policy ++ ys)) of_loops

stage_part-rows : (p : Plant) (i : ℕ) → map row_of (stage_part p i) ≡ stage_rows p i
stage_part-rows p i =
    ap (λ ys. worked_row (release p i) (machine_station p i 0) 0 ∷ ys) (map-flat_map row_of (machine_part p i) (machine_numbers p i))

stages_part-rows : (p : Plant) → map row_of (stages_part p) ≡ flat_map (stage_rows p) (stage_numbers p)
stages_part-rows p =
    map-flat_map row_of (stage_part p) (stage_numbers p)
    ∙ flat_map-same (λ i. map row_of (stage_part p i)) (stage_rows p) (stage_numbers p) (stage_part-rows p)

stage_part-kinds : (p : Plant) (i : ℕ) → map kind_of (stage_part p i) ≡ stage_kinds p i
stage_part-kinds p i = ap (λ ys. Part ∷ ys) (map-flat_map kind_of (machine_part p i) (machine_numbers p i))

stages_part-kinds : (p : Plant) → map kind_of (stages_part p) ≡ flat_map (stage_kinds p) (stage_numbers p)
stages_part-kinds p =
    map-flat_map kind_of (stage_part p) (stage_numbers p)
    ∙ flat_map-same (λ i. map kind_of (stage_part p i)) (stage_kinds p) (stage_numbers p) (stage_part-kinds p)

policy_part-rows : (p : Plant) (policy : Policy) → map row_of (policy_part policy (with_policy policy p)) ≡ policy_rows (with_policy policy p)
policy_part-rows p Kanban = policy_part-known row_of Kanban (with_policy Kanban p)
policy_part-rows p (Conwip cards) = policy_part-known row_of (Conwip cards) (with_policy (Conwip cards) p)
policy_part-rows p BaseStock = policy_part-known row_of BaseStock (with_policy BaseStock p)
policy_part-rows p Extended = policy_part-known row_of Extended (with_policy Extended p)

policy_part-kinds : (p : Plant) (policy : Policy) → map kind_of (policy_part policy (with_policy policy p)) ≡ policy_kinds (with_policy policy p)
policy_part-kinds p Kanban = policy_part-known kind_of Kanban (with_policy Kanban p)
policy_part-kinds p (Conwip cards) = policy_part-known kind_of (Conwip cards) (with_policy (Conwip cards) p)
policy_part-kinds p BaseStock = policy_part-known kind_of BaseStock (with_policy BaseStock p)
policy_part-kinds p Extended = policy_part-known kind_of Extended (with_policy Extended p)

all_parts-rows : (p : Plant) → map row_of (all_parts p) ≡ rows p
unfolding rows
all_parts-rows p =
    all_parts-known row_of p (flat_map (stage_rows p) (stage_numbers p)) (policy_rows p) (map (loop_row p) p.loops) (stages_part-rows p) (policy_part-rows p p.policy)
    (map-map row_of (λ l. kinded Loop (loop_row p l)) p.loops)

all_parts-kinds : (p : Plant) → map kind_of (all_parts p) ≡ kinds p
unfolding kinds
all_parts-kinds p =
    all_parts-known kind_of p (flat_map (stage_kinds p) (stage_numbers p)) (policy_kinds p) (map (λ l. Loop) p.loops) (stages_part-kinds p) (policy_part-kinds p p.policy)
    (map-map kind_of (λ l. kinded Loop (loop_row p l)) p.loops)

-- ---- each row is what its kind says

abbrev StageLike : Arc → ArcKind → Type 0
StageLike arc Part = (0 < arc.from) × (arc.from < arc.to)
StageLike arc Server = (0 < arc.from) × IsOwn arc true
StageLike arc Order = (0 < arc.from) × IsOwn arc false
StageLike arc Demand = ⊥
StageLike arc Card = ⊥
StageLike arc Loop = ⊥

abbrev PolicyLike : Arc → ArcKind → Type 0
PolicyLike arc Part = ⊥
PolicyLike arc Server = ⊥
PolicyLike arc Order = ⊥
PolicyLike arc Demand = arc.from ≡ 0
PolicyLike arc Card = 0 < arc.from
PolicyLike arc Loop = ⊥

abbrev LoopLike : Arc → ArcKind → Type 0
LoopLike arc Part = ⊥
LoopLike arc Server = ⊥
LoopLike arc Order = ⊥
LoopLike arc Demand = ⊥
LoopLike arc Card = ⊥
LoopLike arc Loop = 0 < arc.from

abbrev IsStageLike : KindedRow → Type 0
IsStageLike k = StageLike k.row.arc k.kind

abbrev IsPolicyLike : KindedRow → Type 0
IsPolicyLike k = PolicyLike k.row.arc k.kind

abbrev IsLoopLike : KindedRow → Type 0
IsLoopLike k = LoopLike k.row.arc k.kind

receiver-later : (p : Plant) (i : ℕ) → 0 < receiver p i
receiver-later p i = by_next (next p i)
  where
    by_next : (o : Option ℕ) → 0 < option_map_or (release p) o (deliver p)
    by_next None = omega arith
    by_next (Some j) = omega arith

onward-later : (p : Plant) (i j : ℕ) → IsSound p → i < length p.stages → j < length (stage_at p i).machines → StageLike (onward p i j).arc Part
onward-later p i j sound below inside =
    let up = receiver-above p i sound below in
    cond_both (eqb (j + 1) (length (stage_at p i).machines))
    (plain_row (machine_station p i j) (receiver p i) (starting p i) (stage_at p i).travel)
    (worked_row (machine_station p i j) (machine_station p i (j + 1)) 0)
    (λ r. StageLike r.arc Part)
    (λ last. (omega arith, omega (arith, up.0)))
    (λ inner. (omega arith, omega arith))

stages-like : (p : Plant) → IsSound p → All IsStageLike (stages_part p)
stages-like p sound =
    All-flat_map-range IsStageLike (stage_part p) (length p.stages) (λ i below.
    let entry : IsStageLike (kinded Part (worked_row (release p i) (machine_station p i 0) 0)) = (omega arith, omega arith) in
    let machines = All-flat_map-range IsStageLike (machine_part p i) (length (stage_at p i).machines) (λ j inside.
    All-cons IsStageLike (kinded Server (worked_row (machine_station p i j) (machine_station p i j) (machine_at p i j).servers)) (kinded Order (plain_row (machine_station p i j) (machine_station p i j) 1 0) ∷ kinded Part (onward p i j) ∷ []) (omega arith, record { own = refl; worked_is = refl }) (
    All-cons IsStageLike (kinded Order (plain_row (machine_station p i j) (machine_station p i j) 1 0)) (kinded Part (onward p i j) ∷ []) (omega arith, record { own = refl; worked_is = refl }) (
    All-cons IsStageLike (kinded Part (onward p i j)) [] (onward-later p i j sound below inside) (All-nil IsStageLike)))) in
    All-cons IsStageLike (kinded Part (worked_row (release p i) (machine_station p i 0) 0)) (flat_map (machine_part p i) (machine_numbers p i)) entry machines)

policy-like : (p : Plant) (policy : Policy) → All IsPolicyLike (policy_part policy p)
policy-like p Kanban =
    All-map IsPolicyLike (λ i. kinded Card (card_row p 0 i)) (stage_numbers p) (λ k d low. receiver-later p (get_or (stage_numbers p) k d))
policy-like p (Conwip cards) =
    All-map IsPolicyLike (λ i. kinded Card (line_card_row p i)) (first_stages p) (λ k d low. omega arith)
policy-like p BaseStock = All-map IsPolicyLike (λ i. kinded Demand (demand_row p i)) (stage_numbers p) (λ k d low. refl)
policy-like p Extended =
    All-flat_map-range IsPolicyLike (λ i. kinded Demand (demand_row p i) ∷ kinded Card (extended_card p i) ∷ []) (length p.stages) (λ i below.
    All-cons IsPolicyLike (kinded Demand (demand_row p i)) (kinded Card (extended_card p i) ∷ []) refl (
    All-cons IsPolicyLike (kinded Card (extended_card p i)) [] (receiver-later p i) (All-nil IsPolicyLike)))

loops-like : (p : Plant) → All IsLoopLike (loops_part p)
loops-like p = All-map IsLoopLike (λ l. kinded Loop (loop_row p l)) p.loops (λ k d low. receiver-later p (get_or p.loops k d).last)

-- ---- where the rows stand

length-stages_part : (p : Plant) → length (stages_part p) ≡ delivery_arc p
length-stages_part p =
    let all = length-map (all_parts p) row_of in
    let joined = length-append (stages_part p) (kinded Demand (feed_row p) ∷ later_part p) in
    let later = length-append (policy_part p.policy p) (loops_part p) in
    let policy = length-map (policy_part p.policy p) row_of in
    let loops = length-map p.loops (λ l. kinded Loop (loop_row p l)) in
    omega (arith, all, ap length (all_parts-rows p), length-rows p, joined, later, policy, ap length (policy_part-rows p p.policy), loops)

length-policy_part : (p : Plant) → length (policy_part p.policy p) ≡ length (policy_rows p)
length-policy_part p =
    omega (arith, length-map (policy_part p.policy p) row_of, ap length (policy_part-rows p p.policy))

stage_is_like : (p : Plant) (a : ℕ) (arc : Arc) (kind : ArcKind) → a < delivery_arc p → StageLike arc kind → IsLike p a arc kind
stage_is_like p a arc Part low like = (record { low = low; from_stage = like.0 }, like.1)
stage_is_like p a arc Server low like = (record { low = low; from_stage = like.0 }, like.1)
stage_is_like p a arc Order low like = (record { low = low; from_stage = like.0 }, like.1)
stage_is_like p a arc Demand low like = absurd like
stage_is_like p a arc Card low like = absurd like
stage_is_like p a arc Loop low like = absurd like

policy_is_like : (p : Plant) (a : ℕ) (arc : Arc) (kind : ArcKind) → policy_arc p ≤ a → a < first_loop_arc p → PolicyLike arc kind → IsLike p a arc kind
policy_is_like p a arc Part low high like = absurd like
policy_is_like p a arc Server low high like = absurd like
policy_is_like p a arc Order low high like = absurd like
policy_is_like p a arc Demand low high like = like
policy_is_like p a arc Card low high like = record { high = low; low = high; from_line = like }
policy_is_like p a arc Loop low high like = absurd like

loop_is_like : (p : Plant) (a : ℕ) (arc : Arc) (kind : ArcKind) → first_loop_arc p ≤ a → LoopLike arc kind → IsLike p a arc kind
loop_is_like p a arc Part low like = absurd like
loop_is_like p a arc Server low like = absurd like
loop_is_like p a arc Order low like = absurd like
loop_is_like p a arc Demand low like = absurd like
loop_is_like p a arc Card low like = absurd like
loop_is_like p a arc Loop low like = record { high = low; from_line = like }

abbrev no_part : KindedRow
no_part = kinded Part no_row

abbrev LikeRow : Plant → ℕ → KindedRow → Type 0
LikeRow p a k = IsLike p a k.row.arc k.kind

later-like : (p : Plant) (a k : ℕ) → a ≡ policy_arc p + k → k < length (later_part p) → LikeRow p a (get_or (later_part p) k no_part)
later-like p a k at inside =
    let policy = policy_part p.policy p in
    let loops = loops_part p in
    let n = length-policy_part p in
    elim (cases_lt k (length policy)) [
      | inl low ↦
          let here = policy-like p p.policy k no_part low in
          subst (LikeRow p a) (sym (get_or_append_left policy loops no_part k low))
          (policy_is_like p a (get_or policy k no_part).row.arc (get_or policy k no_part).kind (omega (arith, at)) (omega (arith, at, n)) here)
      | inr high ↦
          let m = k - length policy in
          let at_loop : k ≡ length policy + m = omega arith in
          let there : m < length loops = omega (arith, length-append policy loops) in
          let here = loops-like p m no_part there in
          let read = ap (λ j. get_or (later_part p) j no_part) at_loop ∙ get_or-append-add policy loops m no_part in
          subst (LikeRow p a) (sym read)
          (loop_is_like p a (get_or loops m no_part).row.arc (get_or loops m no_part).kind (omega (arith, at, n)) here)
    ]

rest-like : (p : Plant) (a m : ℕ) → a ≡ delivery_arc p + m → m < suc (length (later_part p)) → LikeRow p a (get_or (kinded Demand (feed_row p) ∷ later_part p) m no_part)
rest-like p a zero at inside = refl
rest-like p a (suc k) at inside = later-like p a k (omega (arith, at)) (omega arith)

row-like : (p : Plant) → IsSound p → (a : ℕ) → a < length (all_parts p) → LikeRow p a (get_or (all_parts p) a no_part)
row-like p sound a inside =
    let stages = stages_part p in
    let rest = kinded Demand (feed_row p) ∷ later_part p in
    let n = length-stages_part p in
    elim (cases_lt a (length stages)) [
      | inl low ↦
          let here = stages-like p sound a no_part low in
          subst (LikeRow p a) (sym (get_or_append_left stages rest no_part a low))
          (stage_is_like p a (get_or stages a no_part).row.arc (get_or stages a no_part).kind (omega (arith, n)) here)
      | inr high ↦
          let m = a - length stages in
          let at : a ≡ length stages + m = omega arith in
          let read = ap (λ j. get_or (all_parts p) j no_part) at ∙ get_or-append-add stages rest m no_part in
          subst (LikeRow p a) (sym read) (rest-like p a m (omega (arith, n)) (omega (arith, length-append stages rest)))
    ]

count-parts : (p : Plant) → length (all_parts p) ≡ arc_count (graph p)
unfolding graph
count-parts p =
    omega (arith, length-map (all_parts p) row_of, ap length (all_parts-rows p), length-map (rows p) (λ r. r.arc))

arc-read : (p : Plant) (a : ℕ) → a < length (all_parts p) → arc (graph p) a ≡ (get_or (all_parts p) a no_part).row.arc
unfolding graph
arc-read p a inside =
    let none : Arc = record { from = 0; to = 0; tokens = 0; worked = false } in
    ap (λ rs. get_or (map (λ r. r.arc) rs) a none) (sym (all_parts-rows p))
    ∙ get_or-map (λ r. r.arc) (map row_of (all_parts p)) a no_row none (omega (arith, length-map (all_parts p) row_of))
    ∙ ap (λ (r : Row). r.arc) (get_or-map row_of (all_parts p) a no_part no_row inside)

kind-read : (p : Plant) (a : ℕ) → a < length (all_parts p) → kind_at p a ≡ (get_or (all_parts p) a no_part).kind
kind-read p a inside =
    ap (λ ks. get_or ks a Part) (sym (all_parts-kinds p)) ∙ get_or-map kind_of (all_parts p) a no_part Part inside

pub arc_of_kind : (p : Plant) → IsSound p → (a : ℕ) → a < arc_count (graph p) → IsOfKind p a (kind_at p a)
arc_of_kind p sound a there =
    let inside : a < length (all_parts p) = omega (arith, count-parts p) in
    subst (λ k. IsLike p a (arc (graph p) a) k) (sym (kind-read p a inside)) (
    subst (λ b. IsLike p a b (get_or (all_parts p) a no_part).kind) (sym (arc-read p a inside)) (row-like p sound a inside))

-- ---- the kind of an arc that is like this

-- the arc that was read, and the kind of its row
pub like_read : (p numbers : Plant) (g : Parts) (a : ℕ) (b : Arc) → IsOfPlant p numbers g → a < arc_count g → b ≡ arc g a → IsLike p a b (kind_at p a)
like_read p numbers g a b of there read =
    let same : b ≡ arc (graph p) a = read ∙ ap (λ (h : Parts). arc h a) of.graph_is in
    let inside : a < arc_count (graph p) = omega (arith, ap arc_count of.graph_is) in
    subst (λ c. IsLike p a c (kind_at p a)) (sym same) (arc_of_kind p of.sound a inside)

module _ (p : Plant) (a : ℕ) (arc : Arc) where
  pub demand_kind : (kind : ArcKind) → IsLike p a arc kind → arc.from ≡ 0 → Demand ≡ kind
  demand_kind Part like feed = absurd (omega (arith, like.0.from_stage))
  demand_kind Server like feed = absurd (omega (arith, like.0.from_stage))
  demand_kind Order like feed = absurd (omega (arith, like.0.from_stage))
  demand_kind Demand like feed = refl
  demand_kind Card like feed = absurd (omega (arith, like.from_line))
  demand_kind Loop like feed = absurd (omega (arith, like.from_line))

  pub card_kind : (kind : ArcKind) → IsLike p a arc kind → (arc.from ≡ 0 → ⊥) → policy_arc p ≤ a → a < first_loop_arc p → Card ≡ kind
  card_kind Part like line high low = absurd (omega (arith, like.0.low))
  card_kind Server like line high low = absurd (omega (arith, like.0.low))
  card_kind Order like line high low = absurd (omega (arith, like.0.low))
  card_kind Demand like line high low = absurd (line like)
  card_kind Card like line high low = refl
  card_kind Loop like line high low = absurd (omega (arith, like.high))

  pub loop_kind : (kind : ArcKind) → IsLike p a arc kind → (arc.from ≡ 0 → ⊥) → first_loop_arc p ≤ a → Loop ≡ kind
  loop_kind Part like line high = absurd (omega (arith, like.0.low))
  loop_kind Server like line high = absurd (omega (arith, like.0.low))
  loop_kind Order like line high = absurd (omega (arith, like.0.low))
  loop_kind Demand like line high = absurd (line like)
  loop_kind Card like line high = absurd (omega (arith, like.low))
  loop_kind Loop like line high = refl

  pub part_kind : (kind : ArcKind) → IsLike p a arc kind → (arc.from ≡ 0 → ⊥) → a < policy_arc p → (arc.from ≡ arc.to → ⊥) → Part ≡ kind
  part_kind Part like line low other = refl
  part_kind Server like line low other = absurd (other like.1.own)
  part_kind Order like line low other = absurd (other like.1.own)
  part_kind Demand like line low other = absurd (line like)
  part_kind Card like line low other = absurd (omega (arith, like.high))
  part_kind Loop like line low other = absurd (omega (arith, like.high))

  pub server_kind : (kind : ArcKind) → IsLike p a arc kind → (arc.from ≡ 0 → ⊥) → a < policy_arc p → arc.from ≡ arc.to → arc.worked ≡ true → Server ≡ kind
  server_kind Part like line low own works = absurd (omega (arith, like.1, own))
  server_kind Server like line low own works = refl
  server_kind Order like line low own works = absurd (false≢true (sym like.1.worked_is ∙ works))
  server_kind Demand like line low own works = absurd (line like)
  server_kind Card like line low own works = absurd (omega (arith, like.high))
  server_kind Loop like line low own works = absurd (omega (arith, like.high))

  pub order_kind : (kind : ArcKind) → IsLike p a arc kind → (arc.from ≡ 0 → ⊥) → a < policy_arc p → arc.from ≡ arc.to → arc.worked ≡ false → Order ≡ kind
  order_kind Part like line low own works = absurd (omega (arith, like.1, own))
  order_kind Server like line low own works = absurd (false≢true (sym works ∙ like.1.worked_is))
  order_kind Order like line low own works = refl
  order_kind Demand like line low own works = absurd (line like)
  order_kind Card like line low own works = absurd (omega (arith, like.high))
  order_kind Loop like line low own works = absurd (omega (arith, like.high))
