-- Which row of a plant's graph stands at which number.
use Rattle.std.proofs.Common.{◌≡◌, ℕ, zero, suc, ◌+◌, ◌*◌, ◌<◌, ◌≤◌, false, ◌∷◌, ◌++◌, length, get_or, refl, sym, ap, ◌∙◌, subst, arith}
use Rattle.std.specs.List.{range_with_len, flat_map}
use Rattle.std.proofs.lemmas.List.{length-append, length-map, get_or_append_left, get_or-append-add, get_or-map}
use Rattle.std.proofs.lemmas.List.Sums.{sum_by_more}
use Rattle.plant_model.specs.declared.plant.Plant.{Plant}
use Rattle.plant_model.specs.Line.{no_stage, no_loop, loop_at, stage_at, stage_numbers, machine_numbers, release, machine_station}
use Rattle.plant_model.specs.Graph.{Row, worked_row, plain_row, onward, machine_rows, stage_rows, feed_row, policy_rows, loop_row, loop_rows, rows, graph}
use Rattle.event_graph.specs.Network.{arc_count, arc}
use Rattle.line_base.proofs.RangeLists.{flat_map-range_more, get_or-flat_map-range, length-flat_map-range}
use Rattle.plant_model.proofs.LayoutArcs.{entry_arc-all, entry_arc-next, entry_arc-le}
use Rattle.plant_model.specs.ArcNumbers.{entry_arc, delivery_arc, policy_arc, first_loop_arc}

-- what stands where a number names no row
abbrev pub no_row : Row
no_row = plain_row 0 0 0 0

-- row a of the plant is this one
pub record IsRowAt (p : Plant) (a : ℕ) (r : Row) : Type 0 where
  pub inside : a < length (rows p)
  pub there : get_or (rows p) a no_row ≡ r

-- arc a of the plant's graph goes from one station to another, and has this many tokens
pub record HasArc (p : Plant) (a from to tokens : ℕ) : Type 0 where
  pub inside : a < arc_count (graph p)
  pub from_is : (arc (graph p) a).from ≡ from
  pub to_is : (arc (graph p) a).to ≡ to
  pub tokens_are : (arc (graph p) a).tokens ≡ tokens

-- the arc of a row
pub HasArc-row : (p : Plant) (a : ℕ) (r : Row) → IsRowAt p a r → HasArc p a r.arc.from r.arc.to r.arc.tokens
unfolding graph
HasArc-row p a r row =
    let read = get_or-map (λ (s : Row). s.arc) (rows p) a no_row (record { from = 0; to = 0; tokens = 0; worked = false }) row.inside in
    let same = read ∙ ap (λ (s : Row). s.arc) row.there in
    record {
      inside = omega (arith, row.inside, length-map (rows p) (λ (s : Row). s.arc));
      from_is = ap (λ a. a.from) same;
      to_is = ap (λ a. a.to) same;
      tokens_are = ap (λ a. a.tokens) same;
    }

-- a stage has one row and three a machine
pub length-stage_rows : (p : Plant) (i : ℕ) → length (stage_rows p i) ≡ 1 + 3 * length (stage_at p i).machines
length-stage_rows p i =
    omega (arith, length-flat_map-range (machine_rows p i) 3 (length (stage_at p i).machines) (λ j. refl))

-- the rows of the first stages are as many as their arcs
length-stages : (p : Plant) (n : ℕ) → n ≤ length p.stages → length (flat_map (stage_rows p) (range_with_len 0 n)) ≡ entry_arc p n
length-stages p zero below = refl
length-stages p (suc n) below =
    let before = length-stages p n (omega arith) in
    let e : n + 1 ≡ suc n = omega arith in
    let joined = ap length (flat_map-range_more (stage_rows p) n) ∙ length-append (flat_map (stage_rows p) (range_with_len 0 n)) (stage_rows p n) in
    let here = length-stage_rows p n in
    let more = sum_by_more (λ s. 1 + 3 * length s.machines) p.stages n no_stage below in
    let all : length (flat_map (stage_rows p) (range_with_len 0 (n + 1))) ≡ entry_arc p (n + 1) = omega arith in
    subst (λ m. length (flat_map (stage_rows p) (range_with_len 0 m)) ≡ entry_arc p m) e all

-- how many rows there are
pub length-rows : (p : Plant) → length (rows p) ≡ policy_arc p + length (policy_rows p) + length p.loops
unfolding rows
length-rows p =
    let stages = flat_map (stage_rows p) (stage_numbers p) in
    let joined = length-append stages (feed_row p ∷ (policy_rows p ++ loop_rows p)) in
    let rest = length-append (policy_rows p) (loop_rows p) in
    let loops = length-map p.loops (loop_row p) in
    let counted = length-stages p (length p.stages) (omega arith) in
    omega (arith, entry_arc-all p)

-- row j of stage i
pub stage_row-at : (p : Plant) (i j : ℕ) (r : Row) → i < length p.stages → j < length (stage_rows p i) → get_or (stage_rows p i) j no_row ≡ r → IsRowAt p (entry_arc p i + j) r
unfolding rows
stage_row-at p i j r below inside is =
    let n = length p.stages in
    let stages = flat_map (stage_rows p) (stage_numbers p) in
    let rest = feed_row p ∷ (policy_rows p ++ loop_rows p) in
    let before = length-stages p i (omega arith) in
    let counted = length-stages p n (omega arith) in
    let within : entry_arc p i + j < length stages = omega (arith, length-stage_rows p i, entry_arc-next p i below, entry_arc-le p (i + 1), entry_arc-all p) in
    let read = get_or-flat_map-range (stage_rows p) n i j no_row below inside in
    let read_2 = ap (λ k. get_or stages (k + j) no_row) (sym before) ∙ read in
    record {
      inside = omega (arith, length-append stages rest);
      there = get_or_append_left stages rest no_row (entry_arc p i + j) within ∙ read_2 ∙ is;
    }

-- row k after that of the delivery
later_row : (p : Plant) (k : ℕ) (r : Row) → k < length (policy_rows p ++ loop_rows p) → get_or (policy_rows p ++ loop_rows p) k no_row ≡ r → IsRowAt p (policy_arc p + k) r
unfolding rows
later_row p k r below is =
    let stages = flat_map (stage_rows p) (stage_numbers p) in
    let later = policy_rows p ++ loop_rows p in
    let rest = feed_row p ∷ later in
    let counted : length stages ≡ delivery_arc p = length-stages p (length p.stages) (omega arith) ∙ entry_arc-all p in
    let read : get_or (stages ++ rest) (length stages + suc k) no_row ≡ get_or later k no_row = get_or-append-add stages rest (suc k) no_row in
    let at : policy_arc p + k ≡ length stages + suc k = omega arith in
    record {
      inside = omega (arith, length-append stages rest);
      there = ap (λ a. get_or (stages ++ rest) a no_row) at ∙ read ∙ is;
    }

-- row k of the policy
pub policy_row-at : (p : Plant) (k : ℕ) (r : Row) → k < length (policy_rows p) → get_or (policy_rows p) k no_row ≡ r → IsRowAt p (policy_arc p + k) r
policy_row-at p k r below is =
    later_row p k r (omega (arith, length-append (policy_rows p) (loop_rows p))) (get_or_append_left (policy_rows p) (loop_rows p) no_row k below ∙ is)

-- the row of loop k
pub loop_row-at : (p : Plant) (k : ℕ) → k < length p.loops → IsRowAt p (first_loop_arc p + k) (loop_row p (loop_at p k))
loop_row-at p k below =
    let policy = policy_rows p in
    let loops = length-map p.loops (loop_row p) in
    let read = get_or-append-add policy (loop_rows p) k no_row ∙ get_or-map (loop_row p) p.loops k no_loop no_row below in
    let found = later_row p (length policy + k) (loop_row p (loop_at p k)) (omega (arith, length-append policy (loop_rows p))) read in
    let at : policy_arc p + (length policy + k) ≡ first_loop_arc p + k = omega arith in
    subst (λ a. IsRowAt p a (loop_row p (loop_at p k))) at found

-- the first row of stage i, and the third of its machine j
pub entry-at : (p : Plant) (i : ℕ) → i < length p.stages → IsRowAt p (entry_arc p i + 0) (worked_row (release p i) (machine_station p i 0) 0)
entry-at p i below = stage_row-at p i 0 _ below (omega (arith, length-stage_rows p i)) refl

pub onward-at : (p : Plant) (i j : ℕ) → i < length p.stages → j < length (stage_at p i).machines → IsRowAt p (entry_arc p i + 3 * (j + 1)) (onward p i j)
onward-at p i j below inside =
    let m = length (stage_at p i).machines in
    let machines = flat_map (machine_rows p i) (machine_numbers p i) in
    let before = length-flat_map-range (machine_rows p i) 3 j (λ k. refl) in
    let third : 2 < length (machine_rows p i j) = omega arith in
    let read = get_or-flat_map-range (machine_rows p i) m j 2 no_row inside third in
    let place : 3 * (j + 1) ≡ suc (length (flat_map (machine_rows p i) (range_with_len 0 j)) + 2) = omega arith in
    let found = ap (λ k. get_or (stage_rows p i) k no_row) place ∙ read in
    stage_row-at p i (3 * (j + 1)) (onward p i j) below (omega (arith, length-stage_rows p i)) found
