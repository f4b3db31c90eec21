-- The onward arcs of a stage, and of the stages of a part of a path, as walks.
use Rattle.std.proofs.Common.{◌≡◌, ℕ, zero, suc, ◌+◌, ◌-◌, ◌*◌, ◌<◌, ◌≤◌, Bool, true, false, cond, ◌==◌, List, [], ◌∷◌, length, map, Option, None, Some, refl, sym, ap, ◌∙◌, subst, ne_eqb, zero-add, add-one, arith}
use Rattle.std.specs.Prelude.{◌||◌, sum_by}
use Rattle.std.specs.Option.{option_map_or}
use Rattle.std.specs.List.{range_with_len}
use Rattle.std.proofs.lemmas.Bool.{eqb-true, eq-eqb}
use Rattle.std.proofs.lemmas.List.{append-nil}
use Rattle.std.proofs.lemmas.List.Sums.{sum_by-cons}
use Rattle.plant_model.specs.declared.plant.Plant.{Plant}
use Rattle.plant_model.specs.Line.{stage_at, release, machine_station, deliver, receiver, starting, next, path, up_to, is_downstream, path_stock, stock_between}
use Rattle.plant_model.specs.Graph.{worked_row, plain_row, onward, graph}
use Rattle.plant_model.specs.Sound.{IsSound}
use Rattle.plant_model.proofs.Soundness.{FeedsLater, IsSound-FeedsLater}
use Rattle.plant_model.proofs.Paths.{path-step, is_downstream-step}
use Rattle.plant_model.proofs.SoundPlants.{IsSoundStage-sound}
use Rattle.plant_model.proofs.LayoutStations.{receiver-above}
use Rattle.event_graph.specs.Circuit.{starting_stations}
use Rattle.plant_model.specs.ArcNumbers.{entry_arc, onward_arcs, onward_arcs_of}
use Rattle.circuit_sums.specs.Laws.{stations_of_stage}
use Rattle.circuit_sums.proofs.RowNumbers.{IsRowAt, HasArc, HasArc-row, entry-at, onward-at}
use Rattle.circuit_sums.proofs.Lines.{IsLine, IsLine-one, IsLine-append}

-- an arc, with its number, stations and tokens by other names
same_arc : (p : Plant) (a b from from_2 to to_2 tokens : ℕ) → HasArc p a from to tokens → a ≡ b → from ≡ from_2 → to ≡ to_2 → HasArc p b from_2 to_2 tokens
same_arc p a b from from_2 to to_2 tokens has e_a e_from e_to =
    let at_b : HasArc p b from to tokens = subst (λ c. HasArc p c from to tokens) e_a has in
    record {
      inside = at_b.inside;
      from_is = at_b.from_is ∙ e_from;
      to_is = at_b.to_is ∙ e_to;
      tokens_are = at_b.tokens_are;
    }

-- from the release or a machine to the next machine
passes : (p : Plant) (i k : ℕ) → i < length p.stages → k < length (stage_at p i).machines → HasArc p (entry_arc p i + 3 * k) (release p i + k) (release p i + (k + 1)) 0
passes p i zero below inside =
    same_arc p _ _ _ _ _ _ 0 (HasArc-row p _ _ (entry-at p i below)) (omega arith) (omega arith) (omega arith)
passes p i (suc j) below inside =
    let m = length (stage_at p i).machines in
    let other : j + 1 ≡ m → ⊥ = λ same. omega arith in
    let here = worked_row (machine_station p i j) (machine_station p i (j + 1)) 0 in
    let row : onward p i j ≡ here = ap (λ t. cond t (plain_row (machine_station p i j) (receiver p i) (starting p i) (stage_at p i).travel) here) (ne_eqb (j + 1) m other) in
    let found = subst (λ r. IsRowAt p (entry_arc p i + 3 * (j + 1)) r) row (onward-at p i j below (omega arith)) in
    same_arc p _ _ _ _ _ _ 0 (HasArc-row p _ here found) (omega arith) (omega arith) (omega arith)

-- from the last machine to what the stage feeds
leaves : (p : Plant) (i k : ℕ) → i < length p.stages → k ≡ length (stage_at p i).machines → 1 ≤ k → HasArc p (entry_arc p i + 3 * k) (release p i + k) (receiver p i) (starting p i)
leaves p i zero below last some = absurd (omega arith)
leaves p i (suc j) below last some =
    let m = length (stage_at p i).machines in
    let same : j + 1 ≡ m = omega arith in
    let here = plain_row (machine_station p i j) (receiver p i) (starting p i) (stage_at p i).travel in
    let row : onward p i j ≡ here = ap (λ t. cond t here (worked_row (machine_station p i j) (machine_station p i (j + 1)) 0)) (eq-eqb (j + 1) m same) in
    let found = subst (λ r. IsRowAt p (entry_arc p i + 3 * (j + 1)) r) row (onward-at p i j below (omega arith)) in
    same_arc p _ _ _ _ _ _ (starting p i) (HasArc-row p _ here found) (omega arith) (omega arith) refl

-- from station k of the stage on
stage_line-from : (p : Plant) (i k rest : ℕ) → IsSound p → i < length p.stages → k + rest ≡ length (stage_at p i).machines → IsLine (graph p) (release p i + k) (map (λ k. entry_arc p i + 3 * k) (range_with_len k (suc rest))) (receiver p i) (starting p i)
stage_line-from p i k zero sound below is =
    let some = (IsSoundStage-sound p i sound below).some_machine in
    let up = (receiver-above p i sound below).0 in
    IsLine-one p (entry_arc p i + 3 * k) (release p i + k) (receiver p i) (starting p i) (leaves p i k below (omega arith) (omega arith)) (omega arith)
stage_line-from p i k (suc rest) sound below is =
    let f = λ (k : ℕ). entry_arc p i + 3 * k in
    let first = IsLine-one p (f k) (release p i + k) (release p i + (k + 1)) 0 (passes p i k below (omega arith)) (omega arith) in
    let later = stage_line-from p i (k + 1) rest sound below (omega arith) in
    let both = IsLine-append (graph p) (release p i + k) (f k ∷ []) (release p i + (k + 1)) (map f (range_with_len (k + 1) (suc rest))) (receiver p i) 0 (starting p i) first later in
    subst (λ n. IsLine (graph p) (release p i + k) (map f (range_with_len k (suc (suc rest)))) (receiver p i) n) (zero-add (starting p i)) both

-- the onward arcs of a stage
pub stage_line : (p : Plant) (i : ℕ) → IsSound p → i < length p.stages → IsLine (graph p) (release p i) (onward_arcs p i) (receiver p i) (starting p i)
stage_line p i sound below =
    let line = stage_line-from p i 0 (length (stage_at p i).machines) sound below (omega arith) in
    let at : release p i + 0 ≡ release p i = omega arith in
    subst (λ t. IsLine (graph p) t (onward_arcs p i) (receiver p i) (starting p i)) at (rw add-one line)

-- the stations at which the arcs from station k of the stage on start
starts-from : (p : Plant) (i k rest : ℕ) → IsSound p → i < length p.stages → k + rest ≡ length (stage_at p i).machines → starting_stations (graph p) (map (λ k. entry_arc p i + 3 * k) (range_with_len k (suc rest))) ≡ map (λ k. release p i + k) (range_with_len k (suc rest))
starts-from p i k zero sound below is =
    let some = (IsSoundStage-sound p i sound below).some_machine in
    ap (λ t. t ∷ []) (leaves p i k below (omega arith) (omega arith)).from_is
starts-from p i k (suc rest) sound below is =
    let arcs = map (λ k. entry_arc p i + 3 * k) (range_with_len (k + 1) (suc rest)) in
    ap (λ t. t ∷ starting_stations (graph p) arcs) (passes p i k below (omega arith)).from_is
    ∙ ap (λ ts. (release p i + k) ∷ ts) (starts-from p i (k + 1) rest sound below (omega arith))

-- numbers that are counted from one later
map-shift : (r a n : ℕ) → map (λ k. r + k) (range_with_len (a + 1) n) ≡ map (λ j. r + 1 + j) (range_with_len a n)
map-shift r a zero = refl
map-shift r a (suc n) =
    let head : r + (a + 1) ≡ r + 1 + a = omega arith in
    ap (λ t. t ∷ map (λ k. r + k) (range_with_len (a + 1 + 1) n)) head ∙ ap (λ ts. (r + 1 + a) ∷ ts) (map-shift r (a + 1) n)

-- the onward arcs of a stage start at its release and its machines
pub stage_stations : (p : Plant) → IsSound p → (i : ℕ) → i < length p.stages → starting_stations (graph p) (onward_arcs p i) ≡ stations_of_stage p i
stage_stations p sound i below =
    let m = length (stage_at p i).machines in
    let r = release p i in
    let first : r + 0 ≡ r = omega arith in
    rw add-one
    (starts-from p i 0 m sound below (omega arith) ∙ ap (λ t. t ∷ map (λ k. r + k) (range_with_len (0 + 1) m)) first ∙ ap (λ ts. r ∷ ts) (map-shift r 0 m))

-- a line, with its arcs, its end and its tokens by other names
same_line : (p : Plant) (t : ℕ) (xs ys : List ℕ) (u v m n : ℕ) → IsLine (graph p) t xs u m → xs ≡ ys → u ≡ v → m ≡ n → IsLine (graph p) t ys v n
same_line p t xs ys u v m n line e_arcs e_end e_tokens =
    subst (λ k. IsLine (graph p) t ys v k) e_tokens (subst (λ w. IsLine (graph p) t ys w m) e_end (subst (λ zs. IsLine (graph p) t zs u m) e_arcs line))

-- a path up to stage b, where it ends, and where it goes on
pub front-here : (p : Plant) → FeedsLater p → (a b : ℕ) → a < length p.stages → (a == b) ≡ true → up_to b (path p a) ≡ a ∷ []
front-here p tree a b below is =
    ap (up_to b) (path-step p tree a below) ∙ ap (λ t. cond t (a ∷ []) (a ∷ up_to b (option_map_or (path p) (next p a) []))) is

pub front-rest : (p : Plant) → FeedsLater p → (a b : ℕ) → a < length p.stages → (a == b) ≡ false → up_to b (path p a) ≡ a ∷ option_map_or (λ j. up_to b (path p j)) (next p a) []
front-rest p tree a b below other =
    ap (up_to b) (path-step p tree a below)
    ∙ ap (λ t. cond t (a ∷ []) (a ∷ up_to b (option_map_or (path p) (next p a) []))) other
    ∙ ap (λ is. a ∷ is) (of_rest (next p a))
  where
    of_rest : (o : Option ℕ) → up_to b (option_map_or (path p) o []) ≡ option_map_or (λ j. up_to b (path p j)) o []
    of_rest None = refl
    of_rest (Some j) = refl

front-next : (p : Plant) → FeedsLater p → (a b j : ℕ) → a < length p.stages → (a == b) ≡ false → next p a ≡ Some j → up_to b (path p a) ≡ a ∷ up_to b (path p j)
front-next p tree a b j below other fed =
    front-rest p tree a b below other ∙ ap (λ o. a ∷ option_map_or (λ j. up_to b (path p j)) o []) fed

-- a stage down a path is its first, or down the path of what that feeds
down-next : (p : Plant) → FeedsLater p → (a b : ℕ) → a < length p.stages → (a == b) ≡ false → is_downstream p a b ≡ true → (j : ℕ) × (next p a ≡ Some j) × (is_downstream p j b ≡ true)
down-next p tree a b below other down =
    let step = is_downstream-step p tree a b below ∙ ap (λ (t : Bool). t || option_map_or (λ j. is_downstream p j b) (next p a) false) other in
    by_next (next p a) refl (sym step ∙ down)
  where
    by_next : (o : Option ℕ) → next p a ≡ o → option_map_or (λ j. is_downstream p j b) o false ≡ true → (j : ℕ) × (next p a ≡ Some j) × (is_downstream p j b ≡ true)
    by_next None is h = cc
    by_next (Some j) is h = (j, is, h)

path_line-within : (p : Plant) (more a b : ℕ) → IsSound p → a < length p.stages → length p.stages ≤ more + a → is_downstream p a b ≡ true → IsLine (graph p) (release p a) (onward_arcs_of p (up_to b (path p a))) (receiver p b) (stock_between p a b)
path_line-within p zero a b sound below enough down = absurd (omega arith)
path_line-within p (suc more) a b sound below enough down = by_test (λ j there far on. path_line-within p more j b sound there far on) (a == b) refl
  where
    tree : FeedsLater p
    tree = IsSound-FeedsLater sound

    by_test : ((j : ℕ) → j < length p.stages → length p.stages ≤ more + j → is_downstream p j b ≡ true → IsLine (graph p) (release p j) (onward_arcs_of p (up_to b (path p j))) (receiver p b) (stock_between p j b)) → (t : Bool) → (a == b) ≡ t → IsLine (graph p) (release p a) (onward_arcs_of p (up_to b (path p a))) (receiver p b) (stock_between p a b)
    by_test again true is =
        let front = front-here p tree a b below is in
        let stock : starting p a ≡ sum_by (starting p) (a ∷ []) = omega (arith, sum_by-cons (starting p) a []) in
        same_line p (release p a) (onward_arcs p a) _ (receiver p a) _ (starting p a) _ (stage_line p a sound below)
        (sym (ap (onward_arcs_of p) front ∙ append-nil (onward_arcs p a)))
        (ap (receiver p) (eqb-true a b is))
        (stock ∙ sym (ap (sum_by (starting p)) front))
    by_test again false other =
        let next = down-next p tree a b below other down in
        let j = next.0 in
        let front = front-next p tree a b j below other next.1 in
        let higher = tree.later a j below next.1 in
        let later = again j (tree.exists a j below next.1) (omega arith) next.2 in
        let here = same_line p (release p a) (onward_arcs p a) (onward_arcs p a) (receiver p a) (release p j) (starting p a) (starting p a) (stage_line p a sound below) refl (ap (λ o. option_map_or (release p) o (deliver p)) next.1) refl in
        let both = IsLine-append (graph p) (release p a) (onward_arcs p a) (release p j) (onward_arcs_of p (up_to b (path p j))) (receiver p b) (starting p a) (stock_between p j b) here later in
        same_line p (release p a) _ _ (receiver p b) (receiver p b) _ _ both
        (sym (ap (onward_arcs_of p) front))
        refl
        (sym (ap (sum_by (starting p)) front ∙ sum_by-cons (starting p) a (up_to b (path p j))))

-- the onward arcs of the stages from a to b on the path of a
pub path_line : (p : Plant) (a b : ℕ) → IsSound p → a < length p.stages → is_downstream p a b ≡ true → IsLine (graph p) (release p a) (onward_arcs_of p (up_to b (path p a))) (receiver p b) (stock_between p a b)
path_line p a b sound below down = path_line-within p (length p.stages) a b sound below (omega arith) down

-- the number of the final stage
abbrev pub final_stage : Plant → ℕ
final_stage p = length p.stages - 1

-- the final stage feeds the delivery
pub receiver-final : (p : Plant) → IsSound p → 1 ≤ length p.stages → receiver p (final_stage p) ≡ deliver p
receiver-final p sound some = by_next (next p (final_stage p)) refl
  where
    by_next : (o : Option ℕ) → next p (final_stage p) ≡ o → option_map_or (release p) o (deliver p) ≡ deliver p
    by_next None is = refl
    by_next (Some j) is =
        let tree = IsSound-FeedsLater sound in
        let last : final_stage p < length p.stages = omega arith in
        let higher = tree.later (final_stage p) j last is in
        let there = tree.exists (final_stage p) j last is in
        absurd (omega arith)

-- every path goes down to the final stage
path-final : (p : Plant) (more a : ℕ) → IsSound p → a < length p.stages → length p.stages ≤ more + a → (up_to (final_stage p) (path p a) ≡ path p a) × (is_downstream p a (final_stage p) ≡ true)
path-final p zero a sound below enough = absurd (omega arith)
path-final p (suc more) a sound below enough = by_next (λ j there far. path-final p more j sound there far) (next p a) refl
  where
    tree : FeedsLater p
    tree = IsSound-FeedsLater sound

    by_next : ((j : ℕ) → j < length p.stages → length p.stages ≤ more + j → (up_to (final_stage p) (path p j) ≡ path p j) × (is_downstream p j (final_stage p) ≡ true)) → (o : Option ℕ) → next p a ≡ o → (up_to (final_stage p) (path p a) ≡ path p a) × (is_downstream p a (final_stage p) ≡ true)
    by_next again None is =
        let last = (IsSoundStage-sound p a sound below).last_is_final is in
        let here = eq-eqb a (final_stage p) (omega arith) in
        let whole = path-step p tree a below ∙ ap (λ o. a ∷ option_map_or (path p) o []) is in
        let down = is_downstream-step p tree a (final_stage p) below ∙ ap (λ (t : Bool). t || option_map_or (λ j. is_downstream p j (final_stage p)) (next p a) false) here in
        (front-here p tree a (final_stage p) below here ∙ sym whole, down)
    by_next again (Some j) is =
        let higher = tree.later a j below is in
        let there = tree.exists a j below is in
        let differ : a ≡ final_stage p → ⊥ = λ same. omega arith in
        let other = ne_eqb a (final_stage p) differ in
        let later = again j there (omega arith) in
        let whole = path-step p tree a below ∙ ap (λ o. a ∷ option_map_or (path p) o []) is in
        let down = is_downstream-step p tree a (final_stage p) below ∙ ap (λ (t : Bool). t || option_map_or (λ j. is_downstream p j (final_stage p)) (next p a) false) other ∙ ap (λ o. option_map_or (λ j. is_downstream p j (final_stage p)) o false) is in
        (front-next p tree a (final_stage p) j below other is ∙ ap (λ is. a ∷ is) later.0 ∙ sym whole, down ∙ later.1)

pub up_to-final : (p : Plant) (a : ℕ) → IsSound p → a < length p.stages → up_to (final_stage p) (path p a) ≡ path p a
up_to-final p a sound below = (path-final p (length p.stages) a sound below (omega arith)).0

-- the onward arcs of the stages on the path of a, down to the delivery
pub whole_path_line : (p : Plant) (a : ℕ) → IsSound p → a < length p.stages → IsLine (graph p) (release p a) (onward_arcs_of p (path p a)) (deliver p) (path_stock p a)
whole_path_line p a sound below =
    let ends = path-final p (length p.stages) a sound below (omega arith) in
    let some : 1 ≤ length p.stages = omega arith in
    same_line p (release p a) _ _ (receiver p (final_stage p)) (deliver p) _ _ (path_line p a (final_stage p) sound below ends.1)
    (ap (onward_arcs_of p) ends.0)
    (receiver-final p sound some)
    (ap (sum_by (starting p)) ends.0)
