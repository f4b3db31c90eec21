-- The places on which the parts of a station go on to the delivery, and what stands on them at the start.
use Rattle.std.proofs.Common.{◌≡◌, ℕ, zero, suc, ◌+◌, ◌-◌, ◌*◌, ◌<◌, ◌≤◌, cond, List, [], ◌∷◌, ◌++◌, length, get_or, take, drop, map, replicate, refl, sym, ap, ◌∙◌, subst, ne_eqb, arith}
use Rattle.std.specs.Option.{option_map_or}
use Rattle.std.specs.List.{range_with_len}
use Rattle.std.proofs.lemmas.List.{take-append-drop, take-append-le, get_or_append_left, get_or-map, length-append, length-map, length-drop, length-replicate}
use Rattle.std.proofs.lemmas.List.Concat.{flat_map-cons}
use Rattle.std.proofs.lemmas.List.FromFn.{take-map-range_with_len, length-map-range_with_len}
use Rattle.std.proofs.lemmas.List.Sums.{sum_by-append, sum_by-cons}
use Rattle.line_base.specs.declared.event.Parts.{Parts}
use Rattle.plant_model.specs.declared.plant.Plant.{Plant}
use Rattle.plant_model.specs.Line.{stage_at, release, machine_station, deliver, next, path, path_stock, starting, receiver}
use Rattle.plant_model.specs.Graph.{worked_row, plain_row, onward, graph}
use Rattle.plant_model.specs.Sound.{IsSound}
use Rattle.plant_model.specs.ArcNumbers.{entry_arc, onward_arcs, onward_arcs_of}
use Rattle.plant_model.proofs.Soundness.{IsSound-FeedsLater}
use Rattle.plant_model.proofs.Paths.{path-step}
use Rattle.event_graph.specs.Network.{arc, arc_count, jobs, delay}
use Rattle.event_graph.specs.Table.{Table}
use Rattle.event_graph.specs.Solves.{Solves}
use Rattle.event_graph.specs.State.{State, log, place, tokens_in}
use Rattle.event_graph.specs.Circuit.{IsWalk, starting_stations, tokens_on}
use Rattle.event_graph.proofs.Walks.{walk_drop}
use Rattle.line_core.specs.Consistent.{all_tokens, IsConsistent}
use Rattle.line_core.proofs.Consistency.{reached_is_consistent}
use Rattle.circuit_sums.proofs.RowNumbers.{IsRowAt, HasArc-row, entry-at, onward-at}
use Rattle.circuit_sums.proofs.StageLines.{stage_stations, whole_path_line}
use Rattle.line_chart.specs.Laws.{PartsServeBehindStock}
use Rattle.line_chart.proofs.StartFacts.{token-sent}

-- ---- along a walk

-- what is on an arc and was taken from it is what it held at the start and what was put on it
on-arc : (g : Parts) (s : State) (a : ℕ) → IsConsistent g s → a < arc_count g → length (place s a) + length (log s (arc g a).to) ≡ (arc g a).tokens + length (log s (arc g a).from)
unfolding all_tokens
on-arc g s a known there =
    let late = λ (date : ℕ). date + delay g a in
    let all = all_tokens g s.logs a in
    let taken = length (log s (arc g a).to) in
    let left = ap length (known.places_are_left a there) ∙ length-drop taken all in
    let zeros : length {A = ℕ} (replicate (arc g a).tokens 0) ≡ (arc g a).tokens = length-replicate (arc g a).tokens 0 in
    let held : length all ≡ (arc g a).tokens + length (log s (arc g a).from) =
    omega (arith, length-append (replicate (arc g a).tokens 0) (map late (log s (arc g a).from)), zeros, length-map (log s (arc g a).from) late) in
    omega (arith, left, held, known.tokens_suffice a there)

on-walk : (g : Parts) (s : State) (t : ℕ) (arcs : List ℕ) (u : ℕ) → IsConsistent g s → IsWalk g t arcs u → tokens_in s arcs + length (log s u) ≡ tokens_on g arcs + length (log s t)
on-walk g s t [] u known walk = let same = ap (λ v. length (log s v)) walk in omega (arith, same)
on-walk g s t (a ∷ arcs) u known walk =
    let here = on-arc g s a known walk.0 in
    let later = on-walk g s (arc g a).to arcs u known walk.2 in
    let from = ap (λ v. length (log s v)) walk.1 in
    omega (arith, here, later, from, sum_by-cons (λ b. length (place s b)) a arcs, sum_by-cons (λ b. (arc g b).tokens) a arcs)

-- the date of a job is no later than that of the job at the end of the walk that takes its part
dates-on-walk : (g : Parts) (x : Table) (t : ℕ) (arcs : List ℕ) (u n : ℕ) → Solves g x → IsWalk g t arcs u → 1 ≤ n → n + tokens_on g arcs ≤ jobs g → x t n ≤ x u (n + tokens_on g arcs)
dates-on-walk g x t [] u n solves walk some few =
    let e : n ≡ n + tokens_on g [] = omega arith in
    let same = ap (λ v. x v n) walk ∙ ap (x u) e in
    omega (arith, same)
dates-on-walk g x t (a ∷ arcs) u n solves walk some few =
    let m = (arc g a).tokens in
    let rest = tokens_on g arcs in
    let all = sum_by-cons (λ b. (arc g b).tokens) a arcs in
    let asks = solves.others a (n + m) walk.0 (omega arith) (omega (arith, few, all)) in
    let sent = token-sent g x a (n + m) (omega arith) in
    let back : n + m - m ≡ n = omega arith in
    let from : x (arc g a).from (n + m - m) ≡ x t n = ap (x (arc g a).from) back ∙ ap (λ v. x v n) walk.1 in
    let later = dates-on-walk g x (arc g a).to arcs u (n + m) solves walk.2 (omega arith) (omega (arith, few, all)) in
    let total : n + m + rest ≡ n + tokens_on g (a ∷ arcs) = omega (arith, all) in
    subst (λ k. x t n ≤ x u k) total (omega (arith, asks, sent, from, later))

-- ---- the first places of a stage hold nothing at the start

-- the arc from the release or a machine to the next machine
inner-tokens : (p : Plant) (i k : ℕ) → i < length p.stages → k < length (stage_at p i).machines → (arc (graph p) (entry_arc p i + 3 * k)).tokens ≡ 0
inner-tokens p i zero below inside = (HasArc-row p (entry_arc p i + 0) _ (entry-at p i below)).tokens_are
inner-tokens p i (suc j) below inside =
    let m = length (stage_at p i).machines in
    let other : j + 1 ≡ m → ⊥ = λ same. omega arith in
    let here = worked_row (machine_station p i j) (machine_station p i (j + 1)) 0 in
    let row : onward p i j ≡ here = ap (λ t. cond t (plain_row (machine_station p i j) (receiver p i) (starting p i) (stage_at p i).travel) here) (ne_eqb (j + 1) m other) in
    let found = subst (λ r. IsRowAt p (entry_arc p i + 3 * (j + 1)) r) row (onward-at p i j below (omega arith)) in
    let tokens = (HasArc-row p _ here found).tokens_are in
    let same : entry_arc p i + 3 * (j + 1) ≡ entry_arc p i + 3 * suc j = omega arith in
    subst (λ a. (arc (graph p) a).tokens ≡ 0) same tokens

inner-sum : (p : Plant) (i a n : ℕ) → i < length p.stages → a + n ≤ length (stage_at p i).machines → tokens_on (graph p) (map (λ k. entry_arc p i + 3 * k) (range_with_len a n)) ≡ 0
inner-sum p i a zero below few = refl
inner-sum p i a (suc n) below few =
    let f = λ (k : ℕ). entry_arc p i + 3 * k in
    let here = inner-tokens p i a below (omega arith) in
    let later = inner-sum p i (a + 1) n below (omega arith) in
    omega (arith, here, later, sum_by-cons (λ b. (arc (graph p) b).tokens) (f a) (map f (range_with_len (a + 1) n)))

-- ---- the places of a station

-- those of the stages on a path are those of its first, and then the others
path-front : (p : Plant) (i : ℕ) → IsSound p → i < length p.stages → onward_arcs_of p (path p i) ≡ onward_arcs p i ++ onward_arcs_of p (option_map_or (path p) (next p i) [])
path-front p i sound below =
    let rest = option_map_or (path p) (next p i) [] in
    ap (onward_arcs_of p) (path-step p (IsSound-FeedsLater sound) i below) ∙ flat_map-cons (onward_arcs p) i rest

pub serve-behind-stock : (p : Plant) → IsSound p → PartsServeBehindStock p
serve-behind-stock p sound i t below at =
    let g = graph p in
    let own = onward_arcs p i in
    let rest = onward_arcs_of p (option_map_or (path p) (next p i) []) in
    let whole = onward_arcs_of p (path p i) in
    let split : whole ≡ own ++ rest = path-front p i sound below in
    let m = length (stage_at p i).machines in
    let f = λ (k : ℕ). entry_arc p i + 3 * k in
    let stations = stage_stations p sound i below in
    let k = at.0 in
    let long : length own ≡ m + 1 = length-map-range_with_len f 0 (m + 1) in
    let starts_long : length (starting_stations g own) ≡ m + 1 = length-map own (λ a. (arc g a).from) ∙ long in
    let inside : k < m + 1 = omega (arith, at.1, ap length stations, starts_long) in
    let line = whole_path_line p i sound below in
    let whole_long : k < length whole = omega (arith, ap length split, length-append own rest, long, inside) in
    let from : (arc g (get_or whole k 0)).from ≡ t =
    ap (λ arcs. (arc g (get_or arcs k 0)).from) split
    ∙ ap (λ a. (arc g a).from) (get_or_append_left own rest 0 k (omega (arith, long, inside)))
    ∙ sym (get_or-map (λ a. (arc g a).from) own k 0 t (omega (arith, long, inside)))
    ∙ ap (λ ts. get_or ts k t) stations
    ∙ at.2 in
    let places = drop k whole in
    let before = take k whole in
    let walk : IsWalk g t places (deliver p) = subst (λ v. IsWalk g v places (deliver p)) from (walk_drop g (release p i) (deliver p) k whole line.leads.walk whole_long) in
    let front : before ≡ map f (range_with_len 0 k) =
    ap (take k) split ∙ take-append-le k own rest (omega (arith, long, inside)) ∙ take-map-range_with_len f 0 (m + 1) k (omega arith) in
    let none : tokens_on g before ≡ 0 = ap (tokens_on g) front ∙ inner-sum p i 0 k below (omega arith) in
    let both = sum_by-append (λ a. (arc g a).tokens) before places in
    let joined : before ++ places ≡ whole = take-append-drop k whole in
    let all = ap (tokens_on g) joined in
    let ahead : tokens_on g places ≡ path_stock p i = omega (arith, none, both, all, line.leads.stock) in
    record {
      before = before;
      places = places;
      last_of_path = sym joined;
      way = walk;
      ahead = ahead;
      counted = λ s reached. omega (arith, on-walk g s t places (deliver p) (reached_is_consistent g s reached) walk, ahead);
      served = λ x solves n some few.
          let served = dates-on-walk g x t places (deliver p) n solves walk some (omega (arith, few, ahead)) in
          subst (λ s. x t n ≤ x (deliver p) (n + s)) ahead served;
    }
