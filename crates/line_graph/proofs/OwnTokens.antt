-- Each station of a plant's graph with a list of times has an arc to itself with one token.
use Rattle.std.proofs.Common.{◌≡◌, ℕ, suc, ◌+◌, ◌<◌, [], ◌∷◌, ◌++◌, length, get_or, take, refl, ap, ◌∙◌, subst, arith}
use Rattle.std.specs.List.{flat_map, Contains}
use Rattle.std.proofs.lemmas.List.{get_or_append_left}
use Rattle.std.proofs.Math.Seq.{get_or-append_seam}
use Rattle.std.proofs.lemmas.List.Concat.{get_or-flat_map}
use Rattle.line_base.specs.declared.event.Arc.{Arc}
use Rattle.line_base.specs.declared.times.Times.TheVariants.{Fixed}
use Rattle.plant_model.specs.declared.plant.Plant.{Plant}
use Rattle.plant_model.specs.Line.{no_stage, stage_at, machine_at, stations_of, release, machine_station, deliver, station_count}
use Rattle.plant_model.specs.Graph.{Row, worked_row, plain_row, onward, rows, stage_times, times, graph}
use Rattle.plant_model.proofs.LayoutStations.{release-below}
use Rattle.event_graph.specs.Varying.{IsList}
use Rattle.event_graph.specs.Network.{arc}
use Rattle.live_check.specs.MoreTokens.{HasOwnToken, ListsKeepOrder}
use Rattle.line_base.proofs.RangeLists.{Contains-head, Contains-tail}
use Rattle.line_graph.proofs.Sizes.{stations-graph, arc_count-graph, length-times_of, times-graph}
use Rattle.line_graph.proofs.Inputs.{in_machines, arc-graph}
use Rattle.line_graph.proofs.EachStation.{each_station}

-- ---- each machine has an arc to itself with one token

row-own : (p : Plant) (t : ℕ) → Contains (rows p) (plain_row t t 1 0) → HasOwnToken (graph p) t
row-own p t h =
    let r = plain_row t t 1 0 in
    let is : arc (graph p) h.0 ≡ r.arc = arc-graph p h.0 r h.1 ∙ ap (λ (s : Row). s.arc) h.2 in
    record {
      own = h.0;
      exists = omega (arith, arc_count-graph p, h.1);
      from = ap (λ (a : Arc). a.from) is;
      to = ap (λ (a : Arc). a.to) is;
      one = ap (λ (a : Arc). a.tokens) is;
    }

machine-own : (p : Plant) (i j : ℕ) → i < length p.stages → j < length (stage_at p i).machines → HasOwnToken (graph p) (machine_station p i j)
machine-own p i j below inside =
    let m = machine_station p i j in
    let self = worked_row m m (machine_at p i j).servers in
    let one = plain_row m m 1 0 in
    row-own p m (in_machines p i j one below inside (Contains-tail self (one ∷ onward p i j ∷ []) one (Contains-head one (onward p i j ∷ []))))

-- ---- releases, the feed and the delivery have no list of times

time-release : (p : Plant) (i : ℕ) → i < length p.stages → get_or (times p) (release p i) (Fixed 0) ≡ Fixed 0
unfolding times
time-release p i below =
    let before = stations_of (take i p.stages) in
    let all = flat_map stage_times p.stages in
    let e : 1 + before ≡ suc (length (flat_map stage_times (take i p.stages)) + 0) = omega (arith, length-times_of (take i p.stages)) in
    let k = length (flat_map stage_times (take i p.stages)) + 0 in
    let here = get_or-flat_map stage_times p.stages i 0 no_stage (Fixed 0) below (omega arith) in
    let inside : k < length all = omega (arith, release-below p i below, length-times_of (take i p.stages), length-times_of p.stages) in
    ap (λ n. get_or (Fixed 0 ∷ (all ++ Fixed 0 ∷ [])) n (Fixed 0)) e ∙ get_or_append_left all (Fixed 0 ∷ []) (Fixed 0) k inside ∙ here

time-deliver : (p : Plant) → get_or (times p) (deliver p) (Fixed 0) ≡ Fixed 0
unfolding times
time-deliver p =
    let all = flat_map stage_times p.stages in
    let e : deliver p ≡ suc (length all) = omega (arith, length-times_of p.stages) in
    ap (λ n. get_or (Fixed 0 ∷ (all ++ Fixed 0 ∷ [])) n (Fixed 0)) e ∙ get_or-append_seam all (Fixed 0) [] (Fixed 0)

-- a station whose times are a list is a machine
abbrev KeepsOrder : Plant → ℕ → Type 0
KeepsOrder p t = IsList (get_or (times p) t (Fixed 0)) → HasOwnToken (graph p) t

fixed-keeps : (p : Plant) (t : ℕ) → get_or (times p) t (Fixed 0) ≡ Fixed 0 → KeepsOrder p t
fixed-keeps p t is list = absurd (subst IsList is list)

time-feed : (p : Plant) → get_or (times p) 0 (Fixed 0) ≡ Fixed 0
unfolding times
time-feed p = refl

station-keeps : (p : Plant) (t : ℕ) → t < station_count p → KeepsOrder p t
station-keeps p t below =
    each_station p
    (KeepsOrder p)
    (fixed-keeps p 0 (time-feed p))
    (λ i there. fixed-keeps p (release p i) (time-release p i there))
    (λ i j there inside list. machine-own p i j there inside)
    (fixed-keeps p (deliver p) (time-deliver p))
    t
    below

-- a plant's graph keeps the jobs of each list of times in order
pub graph_keeps_order : (p : Plant) → ListsKeepOrder (graph p)
graph_keeps_order p t below list =
    station-keeps p t (omega (arith, stations-graph p)) (subst (λ ts. IsList (get_or ts t (Fixed 0))) (times-graph p) list)
