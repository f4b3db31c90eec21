-- What a row of a plant's graph says of the counts at its two stations.
use Rattle.std.proofs.Common.{◌≡◌, ℕ, zero, suc, ◌+◌, ◌-◌, ◌<◌, ◌≤◌, Bool, cond, List, length, refl, ap, subst, arith}
use Rattle.std.specs.List.{Contains, flat_map}
use Rattle.std.proofs.lemmas.Bool.{lt-ltb, eq-eqb, ne_eqb}
use Rattle.std.proofs.lemmas.List.Elements.{All-contains}
use Rattle.line_base.specs.declared.event.Arc.{Arc}
use Rattle.line_base.specs.declared.times.Times.{Times}
use Rattle.plant_model.specs.declared.plant.Plant.{Plant}
use Rattle.plant_model.specs.Line.{stage_at, machine_numbers, release, machine_station, last_machine, deliver, receiver, starting}
use Rattle.plant_model.specs.Graph.{Row, worked_row, plain_row, onward, machine_rows, feed_row, rows, times, graph}
use Rattle.plant_model.specs.Sound.{IsSound}
use Rattle.plant_model.proofs.SoundPlants.{IsSoundStage-sound}
use Rattle.event_graph.specs.Network.{jobs}
use Rattle.event_graph.specs.Table.{Table}
use Rattle.event_graph.specs.Solves.{Solves}
use Rattle.line_base.proofs.RangeLists.{Contains-head}
use Rattle.line_graph.proofs.Inputs.{in_feed, in_stages, in_machines}
use Rattle.line_graph.proofs.SolvesRows.{asked, Meets, Meets-solves}
use Rattle.line_stats.specs.Counts.{count_until, jobs_done, parts_arrived}
use Rattle.line_stats.proofs.CountsOfDates.{until-shift}

-- what a row asks of a job that takes no token of the start
pub asked-late : (ts : List Times) (x : Table) (a : Arc) (late n : ℕ) → a.tokens < n → x a.from (n - a.tokens) + late ≤ asked ts x a late n
unfolding asked
asked-late ts x a late n above =
    let part = ap (λ (b : Bool). cond b (x a.from (n - a.tokens) + late) 0) (lt-ltb a.tokens n above) in
    omega (arith, part)

-- the end of an arc has done no more jobs than its tokens and the jobs that its start has done, and sent on, by then
pub row-flow : (p : Plant) (x : Table) (r : Row) (v : ℕ) → Solves (graph p) x → Contains (rows p) r → jobs_done (graph p) x r.arc.to v ≤ r.arc.tokens + count_until (graph p) (λ n. x r.arc.from n + r.delay) v
unfolding count_until
row-flow p x r v solves row =
    let meets = All-contains (Meets (times p) (jobs (graph p)) x) (rows p) r (Meets-solves p x solves) row in
    until-shift r.arc.tokens (jobs (graph p)) (λ n. x r.arc.from n + r.delay) (x r.arc.to) v
    (λ n above within. omega (arith, asked-late (times p) x r.arc r.delay n above, meets.each n (omega arith) within))

-- what was sent on was done before
pub sent-le : (p : Plant) (x : Table) (t late v : ℕ) → count_until (graph p) (λ n. x t n + late) v ≤ jobs_done (graph p) x t v
unfolding count_until
sent-le p x t late v =
    let h = until-shift 0 (jobs (graph p)) (x t) (λ n. x t n + late) v (λ n some few. let e : n - 0 ≡ n = omega arith in rw e (omega arith)) in
    omega (arith, h)

pub row-flow_soon : (p : Plant) (x : Table) (r : Row) (v : ℕ) → Solves (graph p) x → Contains (rows p) r → jobs_done (graph p) x r.arc.to v ≤ r.arc.tokens + jobs_done (graph p) x r.arc.from v
row-flow_soon p x r v solves row =
    omega (arith, row-flow p x r v solves row, sent-le p x r.arc.from r.delay v)

-- onward from a machine that isn't the last, and from the last
pub onward-inner : (p : Plant) (i j : ℕ) → j + 1 < length (stage_at p i).machines → onward p i j ≡ worked_row (machine_station p i j) (machine_station p i (j + 1)) 0
onward-inner p i j before =
    let last = plain_row (machine_station p i j) (receiver p i) (starting p i) (stage_at p i).travel in
    let inner = worked_row (machine_station p i j) (machine_station p i (j + 1)) 0 in
    ap (λ (t : Bool). cond t last inner) (ne_eqb (j + 1) (length (stage_at p i).machines) (omega arith))

onward-last : (p : Plant) (i j : ℕ) → j + 1 ≡ length (stage_at p i).machines → onward p i j ≡ plain_row (machine_station p i j) (receiver p i) (starting p i) (stage_at p i).travel
onward-last p i j is =
    let last = plain_row (machine_station p i j) (receiver p i) (starting p i) (stage_at p i).travel in
    let inner = worked_row (machine_station p i j) (machine_station p i (j + 1)) 0 in
    ap (λ (t : Bool). cond t last inner) (eq-eqb (j + 1) (length (stage_at p i).machines) is)

in_onward : (p : Plant) (i j : ℕ) → i < length p.stages → j < length (stage_at p i).machines → Contains (rows p) (onward p i j)
in_onward p i j below inside = in_machines p i j (onward p i j) below inside (2, omega arith, refl)

-- a machine has done no more jobs than the release
machine-flow : (p : Plant) (x : Table) (i v j : ℕ) → Solves (graph p) x → i < length p.stages → j < length (stage_at p i).machines → jobs_done (graph p) x (machine_station p i j) v ≤ jobs_done (graph p) x (release p i) v
machine-flow p x i v zero solves below inside =
    let entry = worked_row (release p i) (machine_station p i 0) 0 in
    let row = in_stages p i entry below (Contains-head entry (flat_map (machine_rows p i) (machine_numbers p i))) in
    omega (arith, row-flow_soon p x entry v solves row)
machine-flow p x i v (suc j) solves below inside =
    let e : j + 1 ≡ suc j = omega arith in
    let before = machine-flow p x i v j solves below (omega arith) in
    let inner = onward-inner p i j (omega arith) in
    let row = subst (Contains (rows p)) inner (in_onward p i j below (omega arith)) in
    let h = row-flow_soon p x (worked_row (machine_station p i j) (machine_station p i (j + 1)) 0) v solves row in
    subst (λ k. jobs_done (graph p) x (machine_station p i k) v ≤ jobs_done (graph p) x (release p i) v) e (omega (arith, h, before))

last-machine_station : (p : Plant) (i : ℕ) → 1 ≤ length (stage_at p i).machines → machine_station p i (length (stage_at p i).machines - 1) ≡ last_machine p i
last-machine_station p i some = omega arith

-- the last machine has done no more jobs than the release
pub process-flow : (p : Plant) (x : Table) (i v : ℕ) → IsSound p → Solves (graph p) x → i < length p.stages → jobs_done (graph p) x (last_machine p i) v ≤ jobs_done (graph p) x (release p i) v
process-flow p x i v sound solves below =
    let some = (IsSoundStage-sound p i sound below).some_machine in
    subst (λ t. jobs_done (graph p) x t v ≤ jobs_done (graph p) x (release p i) v) (last-machine_station p i some)
    (machine-flow p x i v (length (stage_at p i).machines - 1) solves below (omega arith))

-- no more parts have arrived than the last machine has done
pub move-flow : (p : Plant) (x : Table) (i v : ℕ) → parts_arrived p x i v ≤ jobs_done (graph p) x (last_machine p i) v
move-flow p x i v = sent-le p x (last_machine p i) (stage_at p i).travel v

-- no more parts were taken from a stage's stock than it had at the start and than arrived
pub stock-flow : (p : Plant) (x : Table) (i v : ℕ) → IsSound p → Solves (graph p) x → i < length p.stages → jobs_done (graph p) x (receiver p i) v ≤ starting p i + parts_arrived p x i v
stock-flow p x i v sound solves below =
    let some = (IsSoundStage-sound p i sound below).some_machine in
    let j = length (stage_at p i).machines - 1 in
    let last = onward-last p i j (omega arith) in
    let row = subst (Contains (rows p)) last (in_onward p i j below (omega arith)) in
    let h = row-flow p x (plain_row (machine_station p i j) (receiver p i) (starting p i) (stage_at p i).travel) v solves row in
    subst (λ t. jobs_done (graph p) x (receiver p i) v ≤ starting p i + count_until (graph p) (λ n. x t n + (stage_at p i).travel) v) (last-machine_station p i some) h

-- no more demands are delivered than there were
pub delivery-flow : (p : Plant) (x : Table) (v : ℕ) → Solves (graph p) x → jobs_done (graph p) x (deliver p) v ≤ jobs_done (graph p) x 0 v
delivery-flow p x v solves = omega (arith, row-flow_soon p x (feed_row p) v solves (in_feed p))

-- no delivery comes before its demand
pub delivery-after : (p : Plant) (x : Table) (n : ℕ) → Solves (graph p) x → 1 ≤ n → n ≤ jobs (graph p) → x 0 n ≤ x (deliver p) n
delivery-after p x n solves some few =
    let meets = All-contains (Meets (times p) (jobs (graph p)) x) (rows p) (feed_row p) (Meets-solves p x solves) (in_feed p) in
    let e : n - 0 ≡ n = omega arith in
    let asks = asked-late (times p) x (feed_row p).arc (feed_row p).delay n (omega arith) in
    let same = ap (x 0) e in
    omega (arith, asks, meets.each n some few, same)
