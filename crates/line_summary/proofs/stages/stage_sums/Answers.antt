use Rattle.std.proofs.Common.{◌≡◌, ◌*◌, ◌+◌, ◌^◌, ◌≤◌, get_or, sym, ap, ◌∙◌, arith}
use Rattle.std.proofs.Math.Nat.{mul-le-mul}
use Rattle.line_base.specs.declared.event.Parts.{Parts}
use Rattle.plant_model.specs.Line.{release, last_machine, receiver, starting, stage_at}
use Rattle.plant_model.specs.Graph.{graph}
use Rattle.event_graph.specs.Table.{date_in}
use Rattle.line_stats.specs.Counts.{last_date}
use Rattle.line_stats.proofs.PlantTables.{exists_in, numbered_in, solves_in, travel-read, starting-small}
use Rattle.line_summary.proofs.PartSums.{AreStageSums, done_sum-in, arrived_sum-in, stage_sums-are}
use Rattle.line_summary.proofs.stages.stage_sums.Goals.{After-from-2}
use Rattle.line_summary.proofs.stages.stage_sums.Goals as goal

pub done_sum-released-requires : goal.done_sum-released-requires
done_sum-released-requires c =
    let at = numbered_in c.args.plant.now _ c.release.result (λ q. release q c.args.stage) c.requires.stage.numbers c.release.ensures.station c.release.ensures.exists in
    exists_in c.args.plant.now c.args.table.now.graph c.release.result c.requires.stage.of_plant at.1

pub done_sum-worked-requires : goal.done_sum-worked-requires
done_sum-worked-requires c =
    let at = numbered_in c.args.plant.now _ c.last_machine-machine.result (λ q. last_machine q c.args.stage) c.requires.stage.numbers c.last_machine-machine.ensures.station c.last_machine-machine.ensures.exists in
    exists_in c.args.plant.now c.args.table.now.graph c.last_machine-machine.result c.requires.stage.of_plant at.1

pub arrived_sum-arrived-requires : goal.arrived_sum-arrived-requires
arrived_sum-arrived-requires c =
    let at = numbered_in c.args.plant.now _ c.last_machine-machine.result (λ q. last_machine q c.args.stage) c.requires.stage.numbers c.last_machine-machine.ensures.station c.last_machine-machine.ensures.exists in
    exists_in c.args.plant.now c.args.table.now.graph c.last_machine-machine.result c.requires.stage.of_plant at.1

pub receiver-requires-clause-plant : goal.receiver-requires-clause-plant
receiver-requires-clause-plant c = sym c.requires.stage.numbers

pub done_sum-taken-requires : goal.done_sum-taken-requires
done_sum-taken-requires c =
    let at = numbered_in c.args.plant.now _ c.receiver.result (λ q. receiver q c.args.stage) c.requires.stage.numbers c.receiver.ensures.station c.receiver.ensures.exists in
    exists_in c.args.plant.now c.args.table.now.graph c.receiver.result c.requires.stage.of_plant at.1

-- what was summed, and how small it is
module _ (c : After-from-2) where
  sums : AreStageSums c.args.plant.now (date_in c.args.table.now.rows) c.args.stage c.done_sum-released.result c.done_sum-worked.result c.arrived_sum-arrived.result (c.from.result * c.from-2.result + c.arrived_sum-arrived.result) c.done_sum-taken.result
  sums =
      let p = c.args.plant.now in
      let d = c.args.table.now in
      let x = date_in d.rows in
      let i = c.args.stage in
      let is = c.requires.stage.of_plant in
      let same = c.requires.stage.numbers in
      let last = last_date (graph p) x in
      let by : c.args.last ≡ last = c.requires.last ∙ ap (λ (h : Parts). last_date h x) is in
      let rel = numbered_in p _ c.release.result (λ q. release q i) same c.release.ensures.station c.release.ensures.exists in
      let mac = numbered_in p _ c.last_machine-machine.result (λ q. last_machine q i) same c.last_machine-machine.ensures.station c.last_machine-machine.ensures.exists in
      let rec = numbered_in p _ c.receiver.result (λ q. receiver q i) same c.receiver.ensures.station c.receiver.ensures.exists in
      let late = (get_or c.as_slice.result.now i c.index-as_slice-stage.result).travel in
      let way : late ≡ (stage_at p i).travel = travel-read p i c.as_slice.result.now c.index-as_slice-stage.result c.requires.stage.exists c.as_slice.ensures in
      let stocked : c.from.result ≡ starting p i = c.from.ensures ∙ c.starting.ensures in
      let span : c.from-2.result ≡ last = c.from-2.ensures ∙ by in
      stage_sums-are p x i c.done_sum-released.result c.done_sum-worked.result c.arrived_sum-arrived.result (c.from.result * c.from-2.result + c.arrived_sum-arrived.result) c.done_sum-taken.result
      c.requires.stage.sound (solves_in p d is c.done_sum-taken.ensures.least) c.requires.stage.exists
      (done_sum-in p d.graph x c.release.result (release p i) c.args.last last c.done_sum-released.result is rel.0 by c.done_sum-released.ensures.sum)
      (done_sum-in p d.graph x c.last_machine-machine.result (last_machine p i) c.args.last last c.done_sum-worked.result is mac.0 by c.done_sum-worked.ensures.sum)
      (arrived_sum-in p d.graph x c.last_machine-machine.result (last_machine p i) late (stage_at p i).travel c.args.last last c.arrived_sum-arrived.result is mac.0 way by c.arrived_sum-arrived.ensures.sum)
      (ap (λ n. n * c.from-2.result + c.arrived_sum-arrived.result) stocked ∙ ap (λ n. starting p i * n + c.arrived_sum-arrived.result) span)
      (done_sum-in p d.graph x c.receiver.result (receiver p i) c.args.last last c.done_sum-taken.result is rec.0 by c.done_sum-taken.ensures.sum)

  stock-small : c.from.result * c.from-2.result ≤ 10_000 * 2 ^ 64
  stock-small =
      let few : c.from.result ≤ 10_000 = omega (arith, c.from.ensures, c.starting.ensures, starting-small c.args.plant.now c.args.stage c.requires.stage.sound c.requires.stage.exists) in
      let early : c.from-2.result ≤ 2 ^ 64 = omega (arith, c.from-2.ensures, c.ranges.last.fits) in
      mul-le-mul few early

pub overflow_mul-stocked : goal.overflow_mul-stocked
overflow_mul-stocked c = omega (arith, stock-small c)

pub overflow_sub-result : goal.overflow_sub-result
overflow_sub-result c = let h = sums (goal.at.overflow_sub-result c).After-from-2 in omega (arith, h.process)

pub overflow_sub-result-2 : goal.overflow_sub-result-2
overflow_sub-result-2 c = let h = sums (goal.at.overflow_sub-result-2 c).After-from-2 in omega (arith, h.moving)

pub overflow_sub-result-3 : goal.overflow_sub-result-3
overflow_sub-result-3 c = let h = sums (goal.at.overflow_sub-result-3 c).After-from-2 in omega (arith, h.stock)

pub returns : goal.returns
returns c =
    let h = sums c in
    let small = stock-small c in
    let released = c.done_sum-released.ensures.small in
    let worked = c.done_sum-worked.ensures.small in
    let came = c.arrived_sum-arrived.ensures.small in
    record { process = omega arith; moving = omega arith; stock = omega arith; small = omega arith }
