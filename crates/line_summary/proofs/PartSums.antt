-- What stands in a stage of a plant, summed over time.
use Rattle.std.proofs.Common.{◌≡◌, ℕ, ◌+◌, ◌*◌, ◌<◌, length, refl, sym, ap, ◌∙◌, arith}
use Rattle.line_base.specs.declared.event.Parts.{Parts}
use Rattle.plant_model.specs.declared.plant.Plant.{Plant}
use Rattle.plant_model.specs.Line.{release, last_machine, receiver, starting}
use Rattle.plant_model.specs.Graph.{graph}
use Rattle.plant_model.specs.Sound.{IsSound}
use Rattle.event_graph.specs.Table.{Table}
use Rattle.event_graph.specs.Solves.{Solves}
use Rattle.line_stats.specs.Counts.{jobs_done, parts_arrived, in_process, in_move, in_stock, last_date, count_until}
use Rattle.line_stats.proofs.Flows.{process-flow, move-flow, stock-flow}
use Rattle.line_summary.specs.OverTime.{sum_until, process_sum, move_sum, stock_sum}
use Rattle.line_summary.proofs.OverTime.{sum_until-add, sum_until-same}

-- the sum of a station of a plant, which was looked up by another name
pub done_sum-in : (p : Plant) (g : Parts) (x : Table) (t u end last n : ℕ) → g ≡ graph p → t ≡ u → end ≡ last → n ≡ sum_until end (jobs_done g x t) → n ≡ sum_until last (jobs_done (graph p) x u)
done_sum-in p g x t u end last n is at by n_is =
    n_is ∙ ap (λ (h : Parts). sum_until end (jobs_done h x t)) is ∙ ap (λ s. sum_until end (jobs_done (graph p) x s)) at ∙ ap (λ e. sum_until e (jobs_done (graph p) x u)) by

pub arrived_sum-in : (p : Plant) (g : Parts) (x : Table) (t u late travel end last n : ℕ) → g ≡ graph p → t ≡ u → late ≡ travel → end ≡ last → n ≡ sum_until end (count_until g (λ k. x t k + late)) → n ≡ sum_until last (count_until (graph p) (λ k. x u k + travel))
arrived_sum-in p g x t u late travel end last n is at way by n_is =
    n_is
    ∙ ap (λ (h : Parts). sum_until end (count_until h (λ k. x t k + late))) is
    ∙ ap (λ s. sum_until end (count_until (graph p) (λ k. x s k + late))) at
    ∙ ap (λ w. sum_until end (count_until (graph p) (λ k. x u k + w))) way
    ∙ ap (λ e. sum_until e (count_until (graph p) (λ k. x u k + travel))) by

module _ (p : Plant) (x : Table) (i end : ℕ) (sound : IsSound p) (solves : Solves (graph p) x) (below : i < length p.stages) where
  process-parts : sum_until end (jobs_done (graph p) x (release p i)) ≡ sum_until end (in_process p x i) + sum_until end (jobs_done (graph p) x (last_machine p i))
  unfolding in_process
  process-parts =
      sum_until-add end (jobs_done (graph p) x (release p i)) (in_process p x i) (jobs_done (graph p) x (last_machine p i)) (λ v. omega (arith, process-flow p x i v sound solves below))

  move-parts : sum_until end (jobs_done (graph p) x (last_machine p i)) ≡ sum_until end (in_move p x i) + sum_until end (parts_arrived p x i)
  unfolding in_move
  move-parts =
      sum_until-add end (jobs_done (graph p) x (last_machine p i)) (in_move p x i) (parts_arrived p x i) (λ v. omega (arith, move-flow p x i v))

  stock-parts : starting p i * end + sum_until end (parts_arrived p x i) ≡ sum_until end (in_stock p x i) + sum_until end (jobs_done (graph p) x (receiver p i))
  unfolding in_stock
  stock-parts =
      let stocked = λ (v : ℕ). starting p i + parts_arrived p x i v in
      let parts = sum_until-add end stocked (λ v. starting p i) (parts_arrived p x i) (λ v. refl) in
      let start = sum_until-same end (starting p i) in
      let all = sum_until-add end stocked (in_stock p x i) (jobs_done (graph p) x (receiver p i)) (λ v. omega (arith, stock-flow p x i v sound solves below)) in
      ap (λ n. n + sum_until end (parts_arrived p x i)) (sym start) ∙ sym parts ∙ all

-- what was summed at the stations of a stage
pub record AreStageSums (p : Plant) (x : Table) (i released worked came stocked taken : ℕ) : Type 0 where
  pub process : released ≡ process_sum p x i + worked
  pub moving : worked ≡ move_sum p x i + came
  pub stock : stocked ≡ stock_sum p x i + taken

pub stage_sums-are : (p : Plant) (x : Table) (i released worked came stocked taken : ℕ) → IsSound p → Solves (graph p) x → i < length p.stages → (let last = last_date (graph p) x in released ≡ sum_until last (jobs_done (graph p) x (release p i)) → worked ≡ sum_until last (jobs_done (graph p) x (last_machine p i)) → came ≡ sum_until last (parts_arrived p x i) → stocked ≡ starting p i * last + came → taken ≡ sum_until last (jobs_done (graph p) x (receiver p i)) → AreStageSums p x i released worked came stocked taken)
stage_sums-are p x i released worked came stocked taken sound solves below released_is worked_is came_is stocked_is taken_is =
    let last = last_date (graph p) x in
    record {
      process = omega (arith, process-parts p x i last sound solves below);
      moving = omega (arith, move-parts p x i last sound solves below);
      stock = omega (arith, stock-parts p x i last sound solves below);
    }
