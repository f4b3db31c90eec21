-- Between two dates at which nothing comes or goes a count is the same.
use Rattle.std.proofs.Common.{◌≡◌, ℕ, zero, suc, ◌+◌, ◌<◌, ◌≤◌, ◌⊎◌, cond, leb, List, [], length, get_or, refl, sym, ap, ◌∙◌, subst, inl, inr, arith}
use Rattle.std.proofs.lemmas.Bool.{le-leb, lt-leb}
use Rattle.line_base.specs.declared.event.Parts.{Parts}
use Rattle.plant_model.specs.declared.plant.Plant.{Plant}
use Rattle.plant_model.specs.Line.{stage_at, release, last_machine, receiver, deliver, station_count}
use Rattle.plant_model.specs.Graph.{graph}
use Rattle.plant_model.specs.Sound.{IsSound}
use Rattle.plant_model.proofs.LayoutStations.{release-below, last_machine-below, receiver-above}
use Rattle.event_graph.specs.Network.{jobs}
use Rattle.event_graph.specs.Table.{date_in}
use Rattle.line_core.specs.Run.{Dates, IsLeastTable}
use Rattle.line_stats.specs.Counts.{count_until, in_process, in_move, in_stock, standing, backlog}
use Rattle.line_stats.proofs.CountsOfDates.{until, until-more}
use Rattle.line_stats.proofs.RisingDates.{date-row}
use Rattle.line_stats.proofs.PlantTables.{exists_in}
use Rattle.line_chart.specs.Areas.{count_of}
use Rattle.line_chart.specs.declared.count.Count.TheVariants as count
use Rattle.line_chart.specs.Counts.{NoneBetween, IsStill}

-- as many jobs, where the date of each is at most both or neither
until-same : (h : ℕ) (f : ℕ → ℕ) (v w : ℕ) → ((k : ℕ) → k < h → leb (f (k + 1)) v ≡ leb (f (k + 1)) w) → until h f v ≡ until h f w
until-same zero f v w same = refl
until-same (suc h) f v w same =
    let e : h + 1 ≡ suc h = omega arith in
    let rest = until-same h f v w (λ k below. same k (omega arith)) in
    let last = subst (λ n. leb (f n) v ≡ leb (f n) w) e (same h (omega arith)) in
    let one : ◌≡◌ {A = ℕ} (cond (leb (f (suc h)) v) 1 0) (cond (leb (f (suc h)) w) 1 0) = ap (λ b. cond b 1 0) last in
    omega (arith, rest, one, until-more h f v, until-more h f w)

one-side : (d at next v : ℕ) → (d ≤ at) ⊎ (next ≤ d) → at ≤ v → v < next → leb d v ≡ leb d at
one-side d at next v side low high =
    elim side [
      | inl past ↦ le-leb d v (omega arith) ∙ sym (le-leb d at past)
      | inr later ↦ lt-leb d v (omega arith) ∙ sym (lt-leb d at (omega arith))
    ]

-- nothing less, where the second date is sooner
pub NoneBetween-sooner : (dates : List ℕ) (late at next sooner : ℕ) → sooner ≤ next → NoneBetween dates late at next → NoneBetween dates late at sooner
NoneBetween-sooner dates late at next sooner le none k below =
    elim (none k below) [
      | inl past ↦ inl past
      | inr later ↦ inr (omega arith)
    ]

-- the jobs that a station has done, each later by `late`
row-still : (p : Plant) (d : Dates) (t late at next v : ℕ) (f : ℕ → ℕ) → IsLeastTable d → d.graph ≡ graph p → t < station_count p → NoneBetween (get_or d.rows t []) late at next → at ≤ v → v < next → ((n : ℕ) → f n ≡ date_in d.rows t n + late) → count_until (graph p) f v ≡ count_until (graph p) f at
unfolding count_until
row-still p d t late at next v f table is exists none low high each =
    let row = get_or d.rows t [] in
    let long = table.a_date_each t (exists_in p d.graph t is exists) in
    let many = ap (λ (g : Parts). jobs g) is in
    until-same (jobs (graph p)) f v at (λ k below.
    let date : f (k + 1) ≡ get_or row k 0 + late = each (k + 1) ∙ ap (λ x. x + late) (date-row d t k) in
    subst (λ x. leb x v ≡ leb x at) (sym date) (one-side (get_or row k 0 + late) at next v (none k (omega (arith, long, many))) low high))

done-still : (p : Plant) (d : Dates) (t at next v : ℕ) → IsLeastTable d → d.graph ≡ graph p → t < station_count p → NoneBetween (get_or d.rows t []) 0 at next → at ≤ v → v < next → count_until (graph p) (date_in d.rows t) v ≡ count_until (graph p) (date_in d.rows t) at
done-still p d t at next v table is exists none low high =
    row-still p d t 0 at next v (date_in d.rows t) table is exists none low high (λ n. omega arith)

-- nothing is released, done, arrived or taken at a stage
pub record NothingAt (p : Plant) (d : Dates) (i at next : ℕ) : Type 0 where
  pub table : IsLeastTable d
  pub of_plant : d.graph ≡ graph p
  pub released_exists : release p i < station_count p
  pub done_exists : last_machine p i < station_count p
  pub taken_exists : receiver p i < station_count p
  pub released : NoneBetween (get_or d.rows (release p i) []) 0 at next
  pub done : NoneBetween (get_or d.rows (last_machine p i) []) 0 at next
  pub arrived : NoneBetween (get_or d.rows (last_machine p i) []) (stage_at p i).travel at next
  pub taken : NoneBetween (get_or d.rows (receiver p i) []) 0 at next

module _ (p : Plant) (d : Dates) (i at next : ℕ) (none : NothingAt p d i at next) where
  process-still : (v : ℕ) → at ≤ v → v < next → in_process p (date_in d.rows) i v ≡ in_process p (date_in d.rows) i at
  unfolding in_process
  process-still v low high =
      let released = done-still p d (release p i) at next v none.table none.of_plant none.released_exists none.released low high in
      let done = done-still p d (last_machine p i) at next v none.table none.of_plant none.done_exists none.done low high in
      omega (arith, released, done)

  move-still : (v : ℕ) → at ≤ v → v < next → in_move p (date_in d.rows) i v ≡ in_move p (date_in d.rows) i at
  unfolding in_move
  move-still v low high =
      let done = done-still p d (last_machine p i) at next v none.table none.of_plant none.done_exists none.done low high in
      let arrived = row-still p d (last_machine p i) (stage_at p i).travel at next v (λ n. date_in d.rows (last_machine p i) n + (stage_at p i).travel) none.table none.of_plant none.done_exists none.arrived low high (λ n. refl) in
      omega (arith, done, arrived)

  stock-still : (v : ℕ) → at ≤ v → v < next → in_stock p (date_in d.rows) i v ≡ in_stock p (date_in d.rows) i at
  unfolding in_stock
  stock-still v low high =
      let arrived = row-still p d (last_machine p i) (stage_at p i).travel at next v (λ n. date_in d.rows (last_machine p i) n + (stage_at p i).travel) none.table none.of_plant none.done_exists none.arrived low high (λ n. refl) in
      let taken = done-still p d (receiver p i) at next v none.table none.of_plant none.taken_exists none.taken low high in
      omega (arith, arrived, taken)

  pub parts-still : IsStill (count_of p (date_in d.rows) (count.Parts i)) at next
  unfolding standing
  parts-still v low high = omega (arith, process-still v low high, move-still v low high, stock-still v low high)

  pub under_way-still : IsStill (count_of p (date_in d.rows) (count.UnderWay i)) at next
  under_way-still v low high = omega (arith, process-still v low high, move-still v low high)

pub backlog-still : (p : Plant) (d : Dates) (at next : ℕ) → IsLeastTable d → d.graph ≡ graph p → NoneBetween (get_or d.rows 0 []) 0 at next → NoneBetween (get_or d.rows (deliver p) []) 0 at next → IsStill (count_of p (date_in d.rows) count.Backlog) at next
unfolding backlog
backlog-still p d at next table is demanded delivered v low high =
    let first = done-still p d 0 at next v table is (omega arith) demanded low high in
    let last = done-still p d (deliver p) at next v table is (omega arith) delivered low high in
    omega (arith, first, last)

-- nothing, up to the soonest of four dates
pub nothing_at : (p : Plant) (d : Dates) (i at travel : ℕ) (r l t n_1 n_2 n_3 n_4 : ℕ) → IsSound p → IsLeastTable d → d.graph ≡ graph p → i < length p.stages → r ≡ release p i → l ≡ last_machine p i → t ≡ receiver p i → travel ≡ (stage_at p i).travel → NoneBetween (get_or d.rows r []) 0 at n_1 → n_2 ≤ n_1 → NoneBetween (get_or d.rows l []) 0 at n_2 → n_3 ≤ n_2 → NoneBetween (get_or d.rows l []) travel at n_3 → n_4 ≤ n_3 → NoneBetween (get_or d.rows t []) 0 at n_4 → NothingAt p d i at n_4
nothing_at p d i at travel r l t n_1 n_2 n_3 n_4 sound table is below r_is l_is t_is travel_is released sooner_2 done sooner_3 arrived sooner_4 taken =
    record {
      table = table;
      of_plant = is;
      released_exists = omega (arith, release-below p i below);
      done_exists = omega (arith, last_machine-below p i below);
      taken_exists = omega (arith, (receiver-above p i sound below).1);
      released = NoneBetween-sooner (get_or d.rows (release p i) []) 0 at n_1 n_4 (omega arith) (subst (λ u. NoneBetween (get_or d.rows u []) 0 at n_1) r_is released);
      done = NoneBetween-sooner (get_or d.rows (last_machine p i) []) 0 at n_2 n_4 (omega arith) (subst (λ u. NoneBetween (get_or d.rows u []) 0 at n_2) l_is done);
      arrived = NoneBetween-sooner (get_or d.rows (last_machine p i) []) (stage_at p i).travel at n_3 n_4 (omega arith) (subst (λ u. NoneBetween (get_or d.rows (last_machine p i) []) u at n_3) travel_is (subst (λ u. NoneBetween (get_or d.rows u []) travel at n_3) l_is arrived));
      taken = subst (λ u. NoneBetween (get_or d.rows u []) 0 at n_4) t_is taken;
    }
