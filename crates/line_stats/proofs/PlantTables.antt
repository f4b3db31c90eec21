-- What a table of a plant's graph says of the plant.
use Rattle.std.proofs.Common.{◌≡◌, ℕ, ◌+◌, ◌<◌, ◌≤◌, List, length, get_or, refl, sym, ap, ◌∙◌, subst, ◌-◌, arith}
use Rattle.std.proofs.lemmas.List.{get_or_default}
use Rattle.line_base.specs.declared.event.Parts.{Parts}
use Rattle.plant_model.specs.declared.plant.Plant.{Plant}
use Rattle.plant_model.specs.Stages.{Stage}
use Rattle.plant_model.specs.declared.plant.Policy.{Policy}
use Rattle.plant_model.specs.declared.plant.Policy.TheVariants.{Kanban, Conwip, BaseStock, Extended}
use Rattle.plant_model.specs.Line.{no_stage, stage_at, stock_under, starting, last_machine, station_count}
use Rattle.plant_model.specs.Sound.{IsSound}
use Rattle.plant_model.proofs.SoundPlants.{HasSoundSizes-sound, IsSoundStage-sound}
use Rattle.plant_model.specs.Graph.{graph}
use Rattle.event_graph.specs.Network.{stations, jobs}
use Rattle.event_graph.specs.Table.{Table, date_in}
use Rattle.event_graph.specs.Solves.{Solves}
use Rattle.line_core.specs.Run.{Dates, IsLeastTable}
use Rattle.line_graph.proofs.Sizes.{stations-graph, jobs-graph}
use Rattle.line_stats.specs.Counts.{count_until, jobs_done, parts_arrived}
use Rattle.line_stats.proofs.CountsOfDates.{until-le, until-moved, until-none}

pub exists_in : (p : Plant) (g : Parts) (t : ℕ) → g ≡ graph p → t < station_count p → t < stations g
exists_in p g t is below = let e = ap (λ (h : Parts). stations h) is in omega (arith, stations-graph p)

-- a station whose number was looked up
pub numbered_in : (p q : Plant) (t : ℕ) (f : Plant → ℕ) → q ≡ p → t ≡ f q → t < station_count q → (t ≡ f p) × (t < station_count p)
numbered_in p q t f same is exists =
    (is ∙ ap f same, subst (λ (r : Plant). t < station_count r) same exists)

pub done_in : (p : Plant) (g : Parts) (x : Table) (t u v n : ℕ) → g ≡ graph p → t ≡ u → n ≡ jobs_done g x t v → n ≡ jobs_done (graph p) x u v
done_in p g x t u v n is at count = count ∙ ap (λ (h : Parts). jobs_done h x t v) is ∙ ap (λ s. jobs_done (graph p) x s v) at

-- what was counted, where parts are taken from others: the others are `all` of them, the taken are `gone`
pub record AreCounted (m n all gone : ℕ) : Type 0 where
  pub all_is : m ≡ all
  pub gone_is : n ≡ gone
  pub order : n ≤ m

pub solves_in : (p : Plant) (d : Dates) → d.graph ≡ graph p → IsLeastTable d → Solves (graph p) (date_in d.rows)
solves_in p d is table = subst (λ (g : Parts). Solves g (date_in d.rows)) is table.least.solves

-- at two stations, where parts go from the first to the second
pub counted_in : (p : Plant) (d : Dates) (s t u w v m n : ℕ) → d.graph ≡ graph p → IsLeastTable d → s ≡ t → u ≡ w → m ≡ jobs_done d.graph (date_in d.rows) s v → n ≡ jobs_done d.graph (date_in d.rows) u v → (Solves (graph p) (date_in d.rows) → jobs_done (graph p) (date_in d.rows) w v ≤ jobs_done (graph p) (date_in d.rows) t v) → AreCounted m n (jobs_done (graph p) (date_in d.rows) t v) (jobs_done (graph p) (date_in d.rows) w v)
counted_in p d s t u w v m n is table first second all gone flow =
    let all_is = done_in p d.graph (date_in d.rows) s t v m is first all in
    let gone_is = done_in p d.graph (date_in d.rows) u w v n is second gone in
    let order = flow (solves_in p d is table) in
    record { all_is = all_is; gone_is = gone_is; order = omega arith }

-- the travel of a stage, as it is read in a list of the stages
pub travel-read : (p : Plant) (i : ℕ) (stages : List Stage) (s : Stage) → i < length p.stages → stages ≡ p.stages → (get_or stages i s).travel ≡ (stage_at p i).travel
travel-read p i stages s below same =
    ap (λ xs. (get_or xs i s).travel) same ∙ ap (λ (t : Stage). t.travel) (get_or_default p.stages i s no_stage below)

-- what has arrived by a date left the last machine by then less the travel
pub arrived-after : (p : Plant) (x : Table) (i v w n : ℕ) → (stage_at p i).travel ≤ v → w ≡ v - (stage_at p i).travel → n ≡ jobs_done (graph p) x (last_machine p i) w → n ≡ parts_arrived p x i v
unfolding count_until
arrived-after p x i v w n le is made =
    made ∙ ap (λ (u : ℕ). jobs_done (graph p) x (last_machine p i) u) is ∙ sym (until-moved (jobs (graph p)) (x (last_machine p i)) (stage_at p i).travel v le)

pub arrived-before : (p : Plant) (x : Table) (i v : ℕ) → v < (stage_at p i).travel → 0 ≡ parts_arrived p x i v
unfolding count_until
arrived-before p x i v lt = sym (until-none (jobs (graph p)) (x (last_machine p i)) (stage_at p i).travel v lt)

-- the counts are small
pub arrived-small : (p : Plant) (x : Table) (i v : ℕ) → IsSound p → parts_arrived p x i v ≤ 20000
unfolding count_until
arrived-small p x i v sound =
    omega (arith, until-le (jobs (graph p)) (λ n. x (last_machine p i) n + (stage_at p i).travel) v, jobs-graph p, (HasSoundSizes-sound p sound).few_demands)

stock_under-small : (policy : Policy) (s : Stage) → s.cards ≤ 10000 → s.stock ≤ 10000 → stock_under policy s ≤ 10000
stock_under-small Kanban s cards stock = cards
stock_under-small (Conwip _) s cards stock = stock
stock_under-small BaseStock s cards stock = stock
stock_under-small Extended s cards stock = stock

pub starting-small : (p : Plant) (i : ℕ) → IsSound p → i < length p.stages → starting p i ≤ 10000
starting-small p i sound below =
    let stage = IsSoundStage-sound p i sound below in
    stock_under-small p.policy (stage_at p i) stage.few_cards stage.little_stock
