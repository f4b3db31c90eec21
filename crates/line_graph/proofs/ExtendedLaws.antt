-- Extended kanban with as many cards as stock is kanban, and with a card for each job besides it is base stock.
use Rattle.std.proofs.Common.{◌≡◌, ℕ, zero, suc, ◌+◌, ◌-◌, ◌<◌, ◌≤◌, Bool, cond, List, length, refl, sym, ap, ◌∙◌, subst, zero-add, arith}
use Rattle.std.specs.List.{All}
use Rattle.std.proofs.lemmas.Bool.{lt-ltb, le-ltb}
use Rattle.std.proofs.lemmas.List.Elements.{All-contains}
use Rattle.line_base.specs.declared.event.Parts.{Parts}
use Rattle.line_base.specs.declared.times.Times.{Times}
use Rattle.plant_model.specs.declared.plant.Policy.{Policy}
use Rattle.plant_model.specs.declared.plant.Policy.TheVariants.{Kanban, BaseStock, Extended}
use Rattle.plant_model.specs.declared.plant.Plant.{Plant}
use Rattle.plant_model.specs.Line.{stage_at, release, deliver, receiver, stock_under, starting}
use Rattle.plant_model.specs.Graph.{plain_row, feed_row, card_row, demand_row, rows, times, labels, graph}
use Rattle.plant_model.specs.Sound.{IsSound}
use Rattle.event_graph.specs.Network.{stations, jobs, demand}
use Rattle.event_graph.specs.Table.{Table}
use Rattle.event_graph.specs.Solves.{Solves}
use Rattle.event_graph.specs.Least.{IsLeast}
use Rattle.plant_model.proofs.LayoutStations.{at_receiver}
use Rattle.line_graph.specs.Laws.{under, HaveSameLeast, CardsEqualStock, CardsCoverJobs}
use Rattle.line_graph.proofs.Inputs.{in_feed}
use Rattle.line_graph.proofs.SolvesRows.{asked, Meets, Meets-solves, Solves-meets}
use Rattle.line_graph.proofs.SharedRows.{StartAlike, HoldAlike-sound, shared, shared_back, in_kanban, in_base_stock, extended_card_row, in_extended_demand, in_extended_card}
use Rattle.line_graph.proofs.Sizes.{jobs-graph}

-- the policy touches neither stations nor jobs, times and demands
times-under : (policy : Policy) (p : Plant) → times (under policy p) ≡ times p
unfolding times
times-under policy p = refl

stations-under : (policy : Policy) (p : Plant) → stations (graph (under policy p)) ≡ stations (graph p)
unfolding graph labels
stations-under policy p = refl

jobs-under : (policy : Policy) (p : Plant) → jobs (graph (under policy p)) ≡ jobs (graph p)
unfolding graph
jobs-under policy p = refl

demand-under : (policy : Policy) (p : Plant) (n : ℕ) → demand (graph (under policy p)) n ≡ demand (graph p) n
unfolding graph demand
demand-under policy p n = refl

-- the table meets the rows of a plant
abbrev MeetsAll : Plant → Table → Plant → Type 0
MeetsAll p x q = All (Meets (times p) (jobs (graph p)) x) (rows q)

-- where rows that are met are met of the other plant, solutions are solutions of the other
Solves-under : (policy : Policy) (p : Plant) (x : Table) → (MeetsAll p x p → MeetsAll p x (under policy p)) → Solves (graph p) x → Solves (graph (under policy p)) x
Solves-under policy p x to solves =
    let q = under policy p in
    let meets = to (Meets-solves p x solves) in
    let same = subst (λ ts. All (Meets ts (jobs (graph p)) x) (rows q)) (sym (times-under policy p)) meets in
    let same_2 = subst (λ n. All (Meets (times q) n x) (rows q)) (sym (jobs-under policy p)) same in
    Solves-meets q x (λ n some few. rw (demand-under policy p n) (solves.feed n some (rw (jobs-under policy p) at few))) same_2

Solves-back : (policy : Policy) (p : Plant) (x : Table) → (MeetsAll p x (under policy p) → MeetsAll p x p) → Solves (graph (under policy p)) x → Solves (graph p) x
Solves-back policy p x back solves =
    let q = under policy p in
    let meets = Meets-solves q x solves in
    let same = subst (λ ts. All (Meets ts (jobs (graph q)) x) (rows q)) (times-under policy p) meets in
    let same_2 = subst (λ n. All (Meets (times p) n x) (rows q)) (jobs-under policy p) same in
    Solves-meets p x (λ n some few. rw (← demand-under policy p n) (solves.feed n some (rw (jobs-under policy p) few))) (back same_2)

-- the same solutions have the same least one
IsLeast-moved : (g h : Parts) (x : Table) → stations g ≡ stations h → jobs g ≡ jobs h → ((y : Table) → Solves g y → Solves h y) → ((y : Table) → Solves h y → Solves g y) → IsLeast g x → IsLeast h x
IsLeast-moved g h x same_stations same_jobs to back least =
    record {
      solves = to x least.solves;
      least = λ y solves t n exists some few. least.least y (back y solves) t n (rw same_stations exists) some (rw same_jobs few);
    }

pub same_least : (policy : Policy) (p : Plant) → ((x : Table) → MeetsAll p x p → MeetsAll p x (under policy p)) → ((x : Table) → MeetsAll p x (under policy p) → MeetsAll p x p) → HaveSameLeast p (under policy p)
same_least policy p to back =
    let q = under policy p in
    let forth = λ (y : Table). Solves-under policy p y (to y) in
    let home = λ (y : Table). Solves-back policy p y (back y) in
    λ x. (
      IsLeast-moved (graph p) (graph q) x (sym (stations-under policy p)) (sym (jobs-under policy p)) forth home,
      IsLeast-moved (graph q) (graph p) x (stations-under policy p) (jobs-under policy p) home forth,
    )

-- a plain arc without a token asks for the date at its start and its delay
asked-plain : (ts : List Times) (x : Table) (s t late n : ℕ) → 1 ≤ n → asked ts x (plain_row s t 0 late).arc late n ≡ x s n + late
unfolding asked
asked-plain ts x s t late n some =
    let dated = ap (λ (b : Bool). 0 + cond b (x s (n - 0) + late) 0) (lt-ltb 0 n some) in
    let e : n - 0 ≡ n = omega arith in
    dated ∙ zero-add (x s (n - 0) + late) ∙ ap (λ (m : ℕ). x s m + late) e

-- a plain arc with a token for each job asks for nothing
asked-full : (ts : List Times) (x : Table) (s t free late n : ℕ) → n ≤ free → asked ts x (plain_row s t free late).arc late n ≡ 0
unfolding asked
asked-full ts x s t free late n covered =
    ap (λ (b : Bool). 0 + cond b (x s (n - free) + late) 0) (le-ltb free n covered)

-- where cards come back at once, a release is no earlier than the demand: its card came from a release or delivery that
-- was no earlier
module _ (p : Plant) (x : Table) (sound : IsSound p) (cards : (i : ℕ) → i < length p.stages → Meets (times p) (jobs (graph p)) x (card_row p 0 i)) (feed : Meets (times p) (jobs (graph p)) x (feed_row p)) where
  deliver-after : (n : ℕ) → 1 ≤ n → n ≤ jobs (graph p) → x 0 n ≤ x (deliver p) n
  deliver-after n some few =
      let h = feed.each n some few in
      omega (arith, asked-plain (times p) x 0 (deliver p) 0 n some)

  release-after : (room i n : ℕ) → length p.stages ≤ room + i → i < length p.stages → 1 ≤ n → n ≤ jobs (graph p) → x 0 n ≤ x (release p i) n
  release-after zero i n enough below some few = absurd (omega arith)
  release-after (suc room) i n enough below some few =
      let card = (cards i below).each n some few in
      let asks = asked-plain (times p) x (receiver p i) (release p i) (stage_at p i).card_time n some in
      let before = at_receiver p i (λ t. x 0 n ≤ x t n) sound below (deliver-after n some few) (λ j after inside. release-after room j n (omega arith) inside some few) in
      omega arith

  pub demand_row-met : (i : ℕ) → i < length p.stages → Meets (times p) (jobs (graph p)) x (demand_row p i)
  demand_row-met i below =
      record {
        each = λ n some few.
            let after = release-after (length p.stages) i n (omega arith) below some few in
            omega (arith, asked-plain (times p) x 0 (release p i) 0 n some);
      }

-- with as many cards as stock, no card is free at the start
module _ (p : Plant) (sound : IsSound p) (is : p.policy ≡ Extended) (equal : CardsEqualStock p) where
  kanban_alike : StartAlike p (under Kanban p)
  kanban_alike i below =
      ap (λ (policy : Policy). stock_under policy (stage_at p i)) is ∙ sym (equal i below)

  none_free : (i : ℕ) → i < length p.stages → (stage_at p i).cards - starting p i ≡ 0
  none_free i below = let e = kanban_alike i below in omega arith

  to_kanban : (x : Table) → MeetsAll p x p → MeetsAll p x (under Kanban p)
  to_kanban x all =
      let P = Meets (times p) (jobs (graph p)) x in
      shared p Kanban P kanban_alike (HoldAlike-sound p Kanban sound kanban_alike) all (record {
        kanban = λ same i below.
            let card = All-contains P (rows p) (extended_card_row p i) all (in_extended_card p i is below) in
            subst (λ (free : ℕ). P (card_row p free i)) (none_free i below) card;
        base_stock = λ other i below. cc;
        extended_demand = λ other i below. cc;
        extended_card = λ other i below. cc;
        conwip = λ cards other i below first. cc;
      })

  from_kanban : (x : Table) → MeetsAll p x (under Kanban p) → MeetsAll p x p
  from_kanban x all =
      let P = Meets (times p) (jobs (graph p)) x in
      let q = under Kanban p in
      let card = λ (i : ℕ). λ (below : i < length p.stages). All-contains P (rows q) (card_row p 0 i) all (in_kanban q i refl below) in
      let feed = All-contains P (rows q) (feed_row p) all (in_feed q) in
      shared_back p Kanban P sound kanban_alike all (record {
        kanban = λ other i below. cc;
        base_stock = λ other i below. cc;
        extended_demand = λ same i below. demand_row-met p x sound card feed i below;
        extended_card = λ same i below. subst (λ (free : ℕ). P (card_row p free i)) (sym (none_free i below)) (card i below);
        conwip = λ cards other i below first. cc;
      })

  pub extended_is_kanban : HaveSameLeast p (under Kanban p)
  extended_is_kanban = same_least Kanban p to_kanban from_kanban

-- with a card for each job, no job waits for a card
module _ (p : Plant) (sound : IsSound p) (is : p.policy ≡ Extended) (cover : CardsCoverJobs p) where
  base_alike : StartAlike p (under BaseStock p)
  base_alike i below = ap (λ (policy : Policy). stock_under policy (stage_at p i)) is

  to_base_stock : (x : Table) → MeetsAll p x p → MeetsAll p x (under BaseStock p)
  to_base_stock x all =
      let P = Meets (times p) (jobs (graph p)) x in
      shared p BaseStock P base_alike (HoldAlike-sound p BaseStock sound base_alike) all (record {
        kanban = λ other i below. cc;
        base_stock = λ same i below. All-contains P (rows p) (demand_row p i) all (in_extended_demand p i is below);
        extended_demand = λ other i below. cc;
        extended_card = λ other i below. cc;
        conwip = λ cards other i below first. cc;
      })

  card-met : (x : Table) (i : ℕ) → i < length p.stages → Meets (times p) (jobs (graph p)) x (extended_card_row p i)
  card-met x i below =
      record {
        each = λ n some few.
            let enough = cover i below in
            let e = base_alike i below in
            let jobs_few = rw (jobs-graph p) at few in
            let free = asked-full (times p) x (receiver p i) (release p i) ((stage_at p i).cards - starting p i) (stage_at p i).card_time n (omega arith) in
            omega arith;
      }

  from_base_stock : (x : Table) → MeetsAll p x (under BaseStock p) → MeetsAll p x p
  from_base_stock x all =
      let P = Meets (times p) (jobs (graph p)) x in
      let q = under BaseStock p in
      shared_back p BaseStock P sound base_alike all (record {
        kanban = λ other i below. cc;
        base_stock = λ other i below. cc;
        extended_demand = λ same i below. All-contains P (rows q) (demand_row p i) all (in_base_stock q i refl below);
        extended_card = λ same i below. card-met x i below;
        conwip = λ cards other i below first. cc;
      })

  pub extended_is_base_stock : HaveSameLeast p (under BaseStock p)
  extended_is_base_stock = same_least BaseStock p to_base_stock from_base_stock
