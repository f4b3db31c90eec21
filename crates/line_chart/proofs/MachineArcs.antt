-- The arcs into a machine of a plant: from its servers, from the job before, and from what is before it.
use Rattle.std.proofs.Common.{◌≡◌, ◌≢◌, ℕ, ◌+◌, ◌<◌, Bool, true, false, cond, [], ◌∷◌, length, get_or, refl, sym, ap, ◌∙◌, subst, inl, inr, ◌⊎◌, arith}
use Rattle.std.specs.List.{Contains}
use Rattle.std.proofs.lemmas.Bool.{cases_lt, cases_eq, eq-eqb, ne_eqb}
use Rattle.std.proofs.lemmas.List.Elements.{All-get_or}
use Rattle.line_base.specs.declared.event.Arc.{Arc}
use Rattle.plant_model.specs.declared.plant.Plant.{Plant}
use Rattle.plant_model.specs.Line.{stage_at, machine_at, machine_station, release, deliver, receiver, starting}
use Rattle.plant_model.specs.Graph.{Row, worked_row, plain_row, onward, rows, graph}
use Rattle.plant_model.specs.Sound.{IsSound}
use Rattle.plant_model.proofs.LayoutStations.{release-next, release-all, release-le, at_receiver}
use Rattle.event_graph.specs.Network.{arc, arc_count, delay, EndsAt}
use Rattle.line_base.proofs.RangeLists.{Contains-head}
use Rattle.line_graph.proofs.Sizes.{arc_count-graph, delay-graph}
use Rattle.line_graph.proofs.Inputs.{in_machines, arc-graph}
use Rattle.line_graph.proofs.GraphRows.{EachRow, All-rows}

-- the number of an arc that is this row
pub record HasRow (p : Plant) (r : Row) : Type 0 where
  pub number : ℕ
  pub exists : number < arc_count (graph p)
  pub arc_is : arc (graph p) number ≡ r.arc
  pub delay_is : delay (graph p) number ≡ r.delay

pub has_row : (p : Plant) (r : Row) → Contains (rows p) r → HasRow p r
has_row p r h =
    record {
      number = h.0;
      exists = omega (arith, arc_count-graph p, h.1);
      arc_is = arc-graph p h.0 r h.1 ∙ ap (λ (s : Row). s.arc) h.2;
      delay_is = delay-graph p h.0 r h.1 ∙ ap (λ (s : Row). s.delay) h.2;
    }

-- no release is a machine, nor is what takes the parts of a stage, nor the delivery
release-other : (p : Plant) (i j k : ℕ) → i < length p.stages → j < length (stage_at p i).machines → release p k ≢ machine_station p i j
release-other p i j k below inside same =
    elim (cases_lt i k) [
      | inl after ↦ absurd (omega (arith, release-le p (i + 1) k (omega arith), release-next p i below, same))
      | inr before ↦ absurd (omega (arith, release-le p k i before, same))
    ]

deliver-other : (p : Plant) (i j : ℕ) → i < length p.stages → j < length (stage_at p i).machines → deliver p ≢ machine_station p i j
deliver-other p i j below inside same =
    release-other p i j (length p.stages) below inside (release-all p ∙ same)

receiver-other : (p : Plant) (i j k : ℕ) → IsSound p → i < length p.stages → j < length (stage_at p i).machines → k < length p.stages → receiver p k ≢ machine_station p i j
receiver-other p i j k sound below inside there =
    at_receiver p k (λ t. t ≢ machine_station p i j) sound there (deliver-other p i j below inside) (λ l later exists. release-other p i j l below inside)

-- a row into machine t is worked, or keeps the jobs in order
abbrev WorksOrOrders : ℕ → Row → Type 0
WorksOrOrders t r = r.arc.to ≡ t → (r.arc.worked ≡ true) ⊎ (r ≡ plain_row t t 1 0)

onward-works : (p : Plant) (i j k l : ℕ) → IsSound p → i < length p.stages → j < length (stage_at p i).machines → k < length p.stages → WorksOrOrders (machine_station p i j) (onward p k l)
onward-works p i j k l sound below inside there =
    let last = plain_row (machine_station p k l) (receiver p k) (starting p k) (stage_at p k).travel in
    let inner = worked_row (machine_station p k l) (machine_station p k (l + 1)) 0 in
    let P = WorksOrOrders (machine_station p i j) in
    elim (cases_eq (l + 1) (length (stage_at p k).machines)) [
      | inl same ↦
          subst P (sym (ap (λ (t : Bool). cond t last inner) (eq-eqb (l + 1) (length (stage_at p k).machines) same)))
          (λ ends. absurd (receiver-other p i j k sound below inside there ends))
      | inr other ↦
          subst P (sym (ap (λ (t : Bool). cond t last inner) (ne_eqb (l + 1) (length (stage_at p k).machines) other)))
          (λ ends. inl refl)
    ]

each-works : (p : Plant) (i j : ℕ) → IsSound p → i < length p.stages → j < length (stage_at p i).machines → EachRow (WorksOrOrders (machine_station p i j)) p
each-works p i j sound below inside =
    record {
      stages = λ k there. record {
        entry = λ ends. inl refl;
        servers = λ l within ends. inl refl;
        order = λ l within ends. inr (ap (λ t. plain_row t t 1 0) ends);
        onward = λ l within. onward-works p i j k l sound below inside there;
      };
      feed = λ ends. absurd (deliver-other p i j below inside ends);
      policy = record {
        kanban = λ is k there ends. absurd (release-other p i j k below inside ends);
        base_stock = λ is k there ends. absurd (release-other p i j k below inside ends);
        extended_demand = λ is k there ends. absurd (release-other p i j k below inside ends);
        extended_card = λ is k there ends. absurd (release-other p i j k below inside ends);
        conwip = λ cards is k there first ends. absurd (release-other p i j k below inside ends);
      };
      loops = λ k d there ends. absurd (release-other p i j (get_or p.loops k d).first below inside ends);
    }

-- an arc into a machine is worked, or keeps the jobs in order
pub record Orders (p : Plant) (t a : ℕ) : Type 0 where
  pub arc_is : arc (graph p) a ≡ record { from = t; to = t; tokens = 1; worked = false }
  pub no_delay : delay (graph p) a ≡ 0

pub works-or-orders : (p : Plant) (i j a : ℕ) → IsSound p → i < length p.stages → j < length (stage_at p i).machines → EndsAt (graph p) (machine_station p i j) a → ((arc (graph p) a).worked ≡ true) ⊎ Orders p (machine_station p i j) a
works-or-orders p i j a sound below inside ends =
    let t = machine_station p i j in
    let d = plain_row t t 1 0 in
    let low : a < length (rows p) = omega (arith, arc_count-graph p, ends.0) in
    let r = get_or (rows p) a d in
    let is = arc-graph p a d low in
    let all = All-rows (WorksOrOrders t) p (each-works p i j sound below inside) in
    elim (All-get_or (WorksOrOrders t) (rows p) a d low all (ap (λ (b : Arc). b.to) (sym is) ∙ ends.1)) [
      | inl works ↦ inl (ap (λ (b : Arc). b.worked) is ∙ works)
      | inr orders ↦
          inr (record {
            arc_is = is ∙ ap (λ (s : Row). s.arc) orders;
            no_delay = delay-graph p a d low ∙ ap (λ (s : Row). s.delay) orders;
          })
    ]

-- the arc of the servers of a machine
pub servers_row : (p : Plant) (i j : ℕ) → i < length p.stages → j < length (stage_at p i).machines → HasRow p (worked_row (machine_station p i j) (machine_station p i j) (machine_at p i j).servers)
servers_row p i j below inside =
    let t = machine_station p i j in
    let own = worked_row t t (machine_at p i j).servers in
    has_row p own (in_machines p i j own below inside (Contains-head own (plain_row t t 1 0 ∷ onward p i j ∷ [])))
