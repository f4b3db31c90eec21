-- More cards keep a line in time, so a count above one that serves serves; and what the run of a plant's graph says of
-- its line.
use Rattle.std.proofs.Common.{◌≡◌, ℕ, List, ◌-◌, ◌<◌, ◌≤◌, true, length, sym, ap, ◌∙◌, subst, arith}
use Rattle.line_base.specs.declared.limits.TheConstants.{MAX_CARDS}
use Rattle.line_base.specs.declared.event.Parts.{Parts}
use Rattle.plant_model.specs.declared.plant.Plant.{Plant}
use Rattle.plant_model.specs.Line.{deliver}
use Rattle.plant_model.specs.Graph.{labels, graph}
use Rattle.plant_model.specs.Sound.{IsSound}
use Rattle.event_graph.specs.Network.{stations, jobs}
use Rattle.event_graph.specs.Live.{IsLive}
use Rattle.event_graph.proofs.GreatestTerms.{greatest_of_terms}
use Rattle.line_core.proofs.Existence.{has_least}
use Rattle.line_graph.specs.DeadLabels.{AreDead}
use Rattle.line_graph.specs.MoreCards.{HasMoreCards}
use Rattle.line_graph.proofs.CardlessPlants.{deliver-same, demands-same}
use Rattle.line_graph.proofs.Sizes.{stations-graph, jobs-graph, demand-graph}
use Rattle.line_graph.proofs.Inputs.{IsGraph-graph}
use Rattle.line_graph.proofs.MoreCards.{cards_never_later}
use Rattle.card_sizing.specs.Sized.{has_single_count, sized_plant, lowest}
use Rattle.card_sizing.specs.Serving.{wait_until, NoneIsLateIn, IsFirstLateIn, IsInTime, IsLate}
use Rattle.card_sizing.specs.Laws.{MoreCardsServe}
use Rattle.card_sizing.proofs.SizedStages.{more-sized, most-sized}
use Rattle.card_sizing.proofs.SizedSound.{sound_sized}

-- ---- the graph of a plant

delivery : (p : Plant) → stations (graph p) - 1 ≡ deliver p
delivery p = let all = stations-graph p in omega arith

-- ---- monotone

-- more cards keep the line in time: no date is later, and the demands are the same
pub in_time_more : (few many : Plant) (may : ℕ) → HasMoreCards few many → IsSound few → IsSound many → IsInTime few may → IsInTime many may
in_time_more few many may more sound_few sound_many in_time =
    let g = graph few in
    let h = graph many in
    let never = cards_never_later few many more sound_few in_time.live in
    let x = has_least g (IsGraph-graph few sound_few) in_time.live in
    let deliver_same = deliver-same few many more.differ in
    let same = demands-same few many more.differ in
    let same_jobs = ap (λ (dates : List ℕ). length dates) same in
    record {
      live = never.live;
      waits = λ y least n one within.
          let some = stations-graph few in
          let some_many = stations-graph many in
          let last : deliver few < stations g = omega arith in
          let job : n ≤ jobs g = omega (arith, jobs-graph few) in
          let earlier = never.dates x.0 y x.1 least (deliver few) n last one job in
          let there = ap (λ (t : ℕ). y t n) deliver_same in
          let demanded = x.2.feed (omega arith) n one job in
          let demanded_many = (greatest_of_terms h y (IsGraph-graph many sound_many) least).feed (omega arith) n one (omega (arith, jobs-graph many)) in
          omega (arith, earlier, there, demanded, demanded_many, demand-graph few many n same, in_time.waits x.0 x.1 n one (omega arith));
    }

-- each count above one that serves serves
pub serves_more : (p : Plant) → IsSound p → has_single_count p ≡ true → MoreCardsServe p
serves_more p sound single may c d serves more few =
    let enough : lowest p ≤ d = omega (arith, serves.enough) in
    let sound_few = sound_sized p c sound single serves.enough serves.within in
    let sound_many = sound_sized p d sound single enough few in
    record {
      enough = enough;
      within = few;
      in_time = in_time_more (sized_plant p c) (sized_plant p d) may (more-sized p c d single more) sound_few sound_many serves.in_time;
    }

-- a live plant is live with the most cards
pub most_live : (p : Plant) → IsSound p → has_single_count p ≡ true → IsLive (graph p) → IsLive (graph (sized_plant p MAX_CARDS))
most_live p sound single live = (cards_never_later p (sized_plant p MAX_CARDS) (most-sized p sound single) sound live).live

-- a graph with a circuit without a token isn't live
pub dead_not_live : (g : Parts) (labels : List (List ℕ)) → AreDead g labels → IsLive g → ⊥
dead_not_live g labels dead live = omega (arith, live dead.arcs dead.dead.circuit, dead.dead.empty)

-- a line with a late job isn't in time
pub late_not_in_time : (p : Plant) (may job long : ℕ) → IsSound p → IsLate p may job long → IsInTime p may → ⊥
late_not_in_time p may job long sound late in_time =
    let x = has_least (graph p) (IsGraph-graph p sound) in_time.live in
    let first = late.waits x.0 x.1 in
    omega (arith, first.waits, first.longer, in_time.waits x.0 x.1 job first.from_one first.exists)

-- ---- the run of a plant's graph

module _ (p : Plant) (may : ℕ) (g : Parts) (is : g ≡ graph p) where
  pub in_time_from : IsLive g → NoneIsLateIn g may → IsInTime p may
  in_time_from live none =
      let same_none = subst (λ (h : Parts). NoneIsLateIn h may) is none in
      record {
        live = subst IsLive is live;
        waits = λ x least n one within.
            rw (ap (λ (t : ℕ). wait_until x t n) (sym (delivery p))) (same_none x least n one (omega (arith, jobs-graph p)));
      }

  pub late_from : IsLive g → (job long : ℕ) → IsFirstLateIn g may job long → IsLate p may job long
  late_from live job long late =
      let same_late = subst (λ (h : Parts). IsFirstLateIn h may job long) is late in
      record {
        live = subst IsLive is live;
        waits = λ x least.
            let here = same_late x least in
            let at = λ (n : ℕ). ap (λ (t : ℕ). wait_until x t n) (sym (delivery p)) in
            record {
              from_one = here.from_one;
              exists = omega (arith, here.exists, jobs-graph p);
              waits = at job ∙ here.waits;
              longer = here.longer;
              first = λ n one before. rw (at n) (here.first n one before);
            };
      }
