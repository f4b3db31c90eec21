-- One step of the pass from the last date to the first.
use Rattle.std.proofs.Common.{◌≡◌, ◌≢◌, ℕ, zero, suc, ◌+◌, ◌-◌, ◌*◌, ◌<◌, ◌≤◌, List, [], ◌++◌, length, take, drop, set, sym, ap, ◌∙◌, subst, append-nil, arith, inl, inr}
use Rattle.std.specs.Prelude.{Option, None, slice_index}
use Rattle.std.proofs.lemmas.Bool.{cases_lt}
use Rattle.std.proofs.lemmas.Grind.{get_or-set_at}
use Rattle.std.proofs.lemmas.List.{get_or-set_other, drop_all, take_all}
use Rattle.line_base.specs.declared.event.Parts.{Parts}
use Rattle.event_graph.specs.Network.{stations, arc, delay, IsGraph, StartsAt}
use Rattle.event_graph.specs.Table.{Table, date_in}
use Rattle.event_graph.specs.Term.{work}
use Rattle.event_graph.specs.Solves.{Solves}
use Rattle.live_check.specs.Order.{LiveGraph, IsUpward}
use Rattle.line_core.specs.Run.{Dates, IsLeastTable}
use Rattle.what_if.specs.Page.{IsDate, slot}
use Rattle.what_if.proofs.SlotOrder.{slot-station, slot-rank}
use Rattle.latest_dates.specs.Latest.{LatestTable, earliest_bound}
use Rattle.latest_dates.specs.Laws.{IsServed}
use Rattle.latest_dates.specs.Pass.{AreLatestFrom}
use Rattle.latest_dates.specs.Found.{IsInTime, LeavesTime, date_index, latest_in}
use Rattle.latest_dates.proofs.DateIndices.{date_index-station, date_index-job}
use Rattle.latest_dates.proofs.FromLast.{reader, reads-later}
use Rattle.latest_dates.proofs.EarliestBounds.{AgreesAfter, earliest_bound-same, term-sent}
use Rattle.latest_dates.proofs.NoneLater.{none_later}
use Rattle.latest_dates.proofs.LatestSolution.{no_later-less}

-- the run solves the graph, and serves where no job waits longer than it may
pub run_solves : (d : Dates) (g : Parts) → IsLeastTable d → d.graph ≡ g → Solves g (date_in d.rows)
run_solves d g least same = subst (λ h. Solves h (date_in d.rows)) same least.least.solves

served : (d : Dates) (may : ℕ) → IsLeastTable d → IsInTime d.graph (date_in d.rows) may → IsServed d.graph may (date_in d.rows)
served d may least in_time n one inside =
    omega (arith, in_time n one inside, least.greatest.feed least.limits.some_station n one inside)

pub run_serves : (d : Dates) (g : Parts) (may : ℕ) → IsLeastTable d → d.graph ≡ g → IsInTime g (date_in d.rows) may → IsServed g may (date_in d.rows)
run_serves d g may least same in_time =
    subst (λ h. IsServed h may (date_in d.rows)) same (served d may least (subst (λ h. IsInTime h (date_in d.rows) may) (sym same) in_time))

-- the slots from a job on are those of the job, and of later ones
pub job_start : (n width : ℕ) → 1 ≤ n → n * width ≡ (n - 1) * width + (width - 0)
job_start zero width one = absurd (omega arith)
job_start (suc n) width one =
    let before : suc n - 1 ≡ n = omega arith in
    omega (arith, ap (λ k. k * width) before)

pub no_slot_left : (n width : ℕ) → (n - 0) * width ≡ n * width
no_slot_left n width =
    let same : n - 0 ≡ n = omega arith in
    ap (λ k. k * width) same

-- what a list that was lent as a slice has afterwards
pub lent_back : (new items : List (Option ℕ)) (len : ℕ) → len ≡ length items → length new ≡ length items → take len (new ++ drop (length new) items) ≡ new
lent_back new items len all same =
    ap (λ l. take len (new ++ l)) (drop_all (length new) items (omega arith))
    ∙ ap (take len) (append-nil new)
    ∙ take_all len new (omega arith)

-- the slot of a job at a station by its rank
pub slot_above : (l : LiveGraph) (t n rank : ℕ) → slice_index l.ranks t ≡ rank → slot l t n ≡ (n - 1) * stations l.graph + rank
unfolding slot
slot_above l t n rank is = ap (λ k. (n - 1) * stations l.graph + k) is

module _ (l : LiveGraph) (up : IsUpward l.graph l.ranks) (graph : IsGraph l.graph) (may : ℕ) where
  -- the latest dates that a date is bounded by leave time for what the arcs add
  pub leaves_time : (y : LatestTable) (at : ℕ) → AreLatestFrom l may y at → (x : Table) → Solves l.graph x → IsServed l.graph may x → (t n : ℕ) → IsDate l.graph t n → at ≤ slot l t n + 1 → (a : ℕ) → StartsAt l.graph t a → LeavesTime l.graph y n a
  leaves_time y at latest x solves serves t n date from a starts inside =
      let g = l.graph in
      let job = n + (arc g a).tokens in
      let to = (arc g a).to in
      let asks = solves.others a job starts.0 (omega (arith, date.from_one)) inside in
      let after = reads-later l up graph t n a date starts in
      let late = none_later l up graph may y at latest x solves serves to job (reader g t n a graph date starts inside) (omega arith) in
      no_later-less (delay g a + work g a job) (x to job) (y to job) (omega (arith, asks, term-sent g x a n date.from_one)) late

  module _ (dates : List (Option ℕ)) (t n : ℕ) (here : IsDate l.graph t n) (v : Option ℕ) where
    -- the latest dates with this one for job n at station t
    next : List (Option ℕ)
    next = set dates (date_index l.graph t n) v

    past : (u m : ℕ) → IsDate l.graph u m → slot l t n < slot l u m → latest_in l next u m ≡ latest_in l dates u m
    unfolding next
    past u m there after =
        let other : date_index l.graph u m ≢ date_index l.graph t n = λ same.
        let station = date_index-station l.graph u m t n there here same in
        let job = date_index-job l.graph u m t n there here same in
        let slots : slot l u m ≡ slot l t n = ap (λ s. slot l s m) station ∙ ap (slot l t) job in
        absurd (omega arith)
        in
        get_or-set_other dates (date_index l.graph t n) (date_index l.graph u m) v None other

    agrees : (u m : ℕ) → IsDate l.graph u m → slot l t n ≤ slot l u m → AgreesAfter l.graph (latest_in l next) (latest_in l dates) u m
    agrees u m date from a starts inside =
        let after = reads-later l up graph u m a date starts in
        past (arc l.graph a).to (m + (arc l.graph a).tokens) (reader l.graph u m a graph date starts inside) (omega arith)

    pub one_earlier : date_index l.graph t n < length dates → AreLatestFrom l may (latest_in l dates) (slot l t n + 1) → v ≡ earliest_bound l.graph may (latest_in l dates) t n → AreLatestFrom l may (latest_in l (set dates (date_index l.graph t n) v)) (slot l t n)
    unfolding next
    one_earlier there latest found u m date from =
        let same = sym (earliest_bound-same l.graph may (latest_in l next) (latest_in l dates) u m (agrees u m date from)) in
        elim (cases_lt (slot l t n) (slot l u m)) [
          | inl after ↦ past u m date after ∙ latest u m date (omega arith) ∙ same
          | inr now ↦
              let slots : slot l t n ≡ slot l u m = omega arith in
              let station = slot-rank l up t n u m here date slots in
              let job = slot-station l up t n u m here date slots in
              let same_index : date_index l.graph u m ≡ date_index l.graph t n = ap (λ s. date_index l.graph s m) (sym station) ∙ ap (date_index l.graph t) (sym job) in
              get_or-set_at dates (date_index l.graph t n) (date_index l.graph u m) v None same_index there
              ∙ found
              ∙ ap (λ s. earliest_bound l.graph may (latest_in l dates) s n) station
              ∙ ap (earliest_bound l.graph may (latest_in l dates) u) job
              ∙ same
        ]
