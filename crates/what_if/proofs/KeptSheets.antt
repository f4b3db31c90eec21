-- What holds of every sheet is kept by an evaluation, by another time and by another demand date.
use Rattle.std.proofs.Common.{◌≡◌, ◌≢◌, ℕ, ◌+◌, ◌-◌, ◌<◌, ◌≤◌, ◌⊎◌, Bool, true, false, cond, eqb, List, [], length, get_or, set, refl, sym, ap, ◌∙◌, arith, inl, inr}
use Rattle.std.specs.Prelude.{not, IsTrue, ◌↔◌}
use Rattle.std.proofs.lemmas.Bool.{true≢false, cases_lt, cases_eq, cases_Bool, cond-true, cond-false, eq-eqb, ne_eqb}
use Rattle.std.proofs.lemmas.List.{length-set, get_or-set_other}
use Rattle.std.proofs.lemmas.List.Elements.{All-set}
use Rattle.line_base.specs.Limits.{longest_time, last_demand}
use Rattle.event_graph.specs.Network.{jobs, arc, demand, time, EndsAt, StartsAt, IsGraph}
use Rattle.event_graph.specs.Table.{date_in}
use Rattle.live_check.specs.Order.{LiveGraph, IsUpward}
use Rattle.line_core.specs.Consistent.{due_date, LATEST_DATE}
use Rattle.what_if.specs.Marks.{is_at}
use Rattle.what_if.specs.Edited.{Inputs, edited_graph, with_number, with_time, with_demand, FitsBetween}
use Rattle.what_if.specs.Page.{Page, graph_of, IsDate, slot, is_marked, date_at, greatest_term}
use Rattle.what_if.specs.Evaluation.{without_mark, with_mark, with_readers, marks_after, after_evaluation, with_new_time, with_new_demand}
use Rattle.what_if.specs.Sheet.{date_count, latest_at, IsSheet}
use Rattle.what_if.proofs.SlotOrder.{slot-below, slot-station, slot-rank}
use Rattle.what_if.proofs.Rows.{date_in-same, date_in-other, HasRows-with_number}
use Rattle.what_if.proofs.Terms.{due-same}
use Rattle.what_if.proofs.Least.{read-before, due-early}
use Rattle.what_if.proofs.Readers.{is_at-set_other, is_at-set_same, length-with_readers, keeps-with_readers, marks-with_readers, only-with_readers}
use Rattle.what_if.proofs.Inputs.{time-edited, demand-edited, edited-limits, edited-short, with_number-short, stays_in_order, due-inputs}

-- two dates are one, or differ in station or job
pub same_date : (u m t n : ℕ) → ((u ≡ t) × (m ≡ n)) ⊎ ((u ≢ t) ⊎ (m ≢ n))
same_date u m t n =
    elim (cases_eq u t) [
      | inl station ↦ elim (cases_eq m n) [
        | inl job ↦ inl (station, job)
        | inr other ↦ inr (inr other)
      ]
      | inr other ↦ inr (inl other)
    ]

-- a time that is looked up is the one in the edited graph
pub time-read : (p : Page) → IsSheet p → (t n : ℕ) → IsDate p.live.graph t n → (found : ℕ) → found ≡ date_in p.inputs.times t n → found ≡ time (graph_of p) t n
time-read p sheet t n date found is =
    is ∙ sym (time-edited p.live.graph p.inputs t n (omega (arith, date.station, sheet.times.row_for_each)) date.from_one)

-- ---- an evaluation, as the code does it

cond-not : {X : Type 0} (b : Bool) (x y : X) → cond (not b) x y ≡ cond b y x
cond-not true x y = refl
cond-not false x y = refl

pub marks_after-code : (p : Page) (t n : ℕ) (live : LiveGraph) (date greatest : ℕ) → live ≡ p.live → date ≡ date_at p t n → greatest ≡ greatest_term p t n → cond (not (eqb date greatest)) (with_readers live t n (set p.marks (slot live t n) false)) (set p.marks (slot live t n) false) ≡ marks_after p t n
unfolding marks_after
marks_after-code p t n live date greatest same_live same_date_ same_greatest =
    let renewed = λ (l : LiveGraph) (b : Bool). cond b (set p.marks (slot l t n) false) (with_readers l t n (set p.marks (slot l t n) false)) in
    cond-not (eqb date greatest) (with_readers live t n (set p.marks (slot live t n) false)) (set p.marks (slot live t n) false)
    ∙ ap (λ l. renewed l (eqb date greatest)) same_live
    ∙ ap (λ d. renewed p.live (eqb d greatest)) same_date_
    ∙ ap (λ d. renewed p.live (eqb (date_at p t n) d)) same_greatest

pub evaluated-code : (p : Page) (t n : ℕ) (dates : List (List ℕ)) (marks : List Bool) → dates ≡ with_number p.dates t n (greatest_term p t n) → marks ≡ marks_after p t n → record p { dates = dates; marks = marks; evaluations = p.evaluations + 1 } ≡ after_evaluation p t n
unfolding after_evaluation
evaluated-code p t n dates marks dates_are marks_are =
    ap (λ d. record p { dates = d; marks = marks; evaluations = p.evaluations + 1 }) dates_are
    ∙ ap (λ m. record p { dates = with_number p.dates t n (greatest_term p t n); marks = m; evaluations = p.evaluations + 1 }) marks_are

-- what the test of having changed says
pub test-differs : (old new : ℕ) → IsTrue (not (eqb old new)) ↔ (new ≢ old)
test-differs old new =
    (λ is e. true≢false (sym is ∙ ap not (eq-eqb old new (sym e))), λ differs. ap not (ne_eqb old new (λ e. differs (sym e))))

module _ (p : Page) (s : IsSheet p) where
  graph : IsGraph p.live.graph
  graph = s.ranked.sound

  up : IsUpward p.live.graph p.live.ranks
  up = s.ranked.upward

  -- dates that differ have slots that differ
  slots_differ : (u m t n : ℕ) → IsDate p.live.graph u m → IsDate p.live.graph t n → (u ≢ t) ⊎ (m ≢ n) → slot p.live u m ≢ slot p.live t n
  slots_differ u m t n there date other same =
      elim other [
        | inl far ↦ far (slot-rank p.live up u m t n there date same)
        | inr far ↦ far (slot-station p.live up u m t n there date same)
      ]

  -- no date is late
  pub date-early : (t n : ℕ) → IsDate p.live.graph t n → date_at p t n ≤ LATEST_DATE
  date-early t n date = omega (arith, s.early t n date, slot-below p.live up t n date, s.ranked.limits.small_table)

  pub slot-room : (t n : ℕ) → IsDate p.live.graph t n → slot p.live t n < length p.marks
  slot-room t n date = omega (arith, slot-below p.live up t n date, s.room)

  module _ (t n : ℕ) (date : IsDate p.live.graph t n) where
    dates_after : List (List ℕ)
    dates_after = with_number p.dates t n (greatest_term p t n)

    here : date_in dates_after t n ≡ greatest_term p t n
    unfolding dates_after
    here = date_in-same p.live.graph p.dates s.dates t n date (greatest_term p t n)

    elsewhere : (u m : ℕ) → 1 ≤ m → (u ≢ t) ⊎ (m ≢ n) → date_in dates_after u m ≡ date_at p u m
    unfolding dates_after
    elsewhere u m one other = date_in-other p.live.graph p.dates s.dates t n date (greatest_term p t n) u m one other

    -- a date that doesn't read the one that is evaluated has the greatest of its terms as before
    due-elsewhere : (u m : ℕ) → ((a : ℕ) → EndsAt p.live.graph u a → (arc p.live.graph a).tokens < m → ((arc p.live.graph a).from ≢ t) ⊎ (m - (arc p.live.graph a).tokens ≢ n)) → due_date (graph_of p) dates_after u m ≡ greatest_term p u m
    due-elsewhere u m apart =
        due-same (graph_of p) dates_after p.dates u m (λ a enters later.
        elsewhere (arc p.live.graph a).from (m - (arc p.live.graph a).tokens) (omega arith) (apart a enters later))

    -- it doesn't read itself
    due-here : due_date (graph_of p) dates_after t n ≡ greatest_term p t n
    due-here =
        due-elsewhere t n (λ a enters later.
        let from = (arc p.live.graph a).from in
        let job = n - (arc p.live.graph a).tokens in
        elim (same_date from job t n) [
          | inl same ↦ absurd (omega (arith, read-before p.live p.inputs graph up a t n enters later, ap (λ v. slot p.live v job) same.0, ap (slot p.live t) same.1))
          | inr other ↦ other
        ])

    pub marks_after-same : date_at p t n ≡ greatest_term p t n → marks_after p t n ≡ without_mark p t n
    unfolding marks_after
    marks_after-same same = cond-true (eqb (date_at p t n) (greatest_term p t n)) _ _ (eq-eqb _ _ same)

    pub marks_after-changed : date_at p t n ≢ greatest_term p t n → marks_after p t n ≡ with_readers p.live t n (without_mark p t n)
    unfolding marks_after
    marks_after-changed changed = cond-false (eqb (date_at p t n) (greatest_term p t n)) _ _ (ne_eqb _ _ changed)

    pub length-marks_after : length (marks_after p t n) ≡ length p.marks
    length-marks_after =
        elim (cases_eq (date_at p t n) (greatest_term p t n)) [
          | inl same ↦ ap length (marks_after-same same) ∙ length-set p.marks (slot p.live t n) false
          | inr changed ↦ ap length (marks_after-changed changed) ∙ length-with_readers p.live t n (without_mark p t n) ∙ length-set p.marks (slot p.live t n) false
        ]

    -- a reader is there
    reader-date : (a : ℕ) → StartsAt p.live.graph t a → n + (arc p.live.graph a).tokens ≤ jobs p.live.graph → IsDate p.live.graph (arc p.live.graph a).to (n + (arc p.live.graph a).tokens)
    reader-date a starts within = record {
      station = graph.ends_exist a starts.0;
      from_one = omega (arith, date.from_one);
      job = within;
    }

    -- what is marked afterwards, past all dates, was marked before
    marks_after-past : (k : ℕ) → date_count p.live.graph ≤ k → is_at (marks_after p t n) k ≡ is_at p.marks k
    marks_after-past k past =
        let other : k ≢ slot p.live t n = λ e. omega (arith, slot-below p.live up t n date, e) in
        let alone = is_at-set_other p.marks (slot p.live t n) k false other in
        elim (cases_eq (date_at p t n) (greatest_term p t n)) [
          | inl same ↦ ap (λ m. is_at m k) (marks_after-same same) ∙ alone
          | inr changed ↦
              ap (λ m. is_at m k) (marks_after-changed changed)
              ∙ only-with_readers p.live t n (without_mark p t n) k (λ a starts within e. omega (arith, e, slot-below p.live up _ _ (reader-date a starts within)))
              ∙ alone
        ]

    marks_after-exist : (k : ℕ) → is_at (marks_after p t n) k ≡ true → k < date_count p.live.graph
    marks_after-exist k is =
        elim (cases_lt k (date_count p.live.graph)) [
          | inl low ↦ low
          | inr past ↦ s.marks_exist k (sym (marks_after-past k past) ∙ is)
        ]

    -- a date that isn't marked afterwards, and isn't the one that was evaluated, wasn't marked before
    was_unmarked : (u m : ℕ) → IsDate p.live.graph u m → (u ≢ t) ⊎ (m ≢ n) → is_at (marks_after p t n) (slot p.live u m) ≡ false → is_marked p u m ≡ false
    was_unmarked u m there other none =
        let k = slot p.live u m in
        let alone = is_at-set_other p.marks (slot p.live t n) k false (slots_differ u m t n there date other) in
        elim (cases_eq (date_at p t n) (greatest_term p t n)) [
          | inl same ↦ sym alone ∙ sym (ap (λ m. is_at m k) (marks_after-same same)) ∙ none
          | inr changed ↦ elim (cases_Bool (is_at (without_mark p t n) k)) [
            | inl is ↦ absurd (true≢false (sym (keeps-with_readers p.live t n (without_mark p t n) k is) ∙ sym (ap (λ m. is_at m k) (marks_after-changed changed)) ∙ none))
            | inr isnt ↦ sym alone ∙ isnt
          ]
        ]

    -- where the date changed, it doesn't read that one
    reads_not : (u m : ℕ) → IsDate p.live.graph u m → date_at p t n ≢ greatest_term p t n → is_at (marks_after p t n) (slot p.live u m) ≡ false → (a : ℕ) → EndsAt p.live.graph u a → (arc p.live.graph a).tokens < m → ((arc p.live.graph a).from ≢ t) ⊎ (m - (arc p.live.graph a).tokens ≢ n)
    reads_not u m there changed none a enters later =
        let tokens = (arc p.live.graph a).tokens in
        elim (same_date (arc p.live.graph a).from (m - tokens) t n) [
          | inr other ↦ other
          | inl same ↦
              let job : n + tokens ≡ m = omega (arith, same.1) in
              let starts : StartsAt p.live.graph t a = (enters.0, same.0) in
              let within : n + tokens ≤ jobs p.live.graph = omega (arith, job, there.job) in
              let target = slot p.live (arc p.live.graph a).to (n + tokens) in
              let room : target < length (without_mark p t n) = omega (arith, slot-room _ _ (reader-date a starts within), length-set p.marks (slot p.live t n) false) in
              let is = marks-with_readers p.live t n (without_mark p t n) a starts within room in
              let at : target ≡ slot p.live u m = ap (slot p.live (arc p.live.graph a).to) job ∙ ap (λ v. slot p.live v m) enters.1 in
              absurd (true≢false (sym is ∙ sym (ap (λ m. is_at m target) (marks_after-changed changed)) ∙ ap (is_at (marks_after p t n)) at ∙ none))
        ]

    due-after : (u m : ℕ) → IsDate p.live.graph u m → is_at (marks_after p t n) (slot p.live u m) ≡ false → due_date (graph_of p) dates_after u m ≡ greatest_term p u m
    due-after u m there none =
        elim (cases_eq (date_at p t n) (greatest_term p t n)) [
          | inl same ↦
              due-same (graph_of p) dates_after p.dates u m (λ a enters later.
              let from = (arc p.live.graph a).from in
              let job = m - (arc p.live.graph a).tokens in
              elim (same_date from job t n) [
                | inl is ↦
                    ap (λ v. date_in dates_after v job) is.0 ∙ ap (date_in dates_after t) is.1 ∙ here ∙ sym same
                    ∙ sym (ap (λ v. date_at p v job) is.0 ∙ ap (date_at p t) is.1)
                | inr other ↦ elsewhere from job (omega arith) other
              ])
          | inr changed ↦ due-elsewhere u m (reads_not u m there changed none)
        ]

    greatest_after : (u m : ℕ) → IsDate p.live.graph u m → is_at (marks_after p t n) (slot p.live u m) ≡ false → date_in dates_after u m ≡ due_date (graph_of p) dates_after u m
    greatest_after u m there none =
        elim (same_date u m t n) [
          | inl same ↦
              ap (λ v. date_in dates_after v m) same.0 ∙ ap (date_in dates_after t) same.1 ∙ here ∙ sym due-here
              ∙ sym (ap (λ v. due_date (graph_of p) dates_after v m) same.0 ∙ ap (due_date (graph_of p) dates_after t) same.1)
          | inr other ↦
              elsewhere u m there.from_one other
              ∙ s.greatest u m there (was_unmarked u m there other none)
              ∙ sym (due-after u m there none)
        ]

    -- the greatest of the terms of a date is never late
    pub greatest_term-early : greatest_term p t n ≤ latest_at (slot p.live t n)
    greatest_term-early =
        due-early p.live p.inputs graph up p.dates s.limits t n date (λ u m there before. s.early u m there)

    early_after : (u m : ℕ) → IsDate p.live.graph u m → date_in dates_after u m ≤ latest_at (slot p.live u m)
    early_after u m there =
        elim (same_date u m t n) [
          | inl same ↦
              omega (arith, ap (λ v. date_in dates_after v m) same.0, ap (date_in dates_after t) same.1, here, greatest_term-early, ap (λ v. slot p.live v m) same.0, ap (slot p.live t) same.1)
          | inr other ↦ omega (arith, elsewhere u m there.from_one other, s.early u m there)
        ]

    pub date_at-evaluated : date_at (after_evaluation p t n) t n ≡ greatest_term p t n
    unfolding after_evaluation dates_after
    date_at-evaluated = here

    pub date_at-elsewhere : (u m : ℕ) → 1 ≤ m → (u ≢ t) ⊎ (m ≢ n) → date_at (after_evaluation p t n) u m ≡ date_at p u m
    unfolding after_evaluation dates_after
    date_at-elsewhere = elsewhere

    pub evaluated-is_sheet : IsSheet (after_evaluation p t n)
    unfolding after_evaluation dates_after
    evaluated-is_sheet = record {
      ranked = s.ranked;
      limits = s.limits;
      demand_for_each = s.demand_for_each;
      times = s.times;
      first = s.first;
      dates = HasRows-with_number p.live.graph p.dates s.dates t n date (greatest_term p t n);
      room = omega (arith, s.room, length-marks_after);
      marks_exist = marks_after-exist;
      early = early_after;
      greatest = greatest_after;
    }

    -- ---- another time

    -- where a date gets a mark, the others have theirs as before
    is_marked-other : (u m : ℕ) → IsDate p.live.graph u m → (u ≢ t) ⊎ (m ≢ n) → is_at (with_mark p t n) (slot p.live u m) ≡ is_marked p u m
    is_marked-other u m there other =
        is_at-set_other p.marks (slot p.live t n) (slot p.live u m) true (slots_differ u m t n there date other)

    -- a date without a mark isn't the one that got it
    isnt_marked : (u m : ℕ) → IsDate p.live.graph u m → is_at (with_mark p t n) (slot p.live u m) ≡ false → (u ≢ t) ⊎ (m ≢ n)
    isnt_marked u m there none =
        elim (same_date u m t n) [
          | inr other ↦ other
          | inl same ↦
              let at : slot p.live u m ≡ slot p.live t n = ap (λ v. slot p.live v m) same.0 ∙ ap (slot p.live t) same.1 in
              absurd (true≢false (sym (is_at-set_same p.marks (slot p.live t n) true (slot-room t n date)) ∙ sym (ap (is_at (with_mark p t n)) at) ∙ none))
        ]

    marked-exist : (k : ℕ) → is_at (with_mark p t n) k ≡ true → k < date_count p.live.graph
    marked-exist k is =
        elim (cases_eq k (slot p.live t n)) [
          | inl same ↦ omega (arith, slot-below p.live up t n date, same)
          | inr other ↦ s.marks_exist k (sym (is_at-set_other p.marks (slot p.live t n) k true other) ∙ is)
        ]

    module _ (time_ : ℕ) (short : time_ ≤ longest_time) where
      inputs_retimed : Inputs
      inputs_retimed = with_time p.inputs t n time_

      time-retimed : (u m : ℕ) → IsDate p.live.graph u m → (u ≢ t) ⊎ (m ≢ n) → time (edited_graph p.live.graph inputs_retimed) u m ≡ time (graph_of p) u m
      unfolding inputs_retimed
      time-retimed u m there other =
          let in_times : u < length p.inputs.times = omega (arith, there.station, s.times.row_for_each) in
          time-edited p.live.graph (with_time p.inputs t n time_) u m (omega (arith, in_times, length-set p.inputs.times t (set (get_or p.inputs.times t []) (n - 1) time_))) there.from_one
          ∙ date_in-other p.live.graph p.inputs.times s.times t n date time_ u m there.from_one other
          ∙ sym (time-edited p.live.graph p.inputs u m in_times there.from_one)

      pub retimed-is_sheet : IsSheet (with_new_time p t n time_)
      unfolding inputs_retimed
      retimed-is_sheet = record {
        ranked = s.ranked;
        limits = edited-limits p.live.graph (with_time p.inputs t n time_) s.ranked.limits
            (HasRows-with_number p.live.graph p.inputs.times s.times t n date time_)
            (with_number-short p.live.graph p.inputs.times t n time_ s.times date short (edited-short p.live.graph p.inputs s.times s.limits))
            s.demand_for_each
            s.limits.demands_in_order
            s.limits.demands_small;
        demand_for_each = s.demand_for_each;
        times = HasRows-with_number p.live.graph p.inputs.times s.times t n date time_;
        first = s.first;
        dates = s.dates;
        room = omega (arith, s.room, length-set p.marks (slot p.live t n) true);
        marks_exist = marked-exist;
        early = s.early;
        greatest = λ u m there none.
            let other = isnt_marked u m there none in
            s.greatest u m there (sym (is_marked-other u m there other) ∙ none)
            ∙ sym (due-inputs p.live.graph (with_time p.inputs t n time_) p.inputs p.dates u m (λ feed. demand-edited p.live.graph (with_time p.inputs t n time_) m ∙ sym (demand-edited p.live.graph p.inputs m)) (λ machine. time-retimed u m there other));
      }

  module _ (n date_ : ℕ) (fits : FitsBetween p.inputs.demands n date_) (small : date_ ≤ last_demand) where
    feed-date : IsDate p.live.graph 0 n
    feed-date = record {
      station = omega (arith, s.ranked.limits.some_station);
      from_one = fits.from_one;
      job = omega (arith, fits.job, s.demand_for_each);
    }

    demand-redemanded : (m : ℕ) → 1 ≤ m → m ≢ n → demand (edited_graph p.live.graph (with_demand p.inputs n date_)) m ≡ demand (graph_of p) m
    demand-redemanded m one other =
        demand-edited p.live.graph (with_demand p.inputs n date_) m
        ∙ get_or-set_other p.inputs.demands (n - 1) (m - 1) date_ 0 (λ e. other (omega (arith, e, fits.from_one)))
        ∙ sym (demand-edited p.live.graph p.inputs m)

    time-redemanded : (u m : ℕ) → IsDate p.live.graph u m → time (edited_graph p.live.graph (with_demand p.inputs n date_)) u m ≡ time (graph_of p) u m
    time-redemanded u m there =
        let in_times : u < length p.inputs.times = omega (arith, there.station, s.times.row_for_each) in
        time-edited p.live.graph (with_demand p.inputs n date_) u m in_times there.from_one
        ∙ sym (time-edited p.live.graph p.inputs u m in_times there.from_one)

    pub redemanded-is_sheet : IsSheet (with_new_demand p n date_)
    redemanded-is_sheet =
        let many = length-set p.inputs.demands (n - 1) date_ ∙ s.demand_for_each in
        record {
          ranked = s.ranked;
          limits = edited-limits p.live.graph (with_demand p.inputs n date_) s.ranked.limits
              s.times
              (edited-short p.live.graph p.inputs s.times s.limits)
              many
              (stays_in_order p.inputs.demands s.limits.demands_in_order n date_ fits)
              (All-set (λ d. d ≤ last_demand) p.inputs.demands (n - 1) date_ small s.limits.demands_small);
          demand_for_each = many;
          times = s.times;
          first = s.first;
          dates = s.dates;
          room = omega (arith, s.room, length-set p.marks (slot p.live 0 n) true);
          marks_exist = marked-exist 0 n feed-date;
          early = s.early;
          greatest = λ u m there none.
              let other = isnt_marked 0 n feed-date u m there none in
              s.greatest u m there (sym (is_marked-other 0 n feed-date u m there other) ∙ none)
              ∙ sym (due-inputs p.live.graph (with_demand p.inputs n date_) p.inputs p.dates u m
              (λ feed. demand-redemanded m there.from_one (λ job. elim other [ inl far ↦ far feed | inr far ↦ far job ]))
              (λ machine. time-redemanded u m there));
        }
