-- Lemmas on the edited graph: its limits, and where edits leave the greatest of the terms as it was.
use Rattle.std.proofs.Common.{◌≡◌, ◌≢◌, ℕ, ◌+◌, ◌-◌, ◌*◌, ◌<◌, ◌≤◌, cond, ltb, List, [], map, length, get_or, set, refl, sym, ap, ◌∙◌, subst, arith, inl, inr}
use Rattle.std.specs.List.{All}
use Rattle.std.specs.List.Sorted.{IsNonDecreasing}
use Rattle.std.proofs.lemmas.Bool.{cases_eq}
use Rattle.std.proofs.lemmas.List.{get_or-map, length-map, get_or-set_same, get_or-set_other, length-set}
use Rattle.std.proofs.lemmas.List.Elements.{All-set}
use Rattle.std.proofs.lemmas.List.Sorted.{IsNonDecreasingBy-from_default}
use Rattle.line_base.specs.Limits.{longest_time, last_demand}
use Rattle.line_base.specs.Times.{time_at}
use Rattle.line_base.specs.declared.event.Parts.{Parts}
use Rattle.line_base.specs.declared.times.Times.{Times}
use Rattle.line_base.specs.declared.times.Times.TheVariants.{Fixed, Each}
use Rattle.event_graph.specs.Network.{stations, jobs, arc, ins, time, demand, delay, EndsAt}
use Rattle.event_graph.specs.Limits.{IsWithinLimits, AreTimesFor}
use Rattle.event_graph.specs.Table.{date_in}
use Rattle.event_graph.specs.Term.{term, work, token_date}
use Rattle.event_graph.specs.GreatestValue.{greatest}
use Rattle.event_graph.proofs.ArcNumbers.{All-ins}
use Rattle.event_graph.proofs.Greatest.{greatest-same}
use Rattle.line_core.specs.Consistent.{due_date}
use Rattle.what_if.specs.Edited.{Inputs, edited_graph, with_number, FitsBetween}
use Rattle.what_if.specs.Page.{IsDate}
use Rattle.what_if.specs.Sheet.{HasRows}
use Rattle.what_if.proofs.Rows.{date_in-at}
use Rattle.what_if.proofs.Terms.{due-feed, due-other}

-- no time of these lists is too long
pub record AreShort (g : Parts) (rows : List (List ℕ)) : Type 0 where
  pub each : (t : ℕ) → t < stations g → All (λ time. time ≤ longest_time) (get_or rows t [])

times-at : (rows : List (List ℕ)) (t : ℕ) (d : Times) → t < length rows → get_or (map Each rows) t d ≡ Each (get_or rows t [])
times-at rows t d low = get_or-map Each rows t [] d low

-- the time of a job in the edited graph
pub time-edited : (g : Parts) (i : Inputs) (t n : ℕ) → t < length i.times → 1 ≤ n → time (edited_graph g i) t n ≡ date_in i.times t n
unfolding time
time-edited g i t n there one =
    ap (λ times. time_at times n) (times-at i.times t (Fixed 0) there) ∙ sym (date_in-at i.times t n one)

-- the demand date of a job in it
pub demand-edited : (g : Parts) (i : Inputs) (n : ℕ) → demand (edited_graph g i) n ≡ get_or i.demands (n - 1) 0
unfolding demand
demand-edited g i n = refl

-- the edited graph is within the limits where its times and demand dates are
pub edited-limits : (g : Parts) (i : Inputs) → IsWithinLimits g → HasRows g i.times → AreShort g i.times → length i.demands ≡ jobs g → IsNonDecreasing i.demands → All (λ date. date ≤ last_demand) i.demands → IsWithinLimits (edited_graph g i)
edited-limits g i limits has short many in_order small = record {
  some_station = limits.some_station;
  few_stations = limits.few_stations;
  some_job = omega (arith, limits.some_job, many);
  few_jobs = omega (arith, limits.few_jobs, many);
  small_table = subst (λ n. stations g * n ≤ 1_000_000) (sym many) limits.small_table;
  demands_in_order = in_order;
  demands_small = small;
  times_for_each = length-map i.times Each ∙ has.row_for_each;
  times_small = λ t d low.
      let there : t < length i.times = omega (arith, low, length-map i.times Each) in
      let station : t < stations g = omega (arith, there, has.row_for_each) in
      subst (AreTimesFor (length i.demands)) (sym (times-at i.times t d there)) (has.number_for_each t station ∙ sym many, short.each t station);
  few_arcs = limits.few_arcs;
  few_tokens = limits.few_tokens;
  delays_for_each = limits.delays_for_each;
  delays_small = limits.delays_small;
}

-- and then they are
pub edited-short : (g : Parts) (i : Inputs) → HasRows g i.times → IsWithinLimits (edited_graph g i) → AreShort g i.times
edited-short g i has limits = record {
  each = λ t there.
      let low : t < length i.times = omega (arith, there, has.row_for_each) in
      let times = limits.times_small t (Fixed 0) (omega (arith, low, length-map i.times Each)) in
      (subst (AreTimesFor (length i.demands)) (times-at i.times t (Fixed 0) low) times).1;
}

pub with_number-short : (g : Parts) (rows : List (List ℕ)) (t n number : ℕ) → HasRows g rows → IsDate g t n → number ≤ longest_time → AreShort g rows → AreShort g (with_number rows t n number)
with_number-short g rows t n number has date small short = record {
  each = λ u there.
      let IsShort : ℕ → Type 0 = λ time. time ≤ longest_time in
      let changed = set (get_or rows t []) (n - 1) number in
      elim (cases_eq u t) [
        | inl same ↦
            subst (All IsShort) (sym (ap (λ v. get_or (with_number rows t n number) v []) same ∙ get_or-set_same rows t changed [] (omega (arith, date.station, has.row_for_each)))) (
            All-set IsShort (get_or rows t []) (n - 1) number small (short.each t date.station))
        | inr far ↦ subst (All IsShort) (sym (get_or-set_other rows t u changed [] far)) (short.each u there)
      ];
}

-- demand dates stay in order where the new one fits between its neighbours
module _ (dates : List ℕ) (in_order : IsNonDecreasing dates) (n date : ℕ) (fits : FitsBetween dates n date) where
  at-changed : (k : ℕ) → k ≡ n - 1 → get_or (set dates (n - 1) date) k 0 ≡ date
  at-changed k same =
      ap (λ j. get_or (set dates (n - 1) date) j 0) same
      ∙ get_or-set_same dates (n - 1) date 0 (omega (arith, fits.from_one, fits.job))

  at-other : (k : ℕ) → k ≢ n - 1 → get_or (set dates (n - 1) date) k 0 ≡ get_or dates k 0
  at-other k other = get_or-set_other dates (n - 1) k date 0 other

  in_order_between : (i j : ℕ) → i ≤ j → j < length (set dates (n - 1) date) → get_or (set dates (n - 1) date) i 0 ≤ get_or (set dates (n - 1) date) j 0
  in_order_between i j upward low =
      let within : j < length dates = omega (arith, low, length-set dates (n - 1) date) in
      elim (cases_eq i (n - 1)) [
        | inl i_is ↦ elim (cases_eq j (n - 1)) [
          | inl j_is ↦ omega (arith, at-changed i i_is, at-changed j j_is)
          | inr j_far ↦ omega (arith, at-changed i i_is, at-other j j_far, fits.from_one, fits.not_after (omega (arith, fits.from_one)), in_order n j 0 (omega (arith, fits.from_one)) within)
        ]
        | inr i_far ↦ elim (cases_eq j (n - 1)) [
          | inl j_is ↦ omega (arith, at-other i i_far, at-changed j j_is, fits.not_before (omega arith), in_order i (n - 2) 0 (omega arith) (omega arith))
          | inr j_far ↦ omega (arith, at-other i i_far, at-other j j_far, in_order i j 0 upward within)
        ]
      ]

  pub stays_in_order : IsNonDecreasing (set dates (n - 1) date)
  stays_in_order = IsNonDecreasingBy-from_default (λ x. x) (set dates (n - 1) date) 0 in_order_between

-- ---- the greatest of the terms over other inputs

-- the graph with these times and demand dates, of any kind
abbrev pub re : Parts → List Times → List ℕ → Parts
re g times dates = record g { times = times; dates = dates }

module _ (g : Parts) (ts us : List Times) (ds es : List ℕ) where
  ins-re : (t : ℕ) → ins (re g ts ds) t ≡ ins (re g us es) t
  unfolding ins
  ins-re t = refl

  delay-re : (a : ℕ) → delay (re g ts ds) a ≡ delay (re g us es) a
  unfolding delay
  delay-re a = refl

  work-re : (a n : ℕ) → time (re g ts ds) (arc g a).to n ≡ time (re g us es) (arc g a).to n → work (re g ts ds) a n ≡ work (re g us es) a n
  unfolding work
  work-re a n same = ap (λ time. cond (arc g a).worked time 0) same

  term-re : (rows : List (List ℕ)) (t a n : ℕ) → EndsAt g t a → time (re g ts ds) t n ≡ time (re g us es) t n → term (re g ts ds) (date_in rows) a n ≡ term (re g us es) (date_in rows) a n
  term-re rows t a n enters same =
      let at : time (re g ts ds) (arc g a).to n ≡ time (re g us es) (arc g a).to n = ap (λ u. time (re g ts ds) u n) enters.1 ∙ same ∙ ap (λ u. time (re g us es) u n) (sym enters.1) in
      let token_with : ℕ → ℕ = λ d. cond (ltb (arc g a).tokens n) (date_in rows (arc g a).from (n - (arc g a).tokens) + d) 0 in
      ap (λ w. w + token_date (re g ts ds) (date_in rows) a n) (work-re a n at)
      ∙ ap (λ d. work (re g us es) a n + token_with d) (delay-re a)

  pub due-re : (rows : List (List ℕ)) (t n : ℕ) → (t ≡ 0 → demand (re g ts ds) n ≡ demand (re g us es) n) → (t ≢ 0 → time (re g ts ds) t n ≡ time (re g us es) t n) → due_date (re g ts ds) rows t n ≡ due_date (re g us es) rows t n
  due-re rows t n feed others =
      elim (cases_eq t 0) [
        | inl zero_th ↦
            ap (λ u. due_date (re g ts ds) rows u n) zero_th
            ∙ due-feed (re g ts ds) rows n
            ∙ feed zero_th
            ∙ sym (due-feed (re g us es) rows n)
            ∙ ap (λ u. due_date (re g us es) rows u n) (sym zero_th)
        | inr other ↦
            let old = λ (a : ℕ). term (re g ts ds) (date_in rows) a n in
            let new = λ (a : ℕ). term (re g us es) (date_in rows) a n in
            due-other (re g ts ds) rows t n other
            ∙ greatest-same old new (ins (re g ts ds) t) (λ k d low. term-re rows t (get_or (ins (re g ts ds) t) k d) n (All-ins (re g ts ds) t k d low) (others other))
            ∙ ap (greatest new) (ins-re t)
            ∙ sym (due-other (re g us es) rows t n other)
      ]

-- over other inputs
pub due-inputs : (g : Parts) (i j : Inputs) (rows : List (List ℕ)) (t n : ℕ) → (t ≡ 0 → demand (edited_graph g i) n ≡ demand (edited_graph g j) n) → (t ≢ 0 → time (edited_graph g i) t n ≡ time (edited_graph g j) t n) → due_date (edited_graph g i) rows t n ≡ due_date (edited_graph g j) rows t n
due-inputs g i j = due-re g (map Each i.times) (map Each j.times) i.demands j.demands

-- and over those of the graph itself
pub due-own : (g : Parts) (i : Inputs) (rows : List (List ℕ)) (t n : ℕ) → (t ≡ 0 → demand (edited_graph g i) n ≡ demand g n) → (t ≢ 0 → time (edited_graph g i) t n ≡ time g t n) → due_date (edited_graph g i) rows t n ≡ due_date g rows t n
due-own g i = due-re g (map Each i.times) g.times i.demands g.dates

pub ins-edited : (g : Parts) (i : Inputs) (t : ℕ) → ins (edited_graph g i) t ≡ ins g t
ins-edited g i t = ins-re g (map Each i.times) g.times i.demands g.dates t

pub delay-edited : (g : Parts) (i : Inputs) (a : ℕ) → delay (edited_graph g i) a ≡ delay g a
delay-edited g i a = delay-re g (map Each i.times) g.times i.demands g.dates a
