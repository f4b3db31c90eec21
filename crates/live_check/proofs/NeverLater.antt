-- More tokens, never later: the dates of a least solution do not fall, so they solve the graph with more tokens too.
use Rattle.std.proofs.Common.{◌≡◌, ℕ, ◌+◌, ◌-◌, ◌<◌, ◌≤◌, ◌⊎◌, Bool, cond, ltb, List, [], ◌∷◌, length, get_or, min, refl, sym, ap, ◌∙◌, inl, inr, arith, zero, suc, add-zero}
use Rattle.std.specs.List.Sorted.{IsNonDecreasing}
use Rattle.std.proofs.lemmas.Bool.{cases_lt, lt-ltb}
use Rattle.std.proofs.lemmas.Bool.Decides.{nat_tests}
use Rattle.std.proofs.lemmas.List.{get_or_past}
use Rattle.std.proofs.lemmas.List.Sums.{sum_by-le-sum_by}
use Rattle.std.proofs.lemmas.List.Elements.{AllZip-get_or, length_all_zip}
use Rattle.std.proofs.Math.Nat.{le_trans}
use Rattle.line_base.specs.declared.times.Times.{Times}
use Rattle.line_base.specs.declared.times.Times.TheVariants.{Fixed, Each}
use Rattle.line_base.specs.Times.{time_at}
use Rattle.line_base.specs.declared.event.Parts.{Parts}
use Rattle.event_graph.specs.Varying.{IsList}
use Rattle.event_graph.specs.Network.{IsGraph, arc, arc_count, stations, jobs, demand, delay, time}
use Rattle.event_graph.specs.Circuit.{IsWalk, IsCircuit, starting_stations}
use Rattle.event_graph.specs.Live.{IsLive}
use Rattle.event_graph.specs.Table.{Table}
use Rattle.event_graph.specs.Term.{work, term}
use Rattle.event_graph.specs.Solves.{Solves}
use Rattle.event_graph.specs.Least.{IsLeast}
use Rattle.live_check.specs.MoreTokens.{KeepsArc, HasMoreTokens, HasOwnToken, ListsKeepOrder, MoreTokensNeverLater}
use Rattle.event_graph.proofs.GreatestTerms.{term-le}

-- the lesser of each date and the next, up to job h
unfoldable pub early : ℕ → Table → Table
early h x t n = cond (ltb n h) (min (x t n) (x t (n + 1))) (x t n)

pub early-le : (h : ℕ) (x : Table) (t n : ℕ) → early h x t n ≤ x t n
unfolding early
early-le h x t n = grind (arith, nat_tests)

pub early-le-next : (h : ℕ) (x : Table) (t n : ℕ) → n < h → early h x t n ≤ x t (n + 1)
unfolding early
early-le-next h x t n below = grind (arith, nat_tests)

pub le-early : (h : ℕ) (x : Table) (t n z : ℕ) → z ≤ x t n → (n < h → z ≤ x t (n + 1)) → z ≤ early h x t n
unfolding early
le-early h x t n z here next =
    elim (cases_lt n h) [ inl below ↦ (let later = next below in grind (arith, nat_tests)) | inr past ↦ grind (arith, nat_tests) ]

-- the part of a term that comes along an arc: with m tokens, from dates f, for job n
unfoldable pub along : ℕ → ℕ → (ℕ → ℕ) → ℕ → ℕ
along m d f n = cond (ltb m n) (f (n - m) + d) 0

-- fewer tokens, later dates or a later job give no earlier part
pub along-le : (m k d n p : ℕ) (f g : ℕ → ℕ) → (m < n → (k < p) × (f (n - m) ≤ g (p - k))) → along m d f n ≤ along k d g p
unfolding along
along-le m k d n p f g h =
    elim (cases_lt m n) [ inl above ↦ (let later = h above in grind (arith, nat_tests)) | inr within ↦ grind (arith, nat_tests) ]

term-along : (g : Parts) (x : Table) (a n : ℕ) → term g x a n ≡ work g a n + along (arc g a).tokens (delay g a) (x (arc g a).from) n
unfolding along
term-along g x a n = refl

-- where the times are no list, each job has the same time
time_at-next : (times : Times) (n : ℕ) → (IsList times → ⊥) → time_at times n ≡ time_at times (n + 1)
time_at-next (Fixed w) n fixed = refl
time_at-next (Each ws) n fixed = absurd (fixed tt)

cases_IsList : (times : Times) → IsList times ⊎ (IsList times → ⊥)
cases_IsList (Fixed w) = inr (λ h. h)
cases_IsList (Each ws) = inl tt

-- the dates of a table do not fall from job n to the next
abbrev pub IsRising : Parts → Table → Type 0
IsRising g x = (t n : ℕ) → t < stations g → 1 ≤ n → n < jobs g → x t n ≤ x t (n + 1)

along-one : (k d n : ℕ) (f : ℕ → ℕ) → k ≡ 1 → 1 ≤ n → f n ≤ along k d f (n + 1)
unfolding along
along-one k d n f one low =
    let above : k < n + 1 = omega arith in
    let same : n + 1 - k ≡ n = omega arith in
    rw (lt-ltb k (n + 1) above) (rw same (omega arith))

-- one token on an arc of a station to itself keeps its jobs in order
pub own-le : (g : Parts) (x : Table) (t n : ℕ) → Solves g x → HasOwnToken g t → 1 ≤ n → n < jobs g → x t n ≤ x t (n + 1)
own-le g x t n solves token one below =
    let b = token.own in
    let part = along-one (arc g b).tokens (delay g b) n (x (arc g b).from) token.one one in
    let fits = solves.others b (n + 1) token.exists (omega arith) (omega arith) in
    omega (arith, part, fits, term-along g x b (n + 1), ap (λ u. x u n) token.from, ap (λ u. x u (n + 1)) token.to)

-- where the job times of its end do not vary, the early dates along an arc fit the next job
fixed-le : (g : Parts) (x : Table) (a n : ℕ) → Solves g x → a < arc_count g → (IsList (get_or g.times (arc g a).to (Fixed 0)) → ⊥) → 1 ≤ n → n < jobs g → term g (early (jobs g) x) a n ≤ x (arc g a).to (n + 1)
unfolding time work
fixed-le g x a n solves exists fixed one below =
    let h = jobs g in
    let m = (arc g a).tokens in
    let from = (arc g a).from in
    let same_time : time g (arc g a).to n ≡ time g (arc g a).to (n + 1) = time_at-next _ n fixed in
    let same_work : work g a n ≡ work g a (n + 1) = ap (λ w. cond (arc g a).worked w 0) same_time in
    let part : along m (delay g a) (early h x from) n ≤ along m (delay g a) (x from) (n + 1) = along-le m m (delay g a) n (n + 1) (early h x from) (x from) (λ above. (omega arith, let e : n + 1 - m ≡ n - m + 1 = omega arith in rw e (early-le-next h x from (n - m) (omega arith)))) in
    let fits = solves.others a (n + 1) exists (omega arith) (omega arith) in
    omega (arith, part, fits, same_work, term-along g (early h x) a n, term-along g x a (n + 1))

early-others : (g : Parts) (x : Table) (a n : ℕ) → IsGraph g → ListsKeepOrder g → Solves g x → a < arc_count g → 1 ≤ n → n ≤ jobs g → term g (early (jobs g) x) a n ≤ early (jobs g) x (arc g a).to n
early-others g x a n graph order solves exists one within =
    let h = jobs g in
    let now : term g (early h x) a n ≤ x (arc g a).to n = le_trans (term-le g x (early h x) a n (λ k. early-le h x (arc g a).from k)) (solves.others a n exists one within) in
    le-early h x (arc g a).to n (term g (early h x) a n) now
    (λ below. elim (cases_IsList (get_or g.times (arc g a).to (Fixed 0))) [
      | inl list ↦ le_trans now (own-le g x (arc g a).to n solves (order (arc g a).to (graph.ends_exist a exists) list) one below)
      | inr fixed ↦ fixed-le g x a n solves exists fixed one below
    ])

-- the early dates solve the graph too
early-solves : (g : Parts) (x : Table) → IsGraph g → IsNonDecreasing g.dates → ListsKeepOrder g → Solves g x → Solves g (early (jobs g) x)
unfolding demand
early-solves g x graph dates order solves = record {
  feed = λ n one within.
      le-early (jobs g) x 0 n (demand g n) (solves.feed n one within)
      (λ below. le_trans (dates (n - 1) (n + 1 - 1) 0 (omega arith) (omega arith)) (solves.feed (n + 1) (omega arith) (omega arith)));
  others = λ a n exists one within. early-others g x a n graph order solves exists one within;
}

-- so no date of the least solution is above the next
pub least-rises : (g : Parts) (x : Table) → IsGraph g → IsNonDecreasing g.dates → ListsKeepOrder g → IsLeast g x → IsRising g x
least-rises g x graph dates order least t n exists one below =
    let h = jobs g in
    le_trans (least.least (early h x) (early-solves g x graph dates order least.solves) t n exists one (omega arith)) (early-le-next h x t n below)

-- from any job to a later one
pub rises : (g : Parts) (x : Table) → IsRising g x → (t n k : ℕ) → t < stations g → 1 ≤ n → n + k ≤ jobs g → x t n ≤ x t (n + k)
rises g x up t n zero exists one within = rw add-zero (omega arith)
rises g x up t n (suc k) exists one within =
    let e : n + suc k ≡ n + k + 1 = omega arith in
    rw e (le_trans (rises g x up t n k exists one (omega arith)) (up t (n + k) exists (omega arith) (omega arith)))

-- from any job to a later one, by their numbers
rises_to : (g : Parts) (x : Table) → IsRising g x → (t n p : ℕ) → t < stations g → 1 ≤ n → n ≤ p → p ≤ jobs g → x t n ≤ x t p
rises_to g x up t n p exists one below within =
    let e : n + (p - n) ≡ p = omega arith in
    rw (← e) (rises g x up t n (p - n) exists one (omega arith))

-- ---- the two graphs

arc-keeps : (few many : Parts) → HasMoreTokens few many → (a : ℕ) → KeepsArc (arc few a) (arc many a)
arc-keeps few many more a =
    let e = length_all_zip KeepsArc few.arcs many.arcs more.arcs in
    elim (cases_lt a (arc_count few)) [
      | inl exists ↦ AllZip-get_or KeepsArc few.arcs many.arcs a _ _ more.arcs exists
      | inr past ↦
          let behind : length many.arcs ≤ a = omega arith in
          rw (get_or_past few.arcs, get_or_past many.arcs) (record { from = refl; to = refl; worked = refl; tokens = omega arith })
    ]

work_at : Bool → List Times → ℕ → ℕ → ℕ
work_at worked times t n = cond worked (time_at (get_or times t (Fixed 0)) n) 0

work-keeps : (few many : Parts) → HasMoreTokens few many → (a n : ℕ) → work many a n ≡ work few a n
unfolding work time work_at
work-keeps few many more a n =
    let keeps = arc-keeps few many more a in
    ap (λ w. work_at w many.times (arc many a).to n) keeps.worked ∙ (ap (λ ts. work_at (arc few a).worked ts (arc many a).to n) more.times ∙ ap (λ t. work_at (arc few a).worked few.times t n) keeps.to)

delay-keeps : (few many : Parts) → HasMoreTokens few many → (a : ℕ) → delay many a ≡ delay few a
unfolding delay
delay-keeps few many more a = ap (λ ds. get_or ds a 0) more.delays

demand-keeps : (few many : Parts) → HasMoreTokens few many → (n : ℕ) → demand many n ≡ demand few n
unfolding demand
demand-keeps few many more n = ap (λ ds. get_or ds (n - 1) 0) more.dates

-- where dates do not fall, more tokens ask for no later dates
term-keeps : (few many : Parts) (x : Table) → IsGraph few → HasMoreTokens few many → IsRising few x → (a n : ℕ) → a < arc_count few → n ≤ jobs few → term many x a n ≤ term few x a n
term-keeps few many x graph more up a n exists within =
    let keeps = arc-keeps few many more a in
    let from = (arc few a).from in
    let part : along (arc many a).tokens (delay few a) (x from) n ≤ along (arc few a).tokens (delay few a) (x from) n = along-le (arc many a).tokens (arc few a).tokens (delay few a) n n (x from) (x from) (λ above. (omega (arith, keeps.tokens), rises_to few x up from (n - (arc many a).tokens) (n - (arc few a).tokens) (graph.starts_exist a exists) (omega arith) (omega (arith, keeps.tokens)) (omega arith))) in
    let same = ap (λ t. along (arc many a).tokens (delay many a) (x t) n) keeps.from ∙ ap (λ d. along (arc many a).tokens d (x from) n) (delay-keeps few many more a) in
    omega (arith, part, same, term-along few x a n, term-along many x a n, work-keeps few many more a n)

-- so the least solution of the first graph solves the second
keeps-solves : (few many : Parts) (x : Table) → IsGraph few → HasMoreTokens few many → IsRising few x → Solves few x → Solves many x
keeps-solves few many x graph more up solves =
    let same_jobs = ap (λ ds. length ds) more.dates in
    let same_arcs = length_all_zip KeepsArc few.arcs many.arcs more.arcs in
    record {
      feed = λ n one within. rw (demand-keeps few many more n) (solves.feed n one (omega arith));
      others = λ a n exists one within.
          rw (arc-keeps few many more a).to
          (le_trans (term-keeps few many x graph more up a n (omega arith) (omega arith)) (solves.others a n (omega arith) one (omega arith)));
    }

-- ---- circuits

walk-keeps : (few many : Parts) → HasMoreTokens few many → (t u : ℕ) (arcs : List ℕ) → IsWalk many t arcs u → IsWalk few t arcs u
walk-keeps few many more t u [] walk = walk
walk-keeps few many more t u (a ∷ arcs) walk =
    let keeps = arc-keeps few many more a in
    let same_arcs = length_all_zip KeepsArc few.arcs many.arcs more.arcs in
    (omega (arith, walk.0), sym keeps.from ∙ walk.1, walk-keeps few many more (arc few a).to u arcs (rw (← keeps.to) walk.2))

starts-keep : (few many : Parts) → HasMoreTokens few many → (arcs : List ℕ) → starting_stations few arcs ≡ starting_stations many arcs
starts-keep few many more [] = refl
starts-keep few many more (a ∷ arcs) =
    let start = (arc-keeps few many more a).from in
    let rest = starts-keep few many more arcs in
    ap (λ t. t ∷ starting_stations few arcs) (sym start) ∙ ap (λ ts. (arc many a).from ∷ ts) rest

circuit-keeps : (few many : Parts) → HasMoreTokens few many → (arcs : List ℕ) → IsCircuit many arcs → IsCircuit few arcs
circuit-keeps few many more arcs circuit = record {
  some = circuit.some;
  base = circuit.base;
  closed = walk-keeps few many more circuit.base circuit.base arcs circuit.closed;
  distinct = rw (starts-keep few many more arcs) circuit.distinct;
}

live-keeps : (few many : Parts) → HasMoreTokens few many → IsLive few → IsLive many
live-keeps few many more live arcs circuit =
    le_trans (live arcs (circuit-keeps few many more arcs circuit))
    (sum_by-le-sum_by (λ a. (arc few a).tokens) (λ a. (arc many a).tokens) arcs (λ a. (arc-keeps few many more a).tokens))

pub never_later : MoreTokensNeverLater
never_later few many graph dates order live more = record {
  live = live-keeps few many more live;
  dates = λ x y least_x least_y t n exists one within.
      let up = least-rises few x graph dates order least_x in
      let solves = keeps-solves few many x graph more up least_x.solves in
      let same_stations = ap (λ ls. length ls) more.labels in
      let same_jobs = ap (λ ds. length ds) more.dates in
      least_y.least x solves t n (omega arith) one (omega arith);
}
