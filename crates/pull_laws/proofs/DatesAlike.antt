-- The status of `latest`, `why` and `chart` is decided by the plant: a graph has one least solution.
use Rattle.std.proofs.Common.{◌≡◌, ◌+◌, ◌-◌, ◌<◌, ◌≤◌, ℕ, Bool, true, false, cond, ltb, List, [], ◌∷◌, ◌++◌, length}
use Rattle.std.proofs.Common.{get_or, refl, ap, sym, ◌∙◌, subst, inl, inr, ⊎_elim, arith}
use Rattle.std.specs.Prelude.{Option, Some, Result, filter, map}
use Rattle.std.specs.List.{All, find, flat_map, range_with_len}
use Rattle.std.proofs.lemmas.Bool.{cases_lt, le-ltb}
use Rattle.std.proofs.lemmas.List.Elements.{All-head, All-tail, All-filter}
use Rattle.std.proofs.lemmas.Slice.Eq.{bytes_eq-Decides}
use Rattle.answers.specs.declared.answer.Answer.{Answer}
use Rattle.commands.specs.Answers.{IsLatestOf, IsLateJob, IsLatest, IsCausedBy, IsNoDate, IsWhy, picture_of, IsPictured}
use Rattle.commands.specs.Answers.{IsTooLarge, IsChart}
use Rattle.date_causes.specs.Chain.{IsChain, demanded, started, led}
use Rattle.date_causes.specs.Named.{HasNoDate}
use Rattle.date_causes.specs.WhyText.{why_text}
use Rattle.date_causes.specs.declared.link.Link.{Link}
use Rattle.date_causes.proofs.Names.{named_exists}
use Rattle.event_graph.specs.Least.{IsLeast}
use Rattle.event_graph.specs.Network.{stations, jobs, label, arc, ins, delay, EndsAt, IsGraph}
use Rattle.event_graph.specs.Table.{Table, date_in, IsSameTable}
use Rattle.event_graph.specs.Term.{token_date}
use Rattle.event_graph.proofs.ArcNumbers.{All-ins}
use Rattle.event_graph.proofs.Greatest.{greatest-same}
use Rattle.latest_dates.specs.LatestText.{latest_text}
use Rattle.line_base.specs.declared.event.Parts.{Parts}
use Rattle.line_chart.specs.Bars.{bar, meets, machine_bars, bars, machines, lane_count}
use Rattle.line_chart.specs.Picture.{bars_and_lanes, text_of}
use Rattle.line_chart.specs.Window.{window_of}
use Rattle.line_chart.specs.declared.bar.Bar.{Bar}
use Rattle.line_chart.specs.declared.lanes.Lanes.{Lanes}
use Rattle.line_chart.specs.declared.window.Window.{Window}
use Rattle.line_core.specs.Schedule.{is_label_of, station_with}
use Rattle.line_graph.proofs.Inputs.{IsGraph-graph}
use Rattle.line_graph.proofs.Sizes.{stations-graph}
use Rattle.line_stats.specs.Counts.{job_numbers, last_date}
use Rattle.line_stats.proofs.SameCounts.{All-numbers, last_date-same}
use Rattle.line_chart.specs.Starts.{worked_ins, start}
use Rattle.plant_model.specs.declared.plant.Plant.{Plant}
use Rattle.plant_model.specs.Graph.{graph}
use Rattle.plant_model.specs.Sound.{IsSound}
use Rattle.live_plant.specs.declared.refusals.refusal.Refusal.{Refusal}
use Rattle.live_plant.specs.declared.refusals.refusal.Refusal.TheVariants.{Late, NoDate, TooLarge}
use Rattle.pull_laws.proofs.AnswersAlike.{Ends, text_done, refused_alike, ways_alike}

-- a graph has one least solution
one_least : (g : Parts) (x y : Table) → IsLeast g x → IsLeast g y → IsSameTable g x y
one_least g x y least_x least_y t n there one within =
    omega (
      arith,
      least_x.least y least_y.solves t n there one within,
      least_y.least x least_x.solves t n there one
          within,
    )

-- ---- `latest`

module _ (p : Plant) (wait : ℕ) where
  none_late : (one other : Result Answer Refusal) → IsLatestOf (graph p) wait one → IsLateJob (graph p) wait other → ⊥
  none_late one other is not =
      let g = graph p in
      let all = stations-graph p in
      let first = not.first in
      let same = one_least g (date_in is.rows) (date_in not.rows) is.least not.least in
      let last = same (stations g - 1) not.job (omega arith) first.from_one first.exists in
      let feed = same 0 not.job (omega arith) first.from_one first.exists in
      omega (arith, last, feed, first.waits, first.longer, is.in_time not.job first.from_one first.exists)

  pub latest_alike : (one other : Result Answer Refusal) → IsLatest (graph p) wait one → IsLatest (graph p) wait other →
      Ends one other
  latest_alike =
      ways_alike (IsLatestOf (graph p) wait) (IsLateJob (graph p) wait)
      (λ a is. text_done (latest_text (graph p) (date_in is.rows) is.dates) a is.written)
      (λ a b is not. absurd (none_late a b is not))
      (λ a b not nor.
      refused_alike 19 (Late not.job not.waits) (Late nor.job nor.waits) a b not.says nor.says (inr refl) (inr refl))

-- ---- `why`

-- what is found passes
find_passes : {X : Type 0} (p : X → Bool) (xs : List X) (x : X) → find p xs ≡ Some x → p x ≡ true
find_passes p [] x found = absurd (cc)
find_passes {X} p (y ∷ ys) x found =
    let by_test : (b : Bool) → p y ≡ b → cond b (Some y) (find p ys) ≡ Some x → p x ≡ true =
    λ b. elim b as (λ v. p y ≡ v → cond v (Some y) (find p ys) ≡ Some x → p x ≡ true) [
      | true ↦ λ is e. let same : y ≡ x = cc in subst (λ (v : X). p v ≡ true) same is
      | false ↦ λ is e. find_passes p ys x e
    ] in
    by_test (p y) refl found

-- a chain leads to a date of the graph
chain_job : (g : Parts) (x : Table) (t n : ℕ) (links : List Link) → IsChain g x t n links → n ≤ jobs g
chain_job g x _ _ _ (demanded l link is) = link.job
chain_job g x _ _ _ (started l link is) = link.job
chain_job g x _ _ _ (led links l a link is before) = link.job

module _ (p : Plant) (name : List ℕ) (job : ℕ) where
  has_date : (station : ℕ) → station_with (graph p) name ≡ Some station → job ≤ jobs (graph p) →
      HasNoDate (graph p) name job → ⊥
  has_date station named within (inl none) =
      let g = graph p in
      let passes = find_passes (is_label_of g name) (range_with_len 0 (stations g)) station named in
      none station (named_exists g name station named) ((bytes_eq-Decides (label g station) name).0 passes)
  has_date station named within (inr few) = omega (arith, within, few)

  pub whys_alike : (one other : Result Answer Refusal) → IsWhy p name job one → IsWhy p name job other → Ends one other
  whys_alike =
      ways_alike (IsCausedBy p name job) (IsNoDate p name job)
      (λ a is. text_done (why_text p is.chained.links) a is.chained.written)
      (λ a b is not.
      let chained = is.chained in
      absurd (has_date is.station is.named (chain_job (graph p)
      (date_in chained.rows) is.station job chained.links chained.chain) not.none))
      (λ a b not nor. refused_alike 18 (NoDate name job) (NoDate name job) a b not.says nor.says (inr refl) (inr refl))

-- ---- `chart`

map-alike : {X Y : Type 0} (f h : X → Y) (xs : List X) → All (λ x. f x ≡ h x) xs → map f xs ≡ map h xs
map-alike f h [] all = refl
map-alike f h (x ∷ xs) all =
    ap (λ y. y ∷ map f xs) (All-head (λ z. f z ≡ h z) x xs all)
    ∙ ap (λ ys. h x ∷ ys) (map-alike f h xs (All-tail (λ z. f z ≡ h z) x xs all))

flat_map-alike : {X Y : Type 0} (f h : X → List Y) (xs : List X) → ((x : X) → f x ≡ h x) → flat_map f xs ≡ flat_map h xs
flat_map-alike f h [] same = refl
flat_map-alike f h (x ∷ xs) same =
    ap (λ ys. ys ++ flat_map f xs) (same x) ∙ ap (λ ys. h x ++ ys) (flat_map-alike f h xs same)

module _ (g : Parts) (graph_is : IsGraph g) (x y : Table) (same : IsSameTable g x y) where
  -- a token is put at one date
  token-same : (a n : ℕ) → (arc g a).from < stations g → n ≤ jobs g → token_date g x a n ≡ token_date g y a n
  token-same a n there within =
      ⊎_elim
      (λ later.
      ap (λ (d : ℕ). cond (ltb (arc g a).tokens n) (d + delay g a) 0)
      (same (arc g a).from (n - (arc g a).tokens) there (omega arith) (omega arith)))
      (λ early. ap (λ (b : Bool). cond b (x (arc g a).from (n - (arc g a).tokens) + delay g a) 0)
      (le-ltb (arc g a).tokens n early)
      ∙ sym (ap (λ (b : Bool). cond b (y (arc g a).from (n - (arc g a).tokens) + delay g a) 0)
      (le-ltb (arc g a).tokens n early)))
      (cases_lt (arc g a).tokens n)

  start-same : (t n : ℕ) → n ≤ jobs g → start g x t n ≡ start g y t n
  unfolding start worked_ins
  start-same t n within =
      let test = λ (b : ℕ). (arc g b).worked in
      greatest-same (λ a. token_date g x a n) (λ a. token_date g y a n) (filter test (ins g t))
      (λ k d low.
      let a = get_or (filter test (ins g t)) k d in
      let ends = All-filter test (EndsAt g t) (ins g t) (All-ins g t) k d low in
      token-same a n (graph_is.starts_exist a ends.0) within)

  machine_bars-same : (w : Window) (m : Lanes) → machine_bars g x w m ≡ machine_bars g y w m
  unfolding machine_bars
  machine_bars-same w m =
      ap (λ (bs : List Bar). filter (meets w) bs)
      (map-alike (bar g x m) (bar g y m) (job_numbers g)
      (All-numbers _ 1 (jobs g) (λ n one low. ap (λ (from : ℕ). record (bar g x m n) { start = from })
      (start-same m.station n (omega arith)))))

module _ (p : Plant) (sound : IsSound p) (window : Option (ℕ × ℕ)) where
  bars-same : (x y : Table) → IsSameTable (graph p) x y → (w : Window) → bars p x w ≡ bars p y w
  unfolding bars
  bars-same x y same w =
      let g = graph p in
      flat_map-alike (machine_bars g x w) (machine_bars g y w) (machines p)
      (machine_bars-same g (IsGraph-graph p sound) x y same w)

  bars_and_lanes-same : (rows others : List (List ℕ)) → IsLeast (graph p) (date_in rows) →
      IsLeast (graph p) (date_in others) → bars_and_lanes (picture_of p rows window) ≡ bars_and_lanes
      (picture_of p others window)
  bars_and_lanes-same rows others least least_too =
      let g = graph p in
      let x = date_in rows in
      let y = date_in others in
      let same = one_least g x y least least_too in
      let last = last_date-same p sound x y same in
      ap (λ (d : ℕ). length (bars p x (window_of window d)) + lane_count p) last
      ∙ ap (λ (bs : List Bar). length bs + lane_count p) (bars-same x y same (window_of window (last_date g y)))

  pub charts_alike : (one other : Result Answer Refusal) → IsChart p window one → IsChart p window other →
      Ends one other
  charts_alike =
      ways_alike (IsPictured p window) (IsTooLarge p window)
      (λ a is. text_done (text_of (picture_of p is.rows window)) a is.written)
      (λ a b is not. absurd (omega (
        arith,
        is.small,
        not.large,
        bars_and_lanes-same is.rows not.rows is.least
            not.least,
      )))
      (λ a b not nor.
      refused_alike 20 (TooLarge (bars_and_lanes (picture_of p not.rows window)))
      (TooLarge (bars_and_lanes (picture_of p nor.rows window))) a b not.says nor.says (inr refl) (inr refl))
