-- Texts that are made of the texts of a list's elements, and the bars of a machine one after the other.
use Rattle.std.proofs.Common.{◌≡◌, ℕ, ◌+◌, ◌<◌, ◌≤◌, true, false, cond, List, ◌∷◌, [], ◌++◌, length, get_or, take, map, refl, sym, ap, ◌∙◌, subst, append-nil, arith}
use Rattle.std.specs.Prelude.{codes}
use Rattle.std.specs.List.{All, filter, flat_map, range_with_len}
use Rattle.std.proofs.lemmas.Bool.{lt-ltb, le-ltb}
use Rattle.std.proofs.lemmas.List.{take_more, length-append}
use Rattle.std.proofs.lemmas.List.Sums.{length-filter, count_by-le-length}
use Rattle.std.proofs.lemmas.List.Concat.{flat_map-append}
use Rattle.std.proofs.lemmas.List.FromFn.{filter_of_map_range_with_len_more, length-map-range_with_len}
use Rattle.line_base.specs.declared.event.Parts.{Parts}
use Rattle.event_graph.specs.Table.{Table}
use Rattle.outside_io.specs.Outgoing.{Stream, Pushed}
use Rattle.outside_io.proofs.OutgoingLemmas.{pushed_after, pushed_element}
use Rattle.line_chart.specs.declared.window.Window.{Window}
use Rattle.line_chart.specs.declared.lanes.Lanes.{Lanes}
use Rattle.line_chart.specs.declared.bar.Bar.{Bar}
use Rattle.line_chart.specs.declared.run.ChartRun.{ChartRun}
use Rattle.line_chart.specs.Machines.{IsMachineOf}
use Rattle.line_chart.specs.Picture.{IsOfRun}
use Rattle.event_graph.specs.Network.{jobs}
use Rattle.line_chart.specs.Bars.{bar, meets, machine_bars}
use Rattle.line_chart.specs.ChartText.{with_number, lane_number}

-- the bars of the first jobs of a machine
abbrev pub first_bars : Parts → Table → Window → Lanes → ℕ → List Bar
first_bars g x w m n = filter (meets w) (map (bar g x m) (range_with_len 1 n))

first_bars-more : (g : Parts) (x : Table) (w : Window) (m : Lanes) (n : ℕ) → first_bars g x w m (n + 1) ≡ first_bars g x w m n ++ cond (meets w (bar g x m (n + 1))) (bar g x m (n + 1) ∷ []) []
first_bars-more g x w m n =
    filter_of_map_range_with_len_more (meets w) (bar g x m) 1 n (n + 1) (omega arith)

-- a bar more that meets the window, and one that doesn't
pub first_bars-met : (g : Parts) (x : Table) (w : Window) (m : Lanes) (n : ℕ) → meets w (bar g x m (n + 1)) ≡ true → first_bars g x w m (n + 1) ≡ first_bars g x w m n ++ bar g x m (n + 1) ∷ []
first_bars-met g x w m n met =
    first_bars-more g x w m n ∙ ap (λ b. first_bars g x w m n ++ cond b (bar g x m (n + 1) ∷ []) []) met

pub first_bars-missed : (g : Parts) (x : Table) (w : Window) (m : Lanes) (n : ℕ) → meets w (bar g x m (n + 1)) ≡ false → first_bars g x w m (n + 1) ≡ first_bars g x w m n
first_bars-missed g x w m n missed =
    first_bars-more g x w m n ∙ ap (λ b. first_bars g x w m n ++ cond b (bar g x m (n + 1) ∷ []) []) missed ∙ append-nil (first_bars g x w m n)

pub length-met : (g : Parts) (x : Table) (w : Window) (m : Lanes) (n : ℕ) → meets w (bar g x m (n + 1)) ≡ true → length (first_bars g x w m (n + 1)) ≡ length (first_bars g x w m n) + 1
length-met g x w m n met =
    ap length (first_bars-met g x w m n met) ∙ length-append (first_bars g x w m n) (bar g x m (n + 1) ∷ [])

-- their text
pub text-met : (f : Bar → List ℕ) (g : Parts) (x : Table) (w : Window) (m : Lanes) (n : ℕ) → meets w (bar g x m (n + 1)) ≡ true → flat_map f (first_bars g x w m (n + 1)) ≡ flat_map f (first_bars g x w m n) ++ f (bar g x m (n + 1))
text-met f g x w m n met =
    ap (flat_map f) (first_bars-met g x w m n met) ∙ flat_map-append f (first_bars g x w m n) (bar g x m (n + 1) ∷ []) ∙ ap (λ l. flat_map f (first_bars g x w m n) ++ l) (append-nil (f (bar g x m (n + 1))))

-- the number of a lane, where there are several and where there is one
pub lane_number-several : (count k : ℕ) → 1 < count → lane_number count k ≡ with_number (codes " ") (k + 1)
lane_number-several count k several = rw (lt-ltb 1 count several) refl

pub lane_number-one : (count k : ℕ) → count ≤ 1 → lane_number count k ≡ []
lane_number-one count k one = rw (le-ltb 1 count one) refl

-- of a list of machines, one machine's bars more
pub bars-more : (f : Lanes → List Bar) (ms : List Lanes) (i : ℕ) (d : Lanes) → i < length ms → flat_map f (take (i + 1) ms) ≡ flat_map f (take i ms) ++ f (get_or ms i d)
bars-more f ms i d below =
    ap (flat_map f) (take_more ms i d below) ∙ flat_map-append f (take i ms) (get_or ms i d ∷ []) ∙ ap (λ l. flat_map f (take i ms) ++ l) (append-nil (f (get_or ms i d)))

pub count-more : (f : Lanes → List Bar) (ms : List Lanes) (i : ℕ) (d : Lanes) → i < length ms → length (flat_map f (take (i + 1) ms)) ≡ length (flat_map f (take i ms)) + length (f (get_or ms i d))
count-more f ms i d below = ap length (bars-more f ms i d below) ∙ length-append (flat_map f (take i ms)) (f (get_or ms i d))

pub pushed_bars : {a b c : Stream} (line : Bar → List ℕ) (f : Lanes → List Bar) (ms : List Lanes) (i : ℕ) (d : Lanes) → i < length ms → Pushed a b (flat_map line (flat_map f (take i ms))) → Pushed b c (flat_map line (f (get_or ms i d))) → Pushed a c (flat_map line (flat_map f (take (i + 1) ms)))
pushed_bars {b = b} line f ms i d below before now =
    rw (bars-more f ms i d below, flat_map-append) (pushed_after {b = b} before now)

-- no machine has more bars than jobs
pub few_bars : (g : Parts) (x : Table) (w : Window) (m : Lanes) (n : ℕ) → length (first_bars g x w m n) ≤ n
few_bars g x w m n =
    omega (arith, length-filter (meets w) (map (bar g x m) (range_with_len 1 n)), count_by-le-length (meets w) (map (bar g x m) (range_with_len 1 n)), length-map-range_with_len (bar g x m) 1 n)

-- the same for an element that was read at its number
pub pushed_read : {X : Type 0} {a b c : Stream} (f : X → List ℕ) (xs : List X) (i : ℕ) (x : X) → i < length xs → x ≡ get_or xs i x → Pushed a b (flat_map f (take i xs)) → Pushed b c (f x) → Pushed a c (flat_map f (take (i + 1) xs))
pushed_read {b = b} {c = c} f xs i x below is before now =
    pushed_element {b = b} f xs i x below before (subst (λ y. Pushed b c (f y)) is now)

pub pushed_bars_read : {a b c : Stream} (line : Bar → List ℕ) (f : Lanes → List Bar) (ms : List Lanes) (i : ℕ) (m : Lanes) → i < length ms → m ≡ get_or ms i m → Pushed a b (flat_map line (flat_map f (take i ms))) → Pushed b c (flat_map line (f m)) → Pushed a c (flat_map line (flat_map f (take (i + 1) ms)))
pushed_bars_read {b = b} {c = c} line f ms i m below is before now =
    pushed_bars {b = b} line f ms i m below before (subst (λ k. Pushed b c (flat_map line (f k))) is now)

pub count-read : (f : Lanes → List Bar) (ms : List Lanes) (i : ℕ) (m : Lanes) → i < length ms → m ≡ get_or ms i m → length (flat_map f (take (i + 1) ms)) ≡ length (flat_map f (take i ms)) + length (f m)
count-read f ms i m below is =
    count-more f ms i m below ∙ ap (λ k. length (flat_map f (take i ms)) + length (f k)) (sym is)

-- what holds of each holds of the one that was read
pub all-read : {X : Type 0} (P : X → Type 0) (xs : List X) (i : ℕ) (x : X) → All P xs → i < length xs → x ≡ get_or xs i x → P x
all-read P xs i x all below is = subst P (sym is) (all i x below)

-- the machine of a run that was read at its number is one of the run's graph
pub machine_read : (run : ChartRun) (g : Parts) (i : ℕ) (m : Lanes) → IsOfRun run → g ≡ run.live.graph → i < length run.machines.items → m ≡ get_or run.machines.items i m → IsMachineOf g m
machine_read run g i m of_run same below is =
    all-read (IsMachineOf g) run.machines.items i m (subst (λ h. All (IsMachineOf h) run.machines.items) (sym (same ∙ of_run.of_plant.live_graph)) of_run.each) below is

pub few_machine_bars : (g : Parts) (x : Table) (w : Window) (m : Lanes) → length (machine_bars g x w m) ≤ jobs g
unfolding machine_bars
few_machine_bars g x w m = few_bars g x w m (jobs g)
