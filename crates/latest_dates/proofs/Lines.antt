-- Lines that are written one after another, and counted.
use Rattle.std.proofs.Common.{◌≡◌, ℕ, zero, suc, ◌+◌, Bool, cond, List, ◌∷◌, [], ◌++◌, refl, sym, ap, ◌∙◌, append_assoc, append-nil, map-id, arith}
use Rattle.std.specs.Prelude.{codes}
use Rattle.std.specs.List.{flat_map, range_with_len, count_by, sum_by}
use Rattle.std.proofs.lemmas.List.Concat.{flat_map-append}
use Rattle.std.proofs.lemmas.List.FromFn.{map-range_with_len_more}
use Rattle.std.proofs.lemmas.List.Sums.{sum_by_push, sum_by-append}
use Rattle.line_base.specs.declared.event.Parts.{Parts}
use Rattle.event_graph.specs.Network.{jobs}
use Rattle.event_graph.specs.Table.{Table}
use Rattle.outside_io.specs.Outgoing.{Stream, Pushed}
use Rattle.outside_io.proofs.OutgoingLemmas.{pushed_after}
use Rattle.latest_dates.specs.Latest.{LatestTable}
use Rattle.latest_dates.specs.LatestText.{latest_line, is_tight, station_lines, tight_at}
use Rattle.latest_dates.specs.JobLines.{job_lines, tight_jobs}

-- one more number
range_more : (a n j : ℕ) → a + n ≡ j → range_with_len a (n + 1) ≡ range_with_len a n ++ j ∷ []
range_more a n j at =
    sym (map-id _) ∙ map-range_with_len_more (λ k. k) a n j at ∙ ap (λ l. l ++ j ∷ []) (map-id _)

-- numbers, and those that follow
range_split : (a n m b all : ℕ) → a + n ≡ b → n + m ≡ all → range_with_len a all ≡ range_with_len a n ++ range_with_len b m
range_split a n zero b all at sum =
    let same : all ≡ n = omega arith in
    ap (range_with_len a) same ∙ sym (append-nil _)
range_split a n (suc m) b all at sum =
    let last : all ≡ n + m + 1 = omega arith in
    let more : suc m ≡ m + 1 = omega arith in
    ap (range_with_len a) last
    ∙ range_more a (n + m) (b + m) (omega arith)
    ∙ ap (λ l. l ++ (b + m) ∷ []) (range_split a n m b (n + m) at refl)
    ∙ append_assoc (range_with_len a n) (range_with_len b m) ((b + m) ∷ [])
    ∙ ap (λ l. range_with_len a n ++ l) (sym (range_more b m (b + m) refl) ∙ ap (range_with_len b) (sym more))

texts_more : (f : ℕ → List ℕ) (a n j : ℕ) → a + n ≡ j → flat_map f (range_with_len a (n + 1)) ≡ flat_map f (range_with_len a n) ++ f j
texts_more f a n j at =
    ap (flat_map f) (range_more a n j at)
    ∙ flat_map-append f (range_with_len a n) (j ∷ [])
    ∙ ap (λ l. flat_map f (range_with_len a n) ++ l) (append-nil (f j))

-- the next text is written
pub pushed_next : {a b c : Stream} (f : ℕ → List ℕ) (n : ℕ) → Pushed a b (flat_map f (range_with_len 1 n)) → Pushed b c (f (n + 1)) → Pushed a c (flat_map f (range_with_len 1 (n + 1)))
pushed_next {b = b} f n before now = rw (texts_more f 1 n (n + 1) (omega arith)) (pushed_after {b = b} before now)

-- the next number is added
pub sum_by-next : (f : ℕ → ℕ) (n : ℕ) → sum_by f (range_with_len 1 (n + 1)) ≡ sum_by f (range_with_len 1 n) + f (n + 1)
sum_by-next f n =
    ap (sum_by f) (range_more 1 n (n + 1) (omega arith)) ∙ sum_by_push f (range_with_len 1 n) (n + 1)

module _ (g : Parts) (x : Table) (y : LatestTable) (t : ℕ) where
  -- no lines of jobs
  pub job_lines-none : (before : ℕ) → job_lines g x y t before 0 ≡ []
  unfolding job_lines
  job_lines-none before = refl

  pub tight_jobs-none : (before : ℕ) → tight_jobs x y t before 0 ≡ 0
  unfolding tight_jobs
  tight_jobs-none before = refl

  -- the line of the next job
  pub job_lines-next : (before n : ℕ) → job_lines g x y t before (n + 1) ≡ job_lines g x y t before n ++ latest_line g x y t (before + n + 1)
  unfolding job_lines
  job_lines-next before n = texts_more (latest_line g x y t) (before + 1) n (before + n + 1) (omega arith)

  pub tight_jobs-next : (before n : ℕ) (tight : Bool) → tight ≡ is_tight x y t (before + n + 1) → tight_jobs x y t before (n + 1) ≡ tight_jobs x y t before n + cond tight 1 0
  unfolding tight_jobs
  tight_jobs-next before n tight is =
      ap (count_by (is_tight x y t)) (range_more (before + 1) n (before + n + 1) (omega arith))
      ∙ sum_by_push (λ k. cond (is_tight x y t k) 1 0) (range_with_len (before + 1) n) (before + n + 1)
      ∙ ap (λ v. tight_jobs x y t before n + cond v 1 0) (sym is)

  -- the lines of the first jobs, and of those that follow
  pub job_lines-split : (next count : ℕ) → job_lines g x y t 0 (next + count) ≡ job_lines g x y t 0 next ++ job_lines g x y t next count
  unfolding job_lines
  job_lines-split next count =
      ap (flat_map (latest_line g x y t)) (range_split 1 next count (next + 1) (next + count) (omega arith) refl)
      ∙ flat_map-append (latest_line g x y t) (range_with_len 1 next) (range_with_len (next + 1) count)

  pub tight_jobs-split : (next count : ℕ) → tight_jobs x y t 0 (next + count) ≡ tight_jobs x y t 0 next + tight_jobs x y t next count
  unfolding tight_jobs
  tight_jobs-split next count =
      ap (count_by (is_tight x y t)) (range_split 1 next count (next + 1) (next + count) (omega arith) refl)
      ∙ sum_by-append (λ k. cond (is_tight x y t k) 1 0) (range_with_len 1 next) (range_with_len (next + 1) count)

  -- all of them are those of the station
  pub job_lines-all : job_lines g x y t 0 (jobs g) ≡ station_lines g x y t
  unfolding job_lines station_lines
  job_lines-all = refl

  pub tight_jobs-all : tight_jobs x y t 0 (jobs g) ≡ tight_at g x y t
  unfolding tight_jobs tight_at
  tight_jobs-all = refl

  -- some jobs are written after those before
  pub pushed_jobs : {a b c : Stream} (next count : ℕ) → Pushed a b (job_lines g x y t 0 next) → Pushed b c (job_lines g x y t next count) → Pushed a c (job_lines g x y t 0 (next + count))
  pushed_jobs {b = b} next count before now = rw (job_lines-split next count) (pushed_after {b = b} before now)

-- the start of a line, and its end
pub line_parts : (old label number end : List ℕ) → (old ++ (label ++ (codes " " ++ (number ++ codes " ")))) ++ end ≡ old ++ (label ++ (codes " " ++ (number ++ (codes " " ++ end))))
line_parts old label number end =
    append_assoc old (label ++ (codes " " ++ (number ++ codes " "))) end
    ∙ ap (λ l. old ++ l)
    (append_assoc label (codes " " ++ (number ++ codes " ")) end
    ∙ ap (λ l. label ++ (codes " " ++ l)) (append_assoc number (codes " ") end))
