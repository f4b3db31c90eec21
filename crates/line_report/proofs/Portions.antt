-- The lines of all dates by their numbers.
use Rattle.std.proofs.Common.{◌≡◌, ℕ, zero, suc, ◌+◌, ◌-◌, ◌*◌, ◌/◌, ◌%◌, ◌<◌, ◌≤◌, min, List, [], ◌∷◌, ◌++◌, length, get_or, decimal, subst, refl, sym, ap, ◌∙◌, append_assoc, append-nil, arith}
use Rattle.std.specs.Prelude.{slice_index_or}
use Rattle.std.specs.List.{flat_map, range_with_len}
use Rattle.std.proofs.lemmas.Nat.{div-mul-add, mod-mul-add, div-add-mod', div_below}
use Rattle.std.proofs.Math.Nat.{mod-lt}
use Rattle.line_base.specs.declared.event.Parts.{Parts}
use Rattle.event_graph.specs.Network.{stations, jobs, label}
use Rattle.event_graph.specs.Table.{Table, date_in}
use Rattle.line_report.specs.ReportText.{line, date_line, station_lines, date_lines}
use Rattle.outside_io.specs.Outgoing.{Stream, Pushed}
use Rattle.outside_io.proofs.OutgoingLemmas.{pushed_none, pushed_next, ◌⨟◌}
use Rattle.line_report.specs.Portions.{Formatted, numbered_line, numbered_lines, job_lines, HasLines, HaveShares, share_start}
use Rattle.line_report.proofs.Lines.{lines_more}

-- the lines of some numbers, and of those that follow
lines_split : (f : ℕ → List ℕ) (a n m b all : ℕ) → a + n ≡ b → n + m ≡ all → flat_map f (range_with_len a all) ≡ flat_map f (range_with_len a n) ++ flat_map f (range_with_len b m)
lines_split f a n zero b all at sum =
    let same : all ≡ n = omega arith in
    ap (λ k. flat_map f (range_with_len a k)) same ∙ sym (append-nil _)
lines_split f a n (suc m) b all at sum =
    let last : all ≡ n + m + 1 = omega arith in
    let more : suc m ≡ m + 1 = omega arith in
    ap (λ k. flat_map f (range_with_len a k)) last
    ∙ lines_more f a (n + m) (b + m) (omega arith)
    ∙ ap (λ l. l ++ f (b + m)) (lines_split f a n m b (n + m) at refl)
    ∙ append_assoc (flat_map f (range_with_len a n)) (flat_map f (range_with_len b m)) (f (b + m))
    ∙ ap (λ l. flat_map f (range_with_len a n) ++ l) (sym (lines_more f b m (b + m) refl))
    ∙ ap (λ k. flat_map f (range_with_len a n) ++ flat_map f (range_with_len b k)) (sym more)

-- lines that are alike, number by number
lines_alike : (f h : ℕ → List ℕ) (a b n : ℕ) → ((k : ℕ) → k < n → f (a + k) ≡ h (b + k)) → flat_map f (range_with_len a n) ≡ flat_map h (range_with_len b n)
lines_alike f h a b zero alike = refl
lines_alike f h a b (suc n) alike =
    let more : suc n ≡ n + 1 = omega arith in
    ap (λ k. flat_map f (range_with_len a k)) more
    ∙ lines_more f a n (a + n) refl
    ∙ ap (λ l. l ++ f (a + n)) (lines_alike f h a b n (λ k low. alike k (omega arith)))
    ∙ ap (λ l. flat_map h (range_with_len b n) ++ l) (alike n (omega arith))
    ∙ sym (lines_more h b n (b + n) refl)
    ∙ ap (λ k. flat_map h (range_with_len b k)) (sym more)

-- the date that stands behind the first few of a station's
pub date_read : (rows : List (List ℕ)) (t k : ℕ) (dates : List ℕ) → dates ≡ slice_index_or rows t [] → get_or dates k 0 ≡ date_in rows t (k + 1)
date_read rows t k dates is =
    let next : suc k ≡ k + 1 = omega arith in
    ap (λ (l : List ℕ). get_or l k 0) is ∙ ap (date_in rows t) next

-- the station of a line, and its job, by the jobs of a station as they were counted
pub station_there : (g : Parts) (i count : ℕ) → count ≡ jobs g → 0 < jobs g → i < stations g * jobs g → i / count < stations g
station_there g i count is some within =
    div_below i count (stations g) (omega (arith, is, some)) (rw is within)

pub job_there : (g : Parts) (i count : ℕ) → count ≡ jobs g → 0 < jobs g → i % count + 1 ≤ jobs g
job_there g i count is some =
    let low : i % count < count = mod-lt i (omega (arith, is, some)) in
    omega (arith, is, low)

module _ (g : Parts) (x : Table) where
  -- no lines
  pub numbered-none : (i n : ℕ) → n ≡ 0 → numbered_lines g x i n ≡ []
  unfolding numbered_lines
  numbered-none i n none = ap (λ k. flat_map (numbered_line g x) (range_with_len i k)) none

  pub job_lines-none : (t before : ℕ) → job_lines g x t before 0 ≡ []
  unfolding job_lines
  job_lines-none t before = refl

  -- some lines, and those that follow
  pub numbered-append : (i n m j all : ℕ) → i + n ≡ j → n + m ≡ all → numbered_lines g x i n ++ numbered_lines g x j m ≡ numbered_lines g x i all
  unfolding numbered_lines
  numbered-append i n m j all at sum =
      sym (lines_split (numbered_line g x) i n m j all at sum)

  -- the lines of a station by their numbers
  pub job_lines-numbered : (t before count i : ℕ) → before + count ≤ jobs g → t * jobs g + before ≡ i → job_lines g x t before count ≡ numbered_lines g x i count
  unfolding job_lines numbered_lines numbered_line
  job_lines-numbered t before count i within at =
      lines_alike (date_line g x t) (numbered_line g x) (before + 1) i count
      (λ k low.
      let low_job : before + k < jobs g = omega arith in
      let number : t * jobs g + (before + k) ≡ i + k = omega arith in
      let station : (i + k) / jobs g ≡ t = ap (λ n. n / jobs g) (sym number) ∙ div-mul-add t (jobs g) (before + k) low_job in
      let job : (i + k) % jobs g ≡ before + k = ap (λ n. n % jobs g) (sym number) ∙ mod-mul-add t (jobs g) (before + k) low_job in
      let same : before + 1 + k ≡ before + k + 1 = omega arith in
      rw (station, job, same) refl)

  -- lines, and then those of the jobs of the station of line `next`, behind as many as are before it
  pub numbered-next : (from next n : ℕ) (lines : List ℕ) → from ≤ next → next % jobs g + n ≤ jobs g → lines ≡ numbered_lines g x from (next - from) → lines ++ job_lines g x (next / jobs g) (next % jobs g) n ≡ numbered_lines g x from (next + n - from)
  numbered-next from next n lines begun within is =
      ap (λ l. l ++ job_lines g x (next / jobs g) (next % jobs g) n) is
      ∙ ap (λ l. numbered_lines g x from (next - from) ++ l) (job_lines-numbered (next / jobs g) (next % jobs g) n next within (div-add-mod' next (jobs g)))
      ∙ numbered-append from (next - from) n next (next + n - from) (omega arith) (omega arith)

  -- and those that were added, where the jobs of a station were counted
  pub numbered-added : (from next n count : ℕ) (old new : List ℕ) → count ≡ jobs g → 0 < jobs g → from ≤ next → n ≤ count - next % count → new ≡ old ++ job_lines g x (next / count) (next % count) n → old ≡ numbered_lines g x from (next - from) → new ≡ numbered_lines g x from (next + n - from)
  numbered-added from next n count old new is some begun few added lines =
      let least : next % jobs g < jobs g = mod-lt next some in
      (rw is at added) ∙ numbered-next from next n old begun (omega (arith, least, rw is at few)) lines

  -- one more job
  pub job_lines-more : (t before n : ℕ) → job_lines g x t before (n + 1) ≡ job_lines g x t before n ++ date_line g x t (before + n + 1)
  unfolding job_lines
  job_lines-more t before n = lines_more (date_line g x t) (before + 1) n (before + n + 1) (omega arith)

  -- and what it adds
  pub job_lines-added : (t before n : ℕ) (old mid new name : List ℕ) (job date : ℕ) → mid ≡ old ++ job_lines g x t before n → name ≡ label g t → job ≡ before + n + 1 → date ≡ x t (before + n + 1) → new ≡ mid ++ line (name ∷ decimal job ∷ decimal date ∷ []) → new ≡ old ++ job_lines g x t before (n + 1)
  unfolding date_line
  job_lines-added t before n old mid new name job date is named number dated added =
      let this : line (name ∷ decimal job ∷ decimal date ∷ []) ≡ date_line g x t (before + n + 1) = rw (named, dated, number) refl in
      added ∙ ap (λ l. l ++ line (name ∷ decimal job ∷ decimal date ∷ [])) is
      ∙ append_assoc old (job_lines g x t before n) (line (name ∷ decimal job ∷ decimal date ∷ []))
      ∙ ap (λ l. old ++ (job_lines g x t before n ++ l)) this
      ∙ ap (λ l. old ++ l) (sym (job_lines-more t before n))

  stations-numbered : (n lines : ℕ) → n * jobs g ≡ lines → numbered_lines g x 0 lines ≡ flat_map (station_lines g x) (range_with_len 0 n)
  unfolding numbered_lines station_lines job_lines
  stations-numbered zero lines is =
      let none : lines ≡ 0 = omega arith in
      ap (λ k. flat_map (numbered_line g x) (range_with_len 0 k)) none
  stations-numbered (suc n) lines is =
      let before = n * jobs g in
      let sum : before + jobs g ≡ lines = omega arith in
      let more : suc n ≡ n + 1 = omega arith in
      sym (numbered-append 0 before (jobs g) before lines (omega arith) sum)
      ∙ ap (λ l. l ++ numbered_lines g x before (jobs g)) (stations-numbered n before refl)
      ∙ ap (λ l. flat_map (station_lines g x) (range_with_len 0 n) ++ l) (sym (job_lines-numbered n 0 (jobs g) before (omega arith) (omega arith)))
      ∙ sym (lines_more (station_lines g x) 0 n n (omega arith))
      ∙ ap (λ k. flat_map (station_lines g x) (range_with_len 0 k)) (sym more)

  -- all lines
  pub all-numbered : numbered_lines g x 0 (stations g * jobs g) ≡ date_lines g x
  unfolding date_lines
  all-numbered = stations-numbered (stations g) (stations g * jobs g) refl

  -- no line is written
  pub pushed-no_lines : {a : Stream} (i n : ℕ) → n ≡ 0 → Pushed a a (numbered_lines g x i n)
  pushed-no_lines {a} i n none = rw (numbered-none i n none) (pushed_none a)

  -- lines, and lines that follow
  pub pushed-more_lines : {a b c : Stream} (i j n m all : ℕ) → i + n ≡ j → n + m ≡ all → Pushed a b (numbered_lines g x i n) → Pushed b c (numbered_lines g x j m) → Pushed a c (numbered_lines g x i all)
  pushed-more_lines i j n m all at sum first later = rw (← numbered-append i n m j all at sum) (first ⨟ later)

  -- lines, and the line that follows
  pub pushed-one_line : {a b c : Stream} (i j n all : ℕ) → i + n ≡ j → n + 1 ≡ all → Pushed a b (numbered_lines g x i n) → Pushed b c (numbered_line g x j) → Pushed a c (numbered_lines g x i all)
  unfolding numbered_lines
  pushed-one_line i j n all at sum first later = rw (← sum) (pushed_next (numbered_line g x) i n j at first later)

  -- the lines of a portion, and then the others
  pub pushed-portion : {a b c : Stream} (from to : ℕ) (p : Formatted) → HasLines g x from to p → Pushed a b p.lines → Pushed b c (numbered_lines g x p.end (to - p.end)) → Pushed a c (numbered_lines g x from (to - from))
  pushed-portion from to p has text later =
      pushed-more_lines from p.end (p.end - from) (to - p.end) (to - from) (omega (arith, has.begins)) (omega (arith, has.begins, has.ends)) (rw has.text at text) later

-- the first share
pub first_share : (from to each : ℕ) → from ≤ to → from ≡ share_start from to each 0
first_share from to each ordered = omega arith

-- the next share begins where a share ends
pub next_share : (from to each i start end : ℕ) → start ≡ share_start from to each i → end ≡ min (start + each) to → end ≡ share_start from to each (i + 1)
next_share from to each i start end at is =
    let more : (i + 1) * each ≡ i * each + each = omega arith in
    omega (arith, more)

-- what a portion has that stands at its number
pub share_read : (g : Parts) (x : Table) (from to each : ℕ) (portions : List Formatted) (i start end : ℕ) (p : Formatted) → HaveShares g x from to each portions → i < length portions → p ≡ slice_index_or portions i p → start ≡ share_start from to each i → end ≡ min (start + each) to → HasLines g x start end p
share_read g x from to each portions i start end p shares low read at is =
    let first = share_start from to each i in
    let has = subst (λ (q : Formatted). HasLines g x first (min (first + each) to) q) (sym read) (shares i p low) in
    let last : end ≡ min (first + each) to = is ∙ ap (λ s. min (s + each) to) at in
    subst (λ s. HasLines g x s end p) (sym at) (subst (λ e. HasLines g x first e p) (sym last) has)
