-- Calls of files of the machine, one after another.
use Rattle.std.proofs.Common.{◌≡◌, inl, inr, ℕ, ◌+◌, ◌<◌, ◌≤◌, List, [], ◌∷◌, ◌++◌, length, take, drop, Bool, true, false, refl, ◌∙◌, ap, sym, subst, append_assoc, append-nil, arith}
use Rattle.std.specs.Prelude.{Option, Some, None, Result, Ok, Err, is_ok}
use Rattle.std.proofs.lemmas.Bool.{false≢true, true≢false}
use Rattle.std.proofs.lemmas.List.{length-drop, length-append, drop-drop, drop_all}
use Rattle.outside_io.specs.RawOut.{count_of}
use Rattle.outside_io.specs.RawFiles.{FilesCall, Opens, Reads, Looks, Creates, CreatesSpare, Writes, Syncs, Renames, Removes, FilesView, Asks, Then, ReadsOn, WritesOn, read_bytes, given_by}
use Rattle.outside_io.specs.declared.store.StoreError.{StoreError}
use Rattle.outside_io.specs.declared.store.StoreError.TheVariants as store_error

-- so far these calls were made: whatever reads on behind these bytes reads all
abbrev pub ReadsSoFar : ℕ → List ℕ → List FilesCall → Type 0
ReadsSoFar limit bytes calls = (rest : List FilesCall) (answer : Result (List ℕ) StoreError) → ReadsOn limit bytes rest answer → ReadsOn limit [] (calls ++ rest) answer

pub reads_none : (limit : ℕ) → ReadsSoFar limit [] []
reads_none limit = λ rest answer reads. reads

-- after one more call that gave some bytes, within the limit
pub reads_more : (limit : ℕ) (before after : List ℕ) (calls : List FilesCall) (most : ℕ) (bytes : List ℕ) → ReadsSoFar limit before calls → after ≡ before ++ bytes → 0 < most → length before + most ≤ limit + 1 → 0 < length bytes → length before + length bytes ≤ limit → ReadsSoFar limit after (calls ++ Reads most (Some bytes) ∷ [])
reads_more limit before after calls most bytes so_far is some few more within = λ rest answer reads.
    rw append_assoc (so_far (Reads most (Some bytes) ∷ rest) answer (
      some,
      few,
      (λ none. absurd (omega arith)),
      (λ long. absurd (omega arith)),
      λ none fits. inr (subst (λ xs. ReadsOn limit xs rest answer) is reads),
    ))

-- after one more call whose bytes found no memory
pub reads_no_memory : (limit : ℕ) (before : List ℕ) (calls : List FilesCall) (most : ℕ) (bytes : List ℕ) → ReadsSoFar limit before calls → 0 < most → length before + most ≤ limit + 1 → 0 < length bytes → length before + length bytes ≤ limit → ReadsOn limit [] (calls ++ Reads most (Some bytes) ∷ []) (Err store_error.NoMemory)
reads_no_memory limit before calls most bytes so_far some few more within =
    so_far (Reads most (Some bytes) ∷ []) (Err store_error.NoMemory)
    (some, few, (λ none. absurd (omega arith)), (λ long. absurd (omega arith)), λ is fits. inl (refl, refl))

-- after one more call, at the end of the file
pub reads_end : (limit : ℕ) (before : List ℕ) (calls : List FilesCall) (most : ℕ) (bytes : List ℕ) → ReadsSoFar limit before calls → 0 < most → length before + most ≤ limit + 1 → length before ≤ limit → length bytes ≡ 0 → ReadsOn limit [] (calls ++ Reads most (Some bytes) ∷ []) (Ok before)
reads_end limit before calls most bytes so_far some few within none =
    so_far (Reads most (Some bytes) ∷ []) (Ok before)
    (some, few, (λ is. (refl, refl)), (λ long. absurd (omega arith)), λ more fits. absurd (omega arith))

-- after one more call that gave more than the limit
pub reads_too_long : (limit : ℕ) (before : List ℕ) (calls : List FilesCall) (most : ℕ) (bytes : List ℕ) → ReadsSoFar limit before calls → 0 < most → length before + most ≤ limit + 1 → 0 < length bytes → limit < length before + length bytes → ReadsOn limit [] (calls ++ Reads most (Some bytes) ∷ []) (Err store_error.TooLong)
reads_too_long limit before calls most bytes so_far some few more long =
    so_far (Reads most (Some bytes) ∷ []) (Err store_error.TooLong)
    (some, few, (λ none. absurd (omega arith)), (λ is. (refl, refl)), λ more fits. absurd (omega arith))

-- after one more call that was refused
pub reads_refused : (limit : ℕ) (before : List ℕ) (calls : List FilesCall) (most : ℕ) → ReadsSoFar limit before calls → 0 < most → length before + most ≤ limit + 1 → ReadsOn limit [] (calls ++ Reads most None ∷ []) (Err store_error.Failed)
reads_refused limit before calls most so_far some few =
    so_far (Reads most None ∷ []) (Err store_error.Failed) (some, few, refl, refl)

-- what one more read gave
pub given_by-push : (calls : List FilesCall) (most : ℕ) (bytes : List ℕ) → given_by (calls ++ Reads most (Some bytes) ∷ []) ≡ given_by calls ++ bytes
given_by-push [] most bytes = append-nil bytes
given_by-push (Opens name answer ∷ calls) most bytes = given_by-push calls most bytes
given_by-push (Reads asked None ∷ calls) most bytes = given_by-push calls most bytes
given_by-push (Reads asked (Some first) ∷ calls) most bytes =
    ap (λ xs. first ++ xs) (given_by-push calls most bytes) ∙ sym (append_assoc first (given_by calls) bytes)
given_by-push (Looks name answer ∷ calls) most bytes = given_by-push calls most bytes
given_by-push (Creates name answer ∷ calls) most bytes = given_by-push calls most bytes
given_by-push (CreatesSpare spare answer ∷ calls) most bytes = given_by-push calls most bytes
given_by-push (Writes read_bytes answer ∷ calls) most bytes = given_by-push calls most bytes
given_by-push (Syncs answer ∷ calls) most bytes = given_by-push calls most bytes
given_by-push (Renames spare name answer ∷ calls) most bytes = given_by-push calls most bytes
given_by-push (Removes spare answer ∷ calls) most bytes = given_by-push calls most bytes

pub given_by-more : (calls : List FilesCall) (most : ℕ) (before after got : List ℕ) → after ≡ before ++ got → before ≡ given_by calls → after ≡ given_by (calls ++ Reads most (Some got) ∷ [])
given_by-more calls most before after got more is =
    more ∙ ap (λ xs. xs ++ got) is ∙ sym (given_by-push calls most got)

pub given_by-refused : (calls : List FilesCall) (most : ℕ) → given_by (calls ++ Reads most None ∷ []) ≡ given_by calls
given_by-refused [] most = refl
given_by-refused (Opens name answer ∷ calls) most = given_by-refused calls most
given_by-refused (Reads asked None ∷ calls) most = given_by-refused calls most
given_by-refused (Reads asked (Some first) ∷ calls) most =
    ap (λ xs. first ++ xs) (given_by-refused calls most)
given_by-refused (Looks name answer ∷ calls) most = given_by-refused calls most
given_by-refused (Creates name answer ∷ calls) most = given_by-refused calls most
given_by-refused (CreatesSpare spare answer ∷ calls) most = given_by-refused calls most
given_by-refused (Writes read_bytes answer ∷ calls) most = given_by-refused calls most
given_by-refused (Syncs answer ∷ calls) most = given_by-refused calls most
given_by-refused (Renames spare name answer ∷ calls) most = given_by-refused calls most
given_by-refused (Removes spare answer ∷ calls) most = given_by-refused calls most

-- some calls that went well, and others behind them
pub then_on : (First Next : List FilesCall → Bool → Type 0) (old mid new : FilesView) (whole : Bool) → Asks old mid (λ calls. First calls true) → Asks mid new (λ calls. Next calls whole) → Asks old new (λ calls. Then First Next calls whole)
then_on First Next old mid new whole first next = (
  first.0 ++ next.0,
  next.1 ∙ ap (λ xs. xs ++ next.0) first.1 ∙ append_assoc old.asked first.0 next.0,
  record {
    first = first.0;
    next = next.0;
    well = true;
    split = refl;
    are = first.2;
    goes_on = λ well. next.2;
    ends = λ is. absurd (true≢false is);
  },
)

-- some calls that went wrong
pub ended : (First Next : List FilesCall → Bool → Type 0) (calls : List FilesCall) → First calls false → Then First Next calls false
ended First Next calls first = record {
  first = calls;
  next = [];
  well = false;
  split = sym (append-nil calls);
  are = first;
  goes_on = λ is. absurd (false≢true is);
  ends = λ well. (refl, refl);
}

pub then_ended : (First Next : List FilesCall → Bool → Type 0) (old new : FilesView) → Asks old new (λ calls. First calls false) → Asks old new (λ calls. Then First Next calls false)
then_ended First Next old new first = (first.0, first.1, ended First Next first.0 first.2)

-- one more call is behind those before
pub one_more : (first mid new calls : List FilesCall) (call : FilesCall) → mid ≡ first ++ calls → new ≡ mid ++ call ∷ [] → new ≡ first ++ (calls ++ call ∷ [])
one_more first mid new calls call before once =
    once ∙ ap (λ xs. xs ++ call ∷ []) before ∙ append_assoc first calls (call ∷ [])

-- so far these calls were made: whatever writes the rest after them writes all
abbrev pub WritesSoFar : List ℕ → ℕ → List FilesCall → Type 0
WritesSoFar bytes taken calls = (rest : List FilesCall) (whole : Bool) → WritesOn (drop taken bytes) rest whole → WritesOn bytes (calls ++ rest) whole

pub writes_none : (bytes : List ℕ) → WritesSoFar bytes 0 []
writes_none bytes = λ rest whole writes. writes

-- after one more call that took some
pub writes_more : (bytes : List ℕ) (taken : ℕ) (calls : List FilesCall) (answer : Option ℕ) (count : ℕ) → WritesSoFar bytes taken calls → taken < length bytes → count_of answer ≡ count → 0 < count → WritesSoFar bytes (taken + count) (calls ++ Writes (drop taken bytes) answer ∷ [])
writes_more bytes taken calls answer count so_far less took some = λ rest whole writes.
    let left : drop (taken + count) bytes ≡ drop (count_of answer) (drop taken bytes) = ap (λ k. drop (taken + k) bytes) (sym took) ∙ sym (drop-drop (count_of answer) taken bytes) in
    rw append_assoc (so_far (Writes (drop taken bytes) answer ∷ rest) whole (
      omega (arith, length-drop taken bytes),
      refl,
      (λ none. absurd (omega (arith, took))),
      λ more. subst (λ xs. WritesOn xs rest whole) left writes,
    ))

-- after one more call that took none
pub writes_refused : (bytes : List ℕ) (taken : ℕ) (calls : List FilesCall) (answer : Option ℕ) → WritesSoFar bytes taken calls → taken < length bytes → count_of answer ≡ 0 → WritesOn bytes (calls ++ Writes (drop taken bytes) answer ∷ []) false
writes_refused bytes taken calls answer so_far less none =
    so_far (Writes (drop taken bytes) answer ∷ []) false
    (omega (arith, length-drop taken bytes), refl, (λ is. (refl, refl)), λ some. absurd (omega arith))

-- after all were taken
pub writes_all : (bytes : List ℕ) (taken : ℕ) (calls : List FilesCall) → WritesSoFar bytes taken calls → length bytes ≤ taken → WritesOn bytes calls true
writes_all bytes taken calls so_far all = rw append-nil at (so_far [] true (drop_all taken bytes all, refl))

-- one more call that wrote behind those so far, and took some
pub puts_more : (bytes : List ℕ) (taken count : ℕ) (old mid new : FilesView) → Asks old mid (λ calls. WritesSoFar bytes taken calls) → (answer : Option ℕ) × (new.asked ≡ mid.asked ++ Writes (drop taken bytes) answer ∷ []) × (count_of answer ≡ count) → taken < length bytes → 0 < count → Asks old new (λ calls. WritesSoFar bytes (taken + count) calls)
puts_more bytes taken count old mid new before once less some =
    let call = Writes (drop taken bytes) once.0 in
    (before.0 ++ call ∷ [], one_more old.asked mid.asked new.asked before.0 call before.1 once.1, writes_more bytes taken before.0 once.0 count before.2 less once.2 some)

-- and took none
pub puts_refused : (bytes : List ℕ) (taken count : ℕ) (old mid new : FilesView) → Asks old mid (λ calls. WritesSoFar bytes taken calls) → (answer : Option ℕ) × (new.asked ≡ mid.asked ++ Writes (drop taken bytes) answer ∷ []) × (count_of answer ≡ count) → taken < length bytes → count ≡ 0 → Asks old new (λ calls. WritesOn bytes calls false)
puts_refused bytes taken count old mid new before once less none =
    let call = Writes (drop taken bytes) once.0 in
    (before.0 ++ call ∷ [], one_more old.asked mid.asked new.asked before.0 call before.1 once.1, writes_refused bytes taken before.0 once.0 before.2 less (once.2 ∙ none))

-- what a read gave, by its answer
pub given-ok : {E : Type 0} (answer : Result ℕ E) (n : ℕ) (bytes : List ℕ) → answer ≡ Ok n → read_bytes answer bytes ≡ Some (take n bytes)
given-ok answer n bytes is = ap (λ r. read_bytes r bytes) is

pub given-err : {E : Type 0} (answer : Result ℕ E) (bytes : List ℕ) → false ≡ is_ok answer → read_bytes answer bytes ≡ None
given-err (Ok n) bytes is = absurd (false≢true is)
given-err (Err error) bytes is = refl

-- how many bytes were given, after one more read
pub taken_more : (calls : List FilesCall) (most : ℕ) (before got : List ℕ) (taken count : ℕ) → before ≡ given_by calls → taken ≡ length before → length got ≡ count → taken + count ≡ length (given_by (calls ++ Reads most (Some got) ∷ []))
taken_more calls most before got taken count is size more =
    let e = ap (λ (xs : List ℕ). length xs) is in
    let all = ap (λ (xs : List ℕ). length xs) (given_by-push calls most got) in
    omega (arith, length-append (given_by calls) got, e, all, size, more)

-- and after one that gave none, or was refused
pub taken_same : (calls : List FilesCall) (most : ℕ) (before : List ℕ) (taken : ℕ) → before ≡ given_by calls → taken ≡ length before → taken ≡ length (given_by (calls ++ Reads most None ∷ []))
taken_same calls most before taken is size =
    size ∙ ap (λ (xs : List ℕ). length xs) (is ∙ sym (given_by-refused calls most))

-- a read that ends with this call, and is shown to answer so
pub reads_with : (limit : ℕ) (first mid new calls : List FilesCall) (call : FilesCall) (taken : ℕ) (answer is : Result (List ℕ) StoreError) → mid ≡ first ++ calls → new ≡ mid ++ call ∷ [] → answer ≡ is → ReadsOn limit [] (calls ++ call ∷ []) is → taken ≡ length (given_by (calls ++ call ∷ [])) → (all : List FilesCall) × (new ≡ first ++ all) × (ReadsOn limit [] all answer × (taken ≡ length (given_by all)))
reads_with limit first mid new calls call taken answer is before once same reads bytes = (
  calls ++ call ∷ [],
  one_more first mid new calls call before once,
  (subst (λ a. ReadsOn limit [] (calls ++ call ∷ []) a) (sym same) reads, bytes),
)

-- what was left, after one more read
pub left_more : (first mid new before after got : List ℕ) → first ≡ before ++ mid → mid ≡ got ++ new → after ≡ before ++ got → first ≡ after ++ new
left_more first mid new before after got was gave is =
    was ∙ ap (λ xs. before ++ xs) gave ∙ sym (append_assoc before got new) ∙ ap (λ xs. xs ++ new) (sym is)

-- so a file of which more than the limit was taken is longer
pub longer_left : (limit : ℕ) (first mid new before got : List ℕ) → first ≡ before ++ mid → mid ≡ got ++ new → limit < length before + length got → limit < length first
longer_left limit first mid new before got was gave more =
    let all = ap (λ (xs : List ℕ). length xs) was in
    let rest = ap (λ (xs : List ℕ). length xs) gave in
    omega (arith, all, rest, more, length-append before mid, length-append got new)

-- how long a list is, behind which others were put
pub longer_by : (before after got : List ℕ) → after ≡ before ++ got → length after ≡ length before + length got
longer_by before after got is = ap (λ (xs : List ℕ). length xs) is ∙ length-append before got
