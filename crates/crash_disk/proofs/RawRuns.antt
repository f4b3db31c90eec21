-- Calls of a file of the machine, one after another.
use Rattle.std.proofs.Common.{◌≡◌, ℕ, ◌+◌, ◌-◌, ◌<◌, ◌≤◌, List, [], ◌∷◌, ◌++◌, length, take, drop, Bool, true, false, refl, ◌∙◌, ap, sym, subst, append_assoc, append-nil, arith}
use Rattle.std.specs.Prelude.{Option, Some, None, replicate}
use Rattle.std.proofs.lemmas.List.{length-drop, length-take, drop-drop, drop_all, take_all}
use Rattle.outside_io.specs.RawOut.{count_of}
use Rattle.crash_disk.specs.RawFile.{RawCall, Opens, Reads, Writes, Syncs, SyncsFolder, Asks, ReadsOn, WritesOn, given_by, zeros_behind}

-- so far these calls were made: whatever reads the rest after them reads all
abbrev pub ReadsSoFar : ℕ → ℕ → ℕ → List RawCall → Type 0
ReadsSoFar at n filled calls = (rest : List RawCall) (whole : Bool) → ReadsOn (at + filled) (n - filled) rest whole → ReadsOn at n (calls ++ rest) whole

pub reads_none : (at n : ℕ) → ReadsSoFar at n 0 []
reads_none at n = λ rest whole reads.
    let from : at + 0 ≡ at = omega arith in
    let left : n - 0 ≡ n = omega arith in
    subst (λ k. ReadsOn k n rest whole) from (subst (λ k. ReadsOn (at + 0) k rest whole) left reads)

-- after one more call that gave some bytes
pub reads_more : (at n filled : ℕ) (calls : List RawCall) (bytes : List ℕ) (count : ℕ) → ReadsSoFar at n filled calls → filled < n → length bytes ≡ count → 0 < count → ReadsSoFar at n (filled + count) (calls ++ Reads (at + filled) (n - filled) (Some bytes) ∷ [])
reads_more at n filled calls bytes count so_far less size some = λ rest whole reads.
    let from : at + (filled + count) ≡ at + filled + length bytes = omega (arith, size) in
    let left : n - (filled + count) ≡ n - filled - length bytes = omega (arith, size) in
    rw append_assoc (so_far (Reads (at + filled) (n - filled) (Some bytes) ∷ rest) whole (
      omega arith,
      refl,
      refl,
      (λ none. absurd (omega (arith, size))),
      λ more. subst (λ k. ReadsOn k (n - filled - length bytes) rest whole) from (subst (λ k. ReadsOn (at + (filled + count)) k rest whole) left reads),
    ))

-- after one more call, at the end of the file
pub reads_end : (at n filled : ℕ) (calls : List RawCall) (bytes : List ℕ) → ReadsSoFar at n filled calls → filled < n → length bytes ≡ 0 → ReadsOn at n (calls ++ Reads (at + filled) (n - filled) (Some bytes) ∷ []) true
reads_end at n filled calls bytes so_far less none =
    so_far (Reads (at + filled) (n - filled) (Some bytes) ∷ []) true
    (omega arith, refl, refl, (λ is. (refl, refl)), λ some. absurd (omega arith))

-- after one more call that was refused
pub reads_refused : (at n filled : ℕ) (calls : List RawCall) → ReadsSoFar at n filled calls → filled < n → ReadsOn at n (calls ++ Reads (at + filled) (n - filled) None ∷ []) false
reads_refused at n filled calls so_far less =
    so_far (Reads (at + filled) (n - filled) None ∷ []) false (omega arith, refl, refl, refl, refl)

-- after all were read
pub reads_all : (at n filled : ℕ) (calls : List RawCall) → ReadsSoFar at n filled calls → n ≤ filled → ReadsOn at n calls true
reads_all at n filled calls so_far all =
    rw append-nil at (so_far [] true ((let e : n - filled ≡ 0 = omega arith in e), refl))

-- what one more read gave
pub given_by-push : (calls : List RawCall) (at n : ℕ) (bytes : List ℕ) → given_by (calls ++ Reads at n (Some bytes) ∷ []) ≡ given_by calls ++ bytes
given_by-push [] at n bytes = append-nil bytes
given_by-push (Opens makes answer ∷ calls) at n bytes = given_by-push calls at n bytes
given_by-push (Reads from asked None ∷ calls) at n bytes = given_by-push calls at n bytes
given_by-push (Reads from asked (Some first) ∷ calls) at n bytes =
    ap (λ xs. first ++ xs) (given_by-push calls at n bytes) ∙ sym (append_assoc first (given_by calls) bytes)
given_by-push (Writes from given answer ∷ calls) at n bytes = given_by-push calls at n bytes
given_by-push (Syncs answer ∷ calls) at n bytes = given_by-push calls at n bytes
given_by-push (SyncsFolder answer ∷ calls) at n bytes = given_by-push calls at n bytes

-- so far these calls were made: whatever writes the rest after them writes all
abbrev pub WritesSoFar : ℕ → List ℕ → ℕ → List RawCall → Type 0
WritesSoFar at bytes taken calls = (rest : List RawCall) (whole : Bool) → WritesOn (at + taken) (drop taken bytes) rest whole → WritesOn at bytes (calls ++ rest) whole

pub writes_none : (at : ℕ) (bytes : List ℕ) → WritesSoFar at bytes 0 []
writes_none at bytes = λ rest whole writes.
    let from : at + 0 ≡ at = omega arith in
    subst (λ k. WritesOn k bytes rest whole) from writes

-- after one more call that took some
pub writes_more : (at : ℕ) (bytes : List ℕ) (taken : ℕ) (calls : List RawCall) (answer : Option ℕ) (count : ℕ) → WritesSoFar at bytes taken calls → taken < length bytes → count_of answer ≡ count → 0 < count → WritesSoFar at bytes (taken + count) (calls ++ Writes (at + taken) (drop taken bytes) answer ∷ [])
writes_more at bytes taken calls answer count so_far less took some = λ rest whole writes.
    let from : at + (taken + count) ≡ at + taken + count_of answer = omega (arith, took) in
    let left : drop (taken + count) bytes ≡ drop (count_of answer) (drop taken bytes) = ap (λ k. drop (taken + k) bytes) (sym took) ∙ sym (drop-drop (count_of answer) taken bytes) in
    rw append_assoc (so_far (Writes (at + taken) (drop taken bytes) answer ∷ rest) whole (
      omega (arith, length-drop taken bytes),
      refl,
      refl,
      (λ none. absurd (omega (arith, took))),
      λ more. subst (λ k. WritesOn k (drop (count_of answer) (drop taken bytes)) rest whole) from (subst (λ xs. WritesOn (at + (taken + count)) xs rest whole) left writes),
    ))

-- after one more call that took none
pub writes_refused : (at : ℕ) (bytes : List ℕ) (taken : ℕ) (calls : List RawCall) (answer : Option ℕ) → WritesSoFar at bytes taken calls → taken < length bytes → count_of answer ≡ 0 → WritesOn at bytes (calls ++ Writes (at + taken) (drop taken bytes) answer ∷ []) false
writes_refused at bytes taken calls answer so_far less none =
    so_far (Writes (at + taken) (drop taken bytes) answer ∷ []) false
    (omega (arith, length-drop taken bytes), refl, refl, (λ is. (refl, refl)), λ some. absurd (omega arith))

-- after all were taken
pub writes_all : (at : ℕ) (bytes : List ℕ) (taken : ℕ) (calls : List RawCall) → WritesSoFar at bytes taken calls → length bytes ≤ taken → WritesOn at bytes calls true
writes_all at bytes taken calls so_far all = rw append-nil at (so_far [] true (drop_all taken bytes all, refl))

-- one more call that wrote behind those so far, and took some or none
pub puts_more : (at : ℕ) (bytes : List ℕ) (taken count : ℕ) (first mid new : List RawCall) → Asks first mid (λ calls. WritesSoFar at bytes taken calls) → (answer : Option ℕ) × (new ≡ mid ++ Writes (at + taken) (drop taken bytes) answer ∷ []) × (count_of answer ≡ count) → taken < length bytes → 0 < count → Asks first new (λ calls. WritesSoFar at bytes (taken + count) calls)
puts_more at bytes taken count first mid new before once less some =
    let call = Writes (at + taken) (drop taken bytes) once.0 in
    (before.0 ++ call ∷ [], once.1 ∙ ap (λ xs. xs ++ call ∷ []) before.1 ∙ append_assoc first before.0 (call ∷ []), writes_more at bytes taken before.0 once.0 count before.2 less once.2 some)

pub puts_refused : (at : ℕ) (bytes : List ℕ) (taken count : ℕ) (first mid new : List RawCall) → Asks first mid (λ calls. WritesSoFar at bytes taken calls) → (answer : Option ℕ) × (new ≡ mid ++ Writes (at + taken) (drop taken bytes) answer ∷ []) × (count_of answer ≡ count) → taken < length bytes → count ≡ 0 → Asks first new (λ calls. WritesOn at bytes calls false)
puts_refused at bytes taken count first mid new before once less none =
    let call = Writes (at + taken) (drop taken bytes) once.0 in
    (before.0 ++ call ∷ [], once.1 ∙ ap (λ xs. xs ++ call ∷ []) before.1 ∙ append_assoc first before.0 (call ∷ []), writes_refused at bytes taken before.0 once.0 before.2 less (once.2 ∙ none))

-- a buffer that was cleared behind what was read, at the end of the file
pub cleared_given : (mid : List ℕ) (filled n : ℕ) (calls : List RawCall) (at m : ℕ) → length mid ≡ n → filled ≤ n → take filled mid ≡ given_by calls → take filled mid ++ replicate (length mid - filled) 0 ≡ zeros_behind n (given_by (calls ++ Reads at m (Some []) ∷ []))
cleared_given mid filled n calls at m size within before =
    let given : given_by (calls ++ Reads at m (Some []) ∷ []) ≡ take filled mid = given_by-push calls at m [] ∙ append-nil (given_by calls) ∙ sym before in
    let left : length mid - filled ≡ n - length (take filled mid) = omega (arith, length-take filled mid) in
    ap (λ k. take filled mid ++ replicate k 0) left ∙ ap (λ xs. zeros_behind n xs) (sym given)

-- a buffer that is full
pub full_given : (bytes : List ℕ) (filled n : ℕ) (calls : List RawCall) → length bytes ≡ n → n ≤ filled → take filled bytes ≡ given_by calls → bytes ≡ zeros_behind n (given_by calls)
full_given bytes filled n calls size full before =
    let given : given_by calls ≡ bytes = sym before ∙ take_all filled bytes (omega arith) in
    let none : n - length bytes ≡ 0 = omega arith in
    sym (ap (λ xs. zeros_behind n xs) given ∙ ap (λ k. bytes ++ replicate k 0) none ∙ append-nil bytes)
