-- Calls of standard output, one after another.
use Rattle.std.proofs.Common.{◌≡◌, ℕ, ◌+◌, ◌<◌, ◌≤◌, List, [], ◌∷◌, ◌++◌, length, take, drop, Bool, true, false, refl, ◌∙◌, ap, sym, subst, append_assoc, append-nil, arith}
use Rattle.std.proofs.lemmas.List.{length-drop, drop-drop, drop_all}
use Rattle.std.proofs.Math.Seq.{take-add}
use Rattle.outside_io.specs.RawOut.{OutCall, count_of, taken_of, HandsOn, AsksOnce}

-- what one more call adds
pub taken_of-push : (calls : List OutCall) (call : OutCall) → taken_of (calls ++ call ∷ []) ≡ taken_of calls ++ take (count_of call.taken) call.bytes
taken_of-push [] call = append-nil (take (count_of call.taken) call.bytes)
taken_of-push (first ∷ calls) call =
    ap (λ xs. take (count_of first.taken) first.bytes ++ xs) (taken_of-push calls call)
    ∙ sym (append_assoc (take (count_of first.taken) first.bytes) (taken_of calls) (take (count_of call.taken) call.bytes))

-- so far these calls were made: whatever hands on the rest after them hands on all
abbrev pub HandsSoFar : List ℕ → ℕ → List OutCall → Type 0
HandsSoFar bytes taken calls = (rest : List OutCall) (whole : Bool) → HandsOn (drop taken bytes) rest whole → HandsOn bytes (calls ++ rest) whole

-- before the first call
pub hands_none : (bytes : List ℕ) → HandsSoFar bytes 0 []
hands_none bytes = λ rest whole hands. hands

-- after one more call that took some
pub hands_more : (bytes : List ℕ) (taken : ℕ) (calls : List OutCall) (call : OutCall) (count : ℕ) → HandsSoFar bytes taken calls → taken < length bytes → call.bytes ≡ drop taken bytes → count_of call.taken ≡ count → 0 < count → HandsSoFar bytes (taken + count) (calls ++ call ∷ [])
hands_more bytes taken calls call count so_far less given took some = λ rest whole hands.
    rw append_assoc (so_far (call ∷ rest) whole (
      omega (arith, length-drop taken bytes),
      given,
      (λ none. absurd (omega arith)),
      λ more. subst (λ xs. HandsOn xs rest whole) (ap (λ n. drop (taken + n) bytes) (sym took) ∙ sym (drop-drop (count_of call.taken) taken bytes)) hands,
    ))

-- after one more call that took none
pub hands_no_more : (bytes : List ℕ) (taken : ℕ) (calls : List OutCall) (call : OutCall) → HandsSoFar bytes taken calls → taken < length bytes → call.bytes ≡ drop taken bytes → count_of call.taken ≡ 0 → HandsOn bytes (calls ++ call ∷ []) false
hands_no_more bytes taken calls call so_far less given none =
    so_far (call ∷ []) false
    (omega (arith, length-drop taken bytes), given, (λ is. (refl, refl)), λ some. absurd (omega arith))

-- after all were taken
pub hands_all : (bytes : List ℕ) (taken : ℕ) (calls : List OutCall) → HandsSoFar bytes taken calls → length bytes ≤ taken → HandsOn bytes calls true
hands_all bytes taken calls so_far all =
    rw append-nil at (so_far [] true (drop_all taken bytes all, refl))

-- what the machine took so far, after one more call
pub written_more : (old between new : List OutCall) (bytes : List ℕ) (taken count : ℕ) → taken_of between ≡ taken_of old ++ take taken bytes → AsksOnce between new (drop taken bytes) count → taken_of new ≡ taken_of old ++ take (taken + count) bytes
written_more old between new bytes taken count before once =
    ap taken_of once.1 ∙ taken_of-push between once.0
    ∙ ap (λ xs. taken_of between ++ take (count_of once.0.taken) xs) once.2
    ∙ ap (λ n. taken_of between ++ take n (drop taken bytes)) once.3
    ∙ ap (λ xs. xs ++ take count (drop taken bytes)) before
    ∙ append_assoc (taken_of old) (take taken bytes) (take count (drop taken bytes))
    ∙ ap (λ xs. taken_of old ++ xs) (sym (take-add taken count bytes))
