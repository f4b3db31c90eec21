-- One more call of a disk in memory.
use Rattle.std.proofs.Common.{◌≡◌, ◌+◌, ◌⊎◌, inl, inr, ◌||◌, ◌↔◌, ℕ, zero, suc, Bool, true, false, not, List, [], ◌∷◌, ◌++◌, length, take, refl, sym, ◌∙◌, ap, subst, arith, Result, Ok, Err, is_ok, IfOk, OnOk, OnErr, IsErrOf, IsTrue}
use Rattle.std.specs.Result.{IsErrAnd}
use Rattle.std.proofs.lemmas.Bool.{false≢true}
use Rattle.std.proofs.lemmas.List.{take_all, take-append-le, length-append}
use Rattle.std.proofs.lemmas.Result.{err_from_is_err_and}
use Rattle.crash_disk.specs.Counted.{CountsFault}
use Rattle.crash_disk.specs.DiskView.{Image, Held, DiskAsk, Passes, Torn, IsAsBefore, IsPendingWithin, is_within, awaiting, bytes_at}
use Rattle.crash_disk.specs.Memory.{after_call, held_after}
use Rattle.crash_disk.specs.declared.disk.DiskError.{DiskError}
use Rattle.crash_disk.specs.declared.disk.DiskError.TheVariants.{Failed, NoMemory}
use Rattle.crash_disk.specs.declared.patch.DiskCall.{DiskCall}
use Rattle.crash_disk.proofs.Moments.{passes_by_one}
use Rattle.crash_disk.proofs.Replay.{held_after-append}

-- what it holds after one more call
pub held_push : (held : Held) (calls more : List DiskCall) (c : DiskCall) → more ≡ calls ++ c ∷ [] → held_after held (take (length more) more) ≡ after_call (held_after held (take (length calls) calls)) c
held_push held calls more c is =
    ap (λ cs. held_after held cs) (take_all (length more) more (omega arith))
    ∙ ap (λ cs. held_after held cs) is
    ∙ held_after-append held calls (c ∷ [])
    ∙ ap (λ cs. after_call (held_after held cs) c) (sym (take_all (length calls) calls (omega arith)))

pub length-bytes_at : (image : Image) (at n : ℕ) → length (bytes_at image at n) ≡ n
unfolding bytes_at
length-bytes_at image at zero = refl
length-bytes_at image at (suc n) = ap suc (length-bytes_at image (suc at) n)

-- one more call takes one moment
pub passes_push : (held : Held) (calls more : List DiskCall) (c : DiskCall) (f g : ℕ) (r s : List DiskAsk) → more ≡ calls ++ c ∷ [] → Passes (record { moment = length calls; held = λ k. held_after held (take k calls); faults = f; asked = r }) (record { moment = length more; held = λ k. held_after held (take k more); faults = g; asked = s })
passes_push held calls more c f g r s is =
    let one : length more ≡ length calls + 1 = ap (λ (cs : List DiskCall). length cs) is ∙ length-append calls (c ∷ []) in
    passes_by_one _ _ (omega arith) (omega arith)
    (λ k le. ap (λ cs. held_after held (take k cs)) is ∙ ap (λ cs. held_after held cs) (take-append-le k calls (c ∷ []) le))

pub done_unless_failed : (failed : Bool) (r : Result (Unit {0}) DiskError) → (IsTrue failed ↔ IsErrOf r Failed) → ¬ (IsErrOf r NoMemory) → not failed ≡ is_ok r
done_unless_failed true r is memory = sym (ap is_ok (is.0 refl))
done_unless_failed false (Ok x) is memory = refl
done_unless_failed false (Err Failed) is memory = absurd (false≢true (is.1 refl))
done_unless_failed false (Err NoMemory) is memory = absurd (memory refl)

pub on_ok : {A B : Type 0} (r : Result (Unit {0}) DiskError) → OnOk r A → (A → B) → OnOk r B
on_ok (Ok x) a f = f a
on_ok (Err e) a f = a

-- an error answers nothing
pub error_alone : {T E : Type 0} {e : E} (r : Result T E) (P : T → Type 0) → r ≡ Err e → IfOk r P
error_alone {T} {E} {e} r P is = subst (λ q. IfOk q P) (sym is) tt

-- an error that is known by what it is
pub error_is : {T E : Type 0} (result : Result T E) (error : E) → IsErrAnd result (λ e. e ≡ error) → result ≡ Err error
error_is {T} {E} result error is =
    let known = err_from_is_err_and result is in
    known.1 ∙ ap (λ (e : E). let r : Result T E = Err e in r) known.2

-- a call without memory is no fault
pub counts_none : {T : Type 0} (faults : ℕ) (result : Result T DiskError) → result ≡ Err NoMemory → CountsFault faults faults result
counts_none faults result is = subst (λ r. CountsFault faults faults r) (sym is) (record {
  cause = λ failed. cc;
  once = λ failed. cc;
  memory_is_no_fault = λ memory. refl;
  faults_stay = tt;
  stays_or_rises = omega arith;
})

-- the same error, where something else was to be answered
pub same_error : {T U : Type 0} (error is : DiskError) → IsErrOf {T = T} (Err error) is → IsErrOf {T = U} (Err error) is
same_error error is failed = let same : error ≡ is = cc in ap (λ (e : DiskError). Err e) same

pub counts_as : {T U : Type 0} (before now : ℕ) (error : DiskError) (result : Result U DiskError) → result ≡ Err error → CountsFault {T = T} before now (Err error) → CountsFault before now result
counts_as before now error result is counts = subst (λ r. CountsFault before now r) (sym is) (record {
  cause = λ failed. counts.cause (same_error error _ failed);
  once = λ failed. counts.once (same_error error _ failed);
  memory_is_no_fault = λ memory. counts.memory_is_no_fault (same_error error _ memory);
  faults_stay = tt;
  stays_or_rises = counts.stays_or_rises;
})

-- a call that was answered, or failed, found memory
pub ok_found : (x : Unit {0}) → ¬ (IsErrOf {T = Unit {0}} {E = DiskError} (Ok x) NoMemory)
ok_found x memory = cc

pub failed_found : (r : Result (Unit {0}) DiskError) → IsErrOf r Failed → ¬ (IsErrOf r NoMemory)
failed_found r failed memory = let e : IsErrOf {T = Unit {0}} {E = DiskError} (Err Failed) NoMemory = sym failed ∙ memory in cc

pub failed_found_memory : {T : Type 0} → ¬ (IsErrOf {T = T} (Err Failed) NoMemory)
failed_found_memory memory = cc

-- what was answered has no error
pub no_error : {T E : Type 0} (value : T) (error : E) → ¬ (IsErrOf (Ok value) error)
no_error value error is = cc

-- what holds where memory was found and where it was not
pub found_or_not : {A : Type 0} (r : Result (Unit {0}) DiskError) → (¬ (IsErrOf r NoMemory) → A) → (IsErrOf r NoMemory → A) → A
found_or_not (Ok x) found none = found (ok_found x)
found_or_not (Err Failed) found none = found (failed_found (Err Failed) refl)
found_or_not (Err NoMemory) found none = none refl

-- what holds of a call that was done or not, where it was done, and where it was not or found no memory
pub on_done : (A : Bool → Type 0) (done : Bool) (r : Result (Unit {0}) DiskError) → (¬ (IsErrOf r NoMemory) → done ≡ is_ok r) → (¬ (IsErrOf r NoMemory) → A done) → OnOk r (A true)
on_done A done (Ok x) known a = subst A (known (ok_found x)) (a (ok_found x))
on_done A done (Err e) known a = tt

pub on_failed : (A : Bool → Type 0) (done : Bool) (r : Result (Unit {0}) DiskError) → (¬ (IsErrOf r NoMemory) → done ≡ is_ok r) → (¬ (IsErrOf r NoMemory) → A done) → (IsErrOf r NoMemory → A false) → OnErr r (A false)
on_failed A done (Ok x) known a none = tt
on_failed A done (Err Failed) known a none = let found = failed_found (Err Failed) refl in subst A (known found) (a found)
on_failed A done (Err NoMemory) known a none = none refl

or_true : (b : Bool) → (b || true) ≡ true
or_true true = refl
or_true false = refl

or_false : (b : Bool) → (b || false) ≡ b
or_false true = refl
or_false false = refl

-- one address of a write that failed
torn_at : (held new : Held) (at n i : ℕ) (within : Bool) → is_within at n i ≡ within → new ≡ record held { pending = awaiting held.pending at n } → IsAsBefore held new i ⊎ IsPendingWithin new at n i
torn_at held new at n i true inside is = inr (record { within = inside; pending = ap (λ (h : Held). h.pending i) is ∙ ap (λ b. held.pending i || b) inside ∙ or_true (held.pending i) })
torn_at held new at n i false out is = inl (record { byte = ap (λ (h : Held). h.bytes i) is; pending = ap (λ (h : Held). h.pending i) is ∙ ap (λ b. held.pending i || b) out ∙ or_false (held.pending i) })

pub torn_by : (held new : Held) (at : ℕ) (bytes : List ℕ) → new ≡ record held { pending = awaiting held.pending at (length bytes) } → Torn held new at (length bytes)
torn_by held new at bytes is = record { each = λ i. torn_at held new at (length bytes) i (is_within at (length bytes) i) refl is }
