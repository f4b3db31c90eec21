-- What a store in memory keeps, after one more name or one more file.
use Rattle.std.proofs.Common.{◌≡◌, ◌≢◌, ◌⊎◌, inl, inr, ℕ, ◌+◌, ◌≤◌, List, [], ◌∷◌, ◌++◌, take, drop, Bool, true, false, cond, Vec, String, string_bytes, refl, sym, ap, ◌∙◌, subst, arith}
use Rattle.std.specs.Prelude.{Option, Some, None, Result, Ok, Err, IsTrue, IfOk, OnOk, IsErr, IsErrOf, option_map}
use Rattle.std.specs.Bool.{OnTrue, OnFalse}
use Rattle.std.specs.declared.alloc.Global.{Global}
use Rattle.std.specs.Str.{bytes_eq}
use Rattle.std.proofs.lemmas.List.Sums.{sum_by_push}
use Rattle.std.proofs.lemmas.Slice.Eq.{bytes_eq-Decides}
use Rattle.std.proofs.lemmas.Bool.{false_from_ne_true, false≢true, true≢false}
use Rattle.std.proofs.lemmas.List.{take-append-drop}
use Rattle.outside_io.specs.Contents.{IsTorn}
use Rattle.outside_io.specs.Faults.{NeverFall, RiseByOneAtMost, SameFaults}
use Rattle.outside_io.specs.Held.{CountsFault, NotesOnce, times_noted}
use Rattle.outside_io.specs.Left.{left_by}
use Rattle.outside_io.specs.declared.store.StoreError.{StoreError}
use Rattle.outside_io.specs.declared.store.StoreError.TheVariants as store_error

-- the step of a count of names
pub times_noted_step : (old new : Vec (String Global) Global) (text : String Global) → new.items ≡ old.items ++ text ∷ [] → (name : List ℕ) → times_noted new name ≡ times_noted old name + cond (bytes_eq name (string_bytes text)) 1 0
times_noted_step old new text pushed name =
    rw pushed (sum_by_push (λ other. cond (bytes_eq name (string_bytes other)) 1 0) old.items text)

-- a name that is noted once more
pub times_noted_push : (old new : Vec (String Global) Global) (text : String Global) → new.items ≡ old.items ++ text ∷ [] → times_noted new (string_bytes text) ≡ times_noted old (string_bytes text) + 1
times_noted_push old new text pushed =
    let same = (bytes_eq-Decides (string_bytes text) (string_bytes text)).1 refl in
    rw same at (times_noted_step old new text pushed (string_bytes text))

-- any other name
pub times_noted_push_other : (old new : Vec (String Global) Global) (text : String Global) → new.items ≡ old.items ++ text ∷ [] → (name : List ℕ) → name ≢ string_bytes text → times_noted new name ≡ times_noted old name
times_noted_push_other old new text pushed name apart =
    let other : bytes_eq name (string_bytes text) ≡ false = false_from_ne_true _ (λ same. apart ((bytes_eq-Decides name (string_bytes text)).0 same)) in
    let step = rw other at (times_noted_step old new text pushed name) in
    omega arith

-- no count falls
pub times_noted_push_rises : (old new : Vec (String Global) Global) (text : String Global) → new.items ≡ old.items ++ text ∷ [] → (name : List ℕ) → times_noted old name ≤ times_noted new name
times_noted_push_rises old new text pushed name =
    omega (arith, times_noted_step old new text pushed name)

-- and each rises by one at most
at_most_one : (b : Bool) → cond b 1 0 ≤ 1
at_most_one true = omega arith
at_most_one false = omega arith

pub times_noted_push_by_one : (old new : Vec (String Global) Global) (text : String Global) → new.items ≡ old.items ++ text ∷ [] → (name : List ℕ) → times_noted new name ≤ times_noted old name + 1
times_noted_push_by_one old new text pushed name =
    omega (arith, times_noted_step old new text pushed name, at_most_one (bytes_eq name (string_bytes text)))

-- a name for which room was made, and which was then noted
pub counts_noted : {T : Type 0} (old mid new : Vec (String Global) Global) (name said : List ℕ) → SameFaults (times_noted old) (times_noted mid) → said ≡ name → NotesOnce mid new said → NeverFall (times_noted mid) (times_noted new) → RiseByOneAtMost (times_noted mid) (times_noted new) → CountsFault {T = T} old new name (Err store_error.Failed)
counts_noted old mid new name said same is noted rises by_one = record {
  cause = λ failed. let named = rw is at noted.named in omega (arith, named, same name);
  stays_or_rises = λ q. omega (arith, rises q, same q);
  rises_by_one = λ q. omega (arith, by_one q, same q);
  memory_is_no_fault = λ memory. cc;
}

-- there was no memory
pub counts_none : {T : Type 0} (old new : Vec (String Global) Global) (name : List ℕ) (result : Result T StoreError) → result ≡ Err store_error.NoMemory → SameFaults (times_noted old) (times_noted new) → CountsFault old new name result
counts_none old new name result is same =
    subst (λ answer. CountsFault old new name answer) (sym is) (record {
      cause = λ failed. cc;
      stays_or_rises = λ q. omega (arith, same q);
      rises_by_one = λ q. omega (arith, same q);
      memory_is_no_fault = λ memory. same;
    })

-- what a refused write leaves is as it was, or a prefix of the bytes
pub torn_left : (keep : Option ℕ) (old new : Option (List ℕ)) (bytes : List ℕ) → new ≡ left_by keep old bytes → IsTorn old new bytes
torn_left None old new bytes is = inl is
torn_left (Some keep) old new bytes is =
    inr (take keep bytes, drop keep bytes, sym (take-append-drop keep bytes), is)

-- a call that found what it looked for is not to fail
pub not_due : {X : Type 0} (due : Bool) (found : Option X) (x : X) → OnTrue due (found ≡ None) → found ≡ Some x → due ≡ false
not_due true found x none some = cc
not_due false found x none some = refl

-- and what it found is what the file holds
pub found_held : {X : Type 0} (due : Bool) (found : Option X) (x : X) (items : X → List ℕ) (held : Option (List ℕ)) → OnFalse due (option_map items found ≡ held) → due ≡ false → found ≡ Some x → held ≡ Some (items x)
found_held true found x items held known well some = absurd (true≢false well)
found_held false found x items held known well some =
    sym known ∙ ap (λ (f : Option _). option_map items f) some

-- a call that found nothing was to fail, or there is no such file
pub due_or_absent : {X Due : Type 0} (due : Bool) (found : Option X) (items : X → List ℕ) (held : Option (List ℕ)) → (IsTrue due → Due) → OnFalse due (option_map items found ≡ held) → found ≡ None → Due ⊎ (held ≡ None)
due_or_absent true found items held is known none = inl (is refl)
due_or_absent false found items held is known none =
    inr (sym known ∙ ap (λ (f : Option _). option_map items f) none)

-- bytes that were answered are those of the file
pub bytes_held : (held : Option (List ℕ)) (bytes : List ℕ) (result : Result (Vec ℕ Global) StoreError) → held ≡ Some bytes → IfOk result (λ v. v.items ≡ bytes) → IfOk result (λ v. held ≡ Some v.items)
bytes_held held bytes (Ok v) is same = is ∙ ap (λ (xs : List ℕ). Some xs) (sym same)
bytes_held held bytes (Err error) is same = tt

-- what holds anyway holds where something was answered
pub ok_anyway : {T E A : Type 0} (result : Result T E) → A → OnOk result A
ok_anyway (Ok v) holds = holds
ok_anyway (Err error) holds = tt

-- an error answers nothing
pub no_answer : {T E : Type 0} (result : Result T E) (P : T → Type 0) → IsErr result → IfOk result P
no_answer (Ok v) P err = absurd (false≢true err)
no_answer (Err error) P err = tt

-- what found no memory was not refused, nor longer than the limit
pub not_failed : {T : Type 0} (result : Result T StoreError) → result ≡ Err store_error.NoMemory → ¬ (IsErrOf result store_error.Failed)
not_failed result is failed = cc

pub not_too_long : {T : Type 0} (result : Result T StoreError) → result ≡ Err store_error.NoMemory → ¬ (IsErrOf result store_error.TooLong)
not_too_long result is long = cc

-- what was refused found memory
pub found_memory : {T : Type 0} → ¬ (IsErrOf {T = T} (Err store_error.Failed) store_error.NoMemory)
found_memory memory = cc

-- what was done has no error
pub no_error : {T : Type 0} (value : T) (error : StoreError) → ¬ (IsErrOf (Ok value) error)
no_error value error is = cc
