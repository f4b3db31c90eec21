-- What is known of an answer of the file by the answer of the call, for which it was counted.
use Rattle.std.proofs.Common.{◌≡◌, Result, Ok, Err, is_ok, is_err, OnOk, OnErr, refl, sym, ap, ◌∙◌}
use Rattle.std.specs.Prelude.{IfErr, IsErrOf}
use Rattle.std.proofs.lemmas.Bool.{true≢false, false≢true}
use Rattle.crash_disk.specs.declared.disk.DiskError.{DiskError}
use Rattle.crash_disk.specs.declared.disk.DiskError.TheVariants.{Failed, NoMemory}

-- what holds of an answer that was done holds of the call
pub on_ok_counted : {T E F : Type 0} (A : Type 0) (answer : Result T E) (counted : Result T F) → is_ok counted ≡ is_ok answer → OnOk answer A → OnOk counted A
on_ok_counted A (Ok x) (Ok y) same holds = holds
on_ok_counted A (Err e) (Ok y) same holds = absurd (true≢false same)
on_ok_counted A answer (Err f) same holds = tt

-- what holds of one that was refused holds where the call failed
pub on_err_counted : {T E F A : Type 0} (answer : Result T E) (counted : Result T F) (error : F) → is_ok counted ≡ is_ok answer → counted ≡ Err error → OnErr answer A → A
on_err_counted (Ok x) counted error same is holds = absurd (true≢false (sym same ∙ ap is_ok is))
on_err_counted (Err e) counted error same is holds = holds

-- what holds of a call that failed
pub on_err_is : {T E A : Type 0} (counted : Result T E) (error : E) → counted ≡ Err error → OnErr counted A → A
on_err_is (Ok x) error is holds = absurd (true≢false (ap is_ok is))
on_err_is (Err e) error is holds = holds

-- the one is refused where the other is
pub same_refusal : {T E F : Type 0} (answer : Result T E) (counted : Result T F) → is_ok counted ≡ is_ok answer → is_err answer ≡ is_err counted
same_refusal (Ok x) (Ok y) same = refl
same_refusal (Ok x) (Err f) same = absurd (false≢true same)
same_refusal (Err e) (Ok y) same = absurd (true≢false same)
same_refusal (Err e) (Err f) same = refl

-- a call that only fails never lacks memory
pub never_memory : {T : Type 0} (counted : Result T DiskError) → IfErr counted (λ error. error ≡ Failed) → ¬ (IsErrOf counted NoMemory)
never_memory (Ok x) failed is = cc
never_memory (Err error) failed is = cc
