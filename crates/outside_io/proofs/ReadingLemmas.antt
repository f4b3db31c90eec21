-- What a read took and counted, by how it ended.
use Rattle.std.proofs.Common.{◌≡◌, ℕ, ◌+◌, ◌-◌, ◌^◌, ◌<◌, ◌≤◌, min, length, Vec, refl, sym, subst, arith}
use Rattle.std.specs.Prelude.{Result, Ok, Err}
use Rattle.std.specs.declared.alloc.Global.{Global}
use Rattle.outside_io.specs.Faults.{Rose}
use Rattle.outside_io.specs.Reading.{TakesToLimit}
use Rattle.outside_io.specs.declared.store.StoreError.{StoreError}
use Rattle.outside_io.specs.declared.store.StoreError.TheVariants as store_error

-- at the end of the file
pub takes_all : (limit taken before now : ℕ) (v : Vec ℕ Global) → taken ≡ length v.items → length v.items ≤ limit → now ≡ before → TakesToLimit limit taken before now (Ok v)
takes_all limit taken before now v took few stays = record {
  within_limit = few;
  took_them = took;
  too_long = ((λ long. cc), λ more. absurd (omega arith));
  one_more_at_most = omega arith;
  cause = λ failed. cc;
  faults_stay = stays;
  once = omega arith;
  memory_is_no_fault = λ memory. cc;
  faults_stay_or_rise = omega arith;
}

-- more than the limit was taken
pub takes_too_long : (limit taken before now : ℕ) → limit < taken → taken ≤ limit + 1 → now ≡ before → TakesToLimit limit taken before now (Err store_error.TooLong)
takes_too_long limit taken before now more few stays = record {
  within_limit = tt;
  took_them = tt;
  too_long = ((λ long. more), λ is. refl);
  one_more_at_most = few;
  cause = λ failed. cc;
  faults_stay = tt;
  once = omega arith;
  memory_is_no_fault = λ memory. cc;
  faults_stay_or_rise = omega arith;
}

-- it gave up, at no more than the limit
takes_until_error : (limit taken before now : ℕ) (error : StoreError) (result : Result (Vec ℕ Global) StoreError) → result ≡ Err error → ¬ (error ≡ store_error.TooLong) → taken ≤ limit → (error ≡ store_error.Failed → Rose before now) → (error ≡ store_error.NoMemory → now ≡ before) → before ≤ now → now ≤ before + 1 → TakesToLimit limit taken before now result
takes_until_error limit taken before now error result is other few failed stays later once =
    subst (λ answer. TakesToLimit limit taken before now answer) (sym is) (record {
      within_limit = tt;
      took_them = tt;
      too_long = ((λ long. absurd (let same : error ≡ store_error.TooLong = cc in other same)), λ more. absurd (omega arith));
      one_more_at_most = omega arith;
      cause = λ refused. let same : error ≡ store_error.Failed = cc in failed same;
      faults_stay = tt;
      once = once;
      memory_is_no_fault = λ memory. let same : error ≡ store_error.NoMemory = cc in stays same;
      faults_stay_or_rise = later;
    })

-- it was refused
pub takes_until_refused : (limit taken before now : ℕ) (result : Result (Vec ℕ Global) StoreError) → result ≡ Err store_error.Failed → taken ≤ limit → now ≡ min (before + 1) (2 ^ 64 - 1) → before ≤ now → TakesToLimit limit taken before now result
takes_until_refused limit taken before now result is few once later =
    takes_until_error limit taken before now store_error.Failed result is (λ long. cc) few (λ failed. omega arith) (λ memory. cc) later (omega arith)

-- there was no memory for what it gave
pub takes_no_memory : (limit taken before now : ℕ) (result : Result (Vec ℕ Global) StoreError) → result ≡ Err store_error.NoMemory → taken ≤ limit → now ≡ before → TakesToLimit limit taken before now result
takes_no_memory limit taken before now result is few stays =
    takes_until_error limit taken before now store_error.NoMemory result is (λ long. cc) few (λ failed. cc) (λ memory. stays) (omega arith) (omega arith)
