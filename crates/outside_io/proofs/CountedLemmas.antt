-- What a write of a file did and counted, and what stays of it when the file is closed.
use Rattle.std.proofs.Common.{◌≡◌, inl, ℕ, ◌+◌, ◌-◌, ◌^◌, ◌≤◌, min, List, Bool, true, false, refl, ◌∙◌, subst, arith}
use Rattle.std.specs.Prelude.{Result, Ok, Err, Some, is_ok, IfErr, OnOk, OnErr, IsTrue}
use Rattle.std.proofs.lemmas.Bool.{false≢true, true≢false}
use Rattle.outside_io.specs.RawFiles.{Named, FilesView, AsksToWrite, SameHeld, SameNamed, WritesFile, named_files, spare_of}
use Rattle.outside_io.specs.Writing.{WritesCounted}
use Rattle.outside_io.specs.declared.store.StoreError.{StoreError}
use Rattle.outside_io.specs.declared.store.StoreError.TheVariants as store_error
use Rattle.outside_io.proofs.RawFilesModel.{named_not_spare}

-- a write that the machine did or refused
pub writes_counted : {E : Type 0} (tells : Bool) (old new : FilesView) (spare name bytes : List ℕ) (before now : ℕ) (answer : Result (Unit {0}) E) (result : Result (Unit {0}) StoreError) → spare ≡ spare_of name → WritesFile tells old new spare name bytes (AsksToWrite spare name bytes) answer → is_ok result ≡ is_ok answer → IfErr result (λ error. error ≡ store_error.Failed) → OnOk result (now ≡ before) → before ≤ now → OnErr result (now ≡ min (before + 1) (2 ^ 64 - 1)) → WritesCounted tells old new name bytes before now result
writes_counted tells old new spare name bytes before now (Ok done) (Ok well) is writes same failed stays up once = record {
  asks = λ found. (writes.asks.0, writes.asks.1, (subst (λ s. AsksToWrite s name bytes writes.asks.0 true) is writes.asks.2.0, λ empty. tt));
  untouched = λ memory. cc;
  written = writes.written;
  others_stay = λ known q apart. writes.others_stay known (Named q) (λ named. apart (cc named)) (named_not_spare q spare);
  torn = writes.torn;
  never_too_long = λ long. cc;
  cause = λ refused. cc;
  faults_stay = stays;
  stays_or_rises = up;
  once = omega (arith, stays);
  memory_is_no_fault = λ memory. stays;
}
writes_counted tells old new spare name bytes before now (Err refused) (Err error) is writes same failed stays up once = record {
  asks = λ found. (writes.asks.0, writes.asks.1, (subst (λ s. AsksToWrite s name bytes writes.asks.0 false) is writes.asks.2.0, writes.asks.2.1));
  untouched = λ memory. cc (memory, failed);
  written = tt;
  others_stay = λ known q apart. writes.others_stay known (Named q) (λ named. apart (cc named)) (named_not_spare q spare);
  torn = writes.torn;
  never_too_long = λ long. cc (long, failed);
  cause = λ refused. omega (arith, once);
  faults_stay = tt;
  stays_or_rises = up;
  once = omega (arith, once);
  memory_is_no_fault = λ memory. cc (memory, failed);
}
writes_counted tells old new spare name bytes before now (Ok done) (Err error) is writes same failed stays up once = absurd (false≢true same)
writes_counted tells old new spare name bytes before now (Err refused) (Ok well) is writes same failed stays up once = absurd (true≢false same)

-- there was no memory for the name of the spare file
pub writes_nothing : (tells : Bool) (old : FilesView) (name bytes : List ℕ) (before : ℕ) → WritesCounted tells old old name bytes before before (Err store_error.NoMemory)
writes_nothing tells old name bytes before = record {
  asks = λ found. absurd (found refl);
  untouched = λ memory. refl;
  written = tt;
  others_stay = λ known q apart. refl;
  torn = λ known. inl refl;
  never_too_long = λ long. cc;
  cause = λ refused. cc;
  faults_stay = tt;
  stays_or_rises = omega arith;
  once = omega arith;
  memory_is_no_fault = λ memory. refl;
}

-- what was written stands when the file is closed
pub written_closed : (tells : Bool) (mid new : FilesView) (name bytes : List ℕ) (result : Result (Unit {0}) StoreError) → SameHeld tells mid new → OnOk result (IsTrue tells → named_files mid name ≡ Some bytes) → OnOk result (IsTrue tells → named_files new name ≡ Some bytes)
written_closed tells mid new name bytes (Ok well) stays written = λ known. stays known (Named name) ∙ written known
written_closed tells mid new name bytes (Err error) stays written = tt

-- and so does what a write that was refused left
pub same_closed : (tells : Bool) (old mid new : FilesView) (result : Result (Unit {0}) StoreError) → SameHeld tells mid new → OnErr result (SameNamed tells old mid) → OnErr result (SameNamed tells old new)
same_closed tells old mid new (Ok well) stays same = tt
same_closed tells old mid new (Err error) stays same = λ known q. stays known (Named q) ∙ same known q
