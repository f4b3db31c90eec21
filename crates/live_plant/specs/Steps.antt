-- The steps of a command. A step makes reads, and then answers a value to go on with, or the refusal that the command
-- ends with.
use Rattle.std.specs.Prelude.{◌≡◌, ◌⊎◌, ℕ, List, [], ◌∷◌, ◌++◌, Option, Some, None, Result, Ok, Err, IfErr, All}
use Rattle.outside_io.specs.Calls.{Read}
use Rattle.outside_io.specs.Contents.{SameFiles}
use Rattle.outside_io.specs.Faults.{NeverFall}
use Rattle.outside_io.specs.declared.store.StoreError.{StoreError}
use Rattle.outside_io.specs.declared.store.StoreError.TheVariants as store_error
use Rattle.live_plant.specs.Outside.{StoreOver, with_reads, IsOfFile, IsCaused}
use Rattle.live_plant.specs.declared.refusals.refusal.Refusal.{Refusal}
use Rattle.live_plant.specs.declared.refusals.refusal.Refusal.TheVariants.{NoMemory, StoreFault, TooLong}

-- the reads that a step makes, in order, and what it answers
abbrev pub Step : Type 0 → Type 1
Step A = List Read → Result A Refusal → Type 0

-- Nothing is read, and this holds of the answer; or there is no memory.
abbrev pub Settles : {A : Type 0} → (Result A Refusal → Type 0) → Step A
Settles P reads answer = (reads ≡ []) × (P answer ⊎ (answer ≡ Err NoMemory))

-- nothing is read, and the answer is this one
abbrev pub Gives : {A : Type 0} → Result A Refusal → Step A
Gives want = Settles (λ answer. answer ≡ want)

-- what an answer of the store answers; no memory may come in place of a refusal
abbrev pub AnswersRead : List ℕ → Result (List ℕ) StoreError → Result (List ℕ) Refusal → Type 0
AnswersRead name (Ok bytes) answer = answer ≡ Ok bytes
AnswersRead name (Err store_error.Failed) answer = (answer ≡ Err (StoreFault name)) ⊎ (answer ≡ Err NoMemory)
AnswersRead name (Err store_error.TooLong) answer = (answer ≡ Err (TooLong name)) ⊎ (answer ≡ Err NoMemory)
AnswersRead name (Err store_error.NoMemory) answer = answer ≡ Err NoMemory

-- the file of this name is read, once
pub record LooksAt (name : List ℕ) (reads : List Read) (answer : Result (List ℕ) Refusal) : Type 0 where
  pub given : Result (List ℕ) StoreError
  pub one : reads ≡ record { name = name; answer = given } ∷ []
  pub answers : AnswersRead name given answer

-- a next step goes on with a value; a refusal ends the command, and nothing more is read
abbrev pub GoesOn : {A B : Type 0} → (A → Step B) → Result A Refusal → Step B
GoesOn next (Ok x) reads answer = next x reads answer
GoesOn next (Err refusal) reads answer = (reads ≡ []) × (answer ≡ Err refusal)

-- one step, and then a next one
pub record Then {A B : Type 0} (first : List Read → Result A Refusal → Type 0)
    (next : A → List Read → Result B Refusal → Type 0) (reads : List Read) (answer : Result B Refusal) : Type 0 where
  pub before : List Read
  pub after : List Read
  pub split : reads ≡ before ++ after
  pub between : Result A Refusal
  pub answers : first before between
  pub goes_on : GoesOn next between after answer

-- the file of a name is read where there is one
abbrev pub LooksAtNamed : Option (List ℕ) → Step (Option (List ℕ))
LooksAtNamed None = Gives (Ok None)
LooksAtNamed (Some name) = Then (LooksAt name) (λ bytes. Gives (Ok (Some bytes)))

-- A store over a call that makes a step: the reads of this call are those of the step, and nothing else was asked; each
-- fits its file; and a refusal has its cause.
pub record Makes {A : Type 0} (store : StoreOver) (step : List Read → Result A Refusal → Type 0)
    (answer : Result A Refusal) : Type 0 where
  pub reads : List Read
  pub asked : store.new.asked ≡ with_reads store.old.asked reads
  pub of_files : All (IsOfFile store) reads
  pub answers : step reads answer
  pub caused : IfErr answer (IsCaused store)
  pub files_stay : SameFiles store.tells store.old.files store.new.files
  pub read_faults_stay_or_rise : NeverFall store.old.read_faults store.new.read_faults
  pub write_faults_stay_or_rise : NeverFall store.old.write_faults store.new.write_faults
