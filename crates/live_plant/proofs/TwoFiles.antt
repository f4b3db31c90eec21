-- Two files, each read where it is named, one after the other; and then an answer of which something holds by their
-- bytes.
use Rattle.std.proofs.Common.{◌≡◌, ◌⊎◌, Bool, Option, ℕ, List, Result, ap, subst, ⊎_elim, inr}
use Rattle.std.specs.Prelude.{Ok, Err, IfErr, IsErrAnd}
use Rattle.outside_io.specs.StoreView.{StoreView}
use Rattle.outside_io.specs.Calls.{Read}
use Rattle.live_plant.specs.declared.files.NamedFiles.{NamedFiles}
use Rattle.live_plant.specs.declared.refusals.refusal.Refusal.{Refusal}
use Rattle.live_plant.specs.declared.refusals.refusal.Refusal.TheVariants.{NoMemory}
use Rattle.live_plant.specs.Outside.{StoreOver, store_over, IsCaused}
use Rattle.live_plant.specs.Steps.{Step, Settles, GoesOn, LooksAtNamed, Then, Makes}
use Rattle.live_plant.proofs.StepLemmas.{then_makes, then_settles, then_hands_on}

-- after the first file: the second, and then the answer
abbrev AfterFirst : {A : Type 0} → Option (List ℕ) → (Option (List ℕ) → Option (List ℕ) → Result A Refusal → Type 0) → Option (List ℕ) → Step A
AfterFirst second P x = Then (LooksAtNamed second) (λ y. Settles (P x y))

abbrev pub ByBoth : {A : Type 0} → Option (List ℕ) → Option (List ℕ) → (Option (List ℕ) → Option (List ℕ) → Result A Refusal → Type 0) → Step A
ByBoth first second P = Then (LooksAtNamed first) (AfterFirst second P)

-- the file of a name is that of another that is the same
looked : (tells : Bool) (old new : StoreView) (named name : Option (List ℕ)) (answer : Result (Option (List ℕ)) Refusal) → named ≡ name → Makes (store_over tells old new) (LooksAtNamed named) answer → Makes (store_over tells old new) (LooksAtNamed name) answer
looked tells old new named name answer same made =
    subst (λ (n : Option (List ℕ)). Makes (store_over tells old new) (LooksAtNamed n) answer) same made

-- the first file gave a refusal
pub first_fails : {A : Type 0} (tells : Bool) (old new : StoreView) (named first second : Option (List ℕ)) (P : Option (List ℕ) → Option (List ℕ) → Result A Refusal → Type 0) (stop : Refusal) (answer : Result A Refusal) → IsErrAnd answer (λ e. e ≡ stop) → named ≡ first → Makes {A = Option (List ℕ)} (store_over tells old new) (LooksAtNamed named) (Err stop) → Makes (store_over tells old new) (ByBoth first second P) answer
first_fails tells old new named first second P stop answer was same made =
    then_hands_on tells old new (LooksAtNamed first) (AfterFirst second P) stop answer was (looked tells old new named first (Err stop) same made)

-- the second one did
pub second_fails : {A : Type 0} (tells : Bool) (old between new : StoreView) (named first also second : Option (List ℕ)) (P : Option (List ℕ) → Option (List ℕ) → Result A Refusal → Type 0) (x : Option (List ℕ)) (stop : Refusal) (answer : Result A Refusal) → IsErrAnd answer (λ e. e ≡ stop) → named ≡ first → also ≡ second → Makes (store_over tells old between) (LooksAtNamed named) (Ok x) → Makes {A = Option (List ℕ)} (store_over tells between new) (LooksAtNamed also) (Err stop) → Makes (store_over tells old new) (ByBoth first second P) answer
second_fails tells old between new named first also second P x stop answer was same same_too made made_too =
    then_makes tells old between new (LooksAtNamed first) (AfterFirst second P) x answer (looked tells old between named first (Ok x) same made)
    (then_hands_on tells between new (LooksAtNamed second) (λ y. Settles (P x y)) stop answer was (looked tells between new also second (Err stop) same_too made_too))

-- both were read
pub both_read : {A : Type 0} (tells : Bool) (old between new : StoreView) (named first also second : Option (List ℕ)) (P : Option (List ℕ) → Option (List ℕ) → Result A Refusal → Type 0) (x y : Option (List ℕ)) (answer : Result A Refusal) → named ≡ first → also ≡ second → Makes (store_over tells old between) (LooksAtNamed named) (Ok x) → Makes (store_over tells between new) (LooksAtNamed also) (Ok y) → P x y answer ⊎ (answer ≡ Err NoMemory) → IfErr answer (IsCaused (store_over tells new new)) → Makes (store_over tells old new) (ByBoth first second P) answer
both_read tells old between new named first also second P x y answer same same_too made made_too is caused =
    then_makes tells old between new (LooksAtNamed first) (AfterFirst second P) x answer (looked tells old between named first (Ok x) same made)
    (then_settles tells between new (LooksAtNamed second) (P x) y answer (looked tells between new also second (Ok y) same_too made_too) is caused)

-- both, as one value
abbrev pub AreBoth : Option (List ℕ) → Option (List ℕ) → Result NamedFiles Refusal → Type 0
AreBoth x y answer = answer ≡ Ok (record { demands = x; times = y })

-- an answer of which something holds by their bytes, where a step read both
abbrev Holds : {A : Type 0} → (Option (List ℕ) → Option (List ℕ) → Result A Refusal → Type 0) → NamedFiles → Result A Refusal → Type 0
Holds P files answer = P files.demands files.times answer ⊎ (answer ≡ Err NoMemory)

second_goes_on : {A : Type 0} (P : Option (List ℕ) → Option (List ℕ) → Result A Refusal → Type 0) (x : Option (List ℕ)) (files : NamedFiles) (answer : Result A Refusal) (between : Result (Option (List ℕ)) Refusal) (after : List Read) → GoesOn (λ y. Settles (AreBoth x y)) between after (Ok files) → Holds P files answer → GoesOn (λ y. Settles (P x y)) between after answer
second_goes_on P x files answer (Ok y) after on holds =
    let both : NamedFiles = record { demands = x; times = y } in
    (on.0, ⊎_elim (λ is. let same : files ≡ both = cc in subst (λ (f : NamedFiles). Holds P f answer) same holds) (λ none. absurd (cc)) on.1)
second_goes_on P x files answer (Err refusal) after on holds = absurd (let no = on.1 in cc)

-- a step that answers something else and read the same
made_of : {A B : Type 0} (store : StoreOver) (step : Step A) (other : Step B) (found : Result A Refusal) (answer : Result B Refusal) (m : Makes store step found) → other m.reads answer → IfErr answer (IsCaused store) → Makes store other answer
made_of store step other found answer m answers caused = record {
  reads = m.reads;
  asked = m.asked;
  of_files = m.of_files;
  answers = answers;
  caused = caused;
  files_stay = m.files_stay;
  read_faults_stay_or_rise = m.read_faults_stay_or_rise;
  write_faults_stay_or_rise = m.write_faults_stay_or_rise;
}

-- another way on from the same first step
other_way : {X A B : Type 0} (first : Step X) (next : X → Step A) (other : X → Step B) (reads : List Read) (found : Result A Refusal) (answer : Result B Refusal) (m : Then first next reads found) → GoesOn other m.between m.after answer → Then first other reads answer
other_way first next other reads found answer m on = record {
  before = m.before;
  after = m.after;
  split = m.split;
  between = m.between;
  answers = m.answers;
  goes_on = on;
}

first_goes_on : {A : Type 0} (second : Option (List ℕ)) (P : Option (List ℕ) → Option (List ℕ) → Result A Refusal → Type 0) (files : NamedFiles) (answer : Result A Refusal) (between : Result (Option (List ℕ)) Refusal) (after : List Read) → GoesOn (AfterFirst second AreBoth) between after (Ok files) → Holds P files answer → GoesOn (AfterFirst second P) between after answer
first_goes_on second P files answer (Ok x) after on holds =
    other_way (LooksAtNamed second) (λ y. Settles (AreBoth x y)) (λ y. Settles (P x y)) after (Ok files) answer on
    (second_goes_on P x files answer on.between on.after on.goes_on holds)
first_goes_on second P files answer (Err refusal) after on holds = absurd (let no = on.1 in cc)

pub both_given : {A : Type 0} (tells : Bool) (old new : StoreView) (first second : Option (List ℕ)) (P : Option (List ℕ) → Option (List ℕ) → Result A Refusal → Type 0) (files : NamedFiles) (answer : Result A Refusal) → Makes (store_over tells old new) (ByBoth first second AreBoth) (Ok files) → Holds P files answer → IfErr answer (IsCaused (store_over tells old new)) → Makes (store_over tells old new) (ByBoth first second P) answer
both_given tells old new first second P files answer m holds caused =
    made_of (store_over tells old new) (ByBoth first second AreBoth) (ByBoth first second P) (Ok files) answer m
    (other_way (LooksAtNamed first) (AfterFirst second AreBoth) (AfterFirst second P) m.reads (Ok files) answer m.answers
    (first_goes_on second P files answer m.answers.between m.answers.after m.answers.goes_on holds))
    caused

-- and a refusal, where it didn't
second_stops : {A : Type 0} (P : Option (List ℕ) → Option (List ℕ) → Result A Refusal → Type 0) (x : Option (List ℕ)) (refusal : Refusal) (between : Result (Option (List ℕ)) Refusal) (after : List Read) → GoesOn (λ y. Settles (AreBoth x y)) between after (Err refusal) → GoesOn {B = A} (λ y. Settles (P x y)) between after (Err refusal)
second_stops P x refusal (Ok y) after on =
    (on.0, ⊎_elim (λ is. absurd (cc)) (λ none. let same : refusal ≡ NoMemory = cc in inr (ap Err same)) on.1)
second_stops P x refusal (Err stop) after on = let is = on.1 in let same : refusal ≡ stop = cc in (on.0, ap Err same)

first_stops : {A : Type 0} (second : Option (List ℕ)) (P : Option (List ℕ) → Option (List ℕ) → Result A Refusal → Type 0) (refusal : Refusal) (between : Result (Option (List ℕ)) Refusal) (after : List Read) → GoesOn (AfterFirst second AreBoth) between after (Err refusal) → GoesOn {B = A} (AfterFirst second P) between after (Err refusal)
first_stops second P refusal (Ok x) after on =
    other_way (LooksAtNamed second) (λ y. Settles (AreBoth x y)) (λ y. Settles (P x y)) after (Err refusal) (Err refusal) on
    (second_stops P x refusal on.between on.after on.goes_on)
first_stops second P refusal (Err stop) after on = let is = on.1 in let same : refusal ≡ stop = cc in (on.0, ap Err same)

pub none_given : {A : Type 0} (tells : Bool) (old new : StoreView) (first second : Option (List ℕ)) (P : Option (List ℕ) → Option (List ℕ) → Result A Refusal → Type 0) (refusal : Refusal) → Makes {A = NamedFiles} (store_over tells old new) (ByBoth first second AreBoth) (Err refusal) → Makes {A = A} (store_over tells old new) (ByBoth first second P) (Err refusal)
none_given tells old new first second P refusal m =
    made_of (store_over tells old new) (ByBoth first second AreBoth) (ByBoth first second P) (Err refusal) (Err refusal) m
    (other_way (LooksAtNamed first) (AfterFirst second AreBoth) (AfterFirst second P) m.reads (Err refusal) (Err refusal) m.answers
    (first_stops second P refusal m.answers.between m.answers.after m.answers.goes_on))
    m.caused
