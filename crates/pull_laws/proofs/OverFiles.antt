-- A call over a store whose files aren't known ends as over files from which its reads were answered.
use Rattle.std.proofs.Common.{◌≡◌, ◌≢◌, ℕ, true, if◌then◌else◌, List, [], ◌∷◌, ◌++◌, length, refl, ap}
use Rattle.std.proofs.Common.{sym, ◌∙◌, subst, inl, inr}
use Rattle.std.specs.Prelude.{Option, Some, None, Bool, Result, Ok, Err, IfErr, All}
use Rattle.std.specs.Str.{bytes_eq}
use Rattle.std.proofs.Math.Seq.{take-append_seam}
use Rattle.std.proofs.lemmas.Bool.{false_from_ne_true}
use Rattle.std.proofs.lemmas.List.{append_cancel_left}
use Rattle.std.proofs.lemmas.List.Elements.{All-nil, All-cons, All-head, All-tail, All-take}
use Rattle.std.proofs.lemmas.Slice.Eq.{bytes_eq-Decides}
use Rattle.command_line.specs.Words.{command_of}
use Rattle.command_line.specs.declared.command.Command.{Command}
use Rattle.command_line.specs.declared.command.Command.TheVariants.{Alone, Lint, OnPlant, OnFile, Standing, Stopping, OnDisk}
use Rattle.answers.specs.declared.answer.Answer.{Answer}
use Rattle.outside_io.specs.Calls.{Read, Write, Asked}
use Rattle.outside_io.specs.Contents.{Contents}
use Rattle.outside_io.specs.declared.store.StoreError.{StoreError}
use Rattle.outside_io.specs.declared.store.StoreError.TheVariants as store_error
use Rattle.plant_model.specs.declared.plant.Plant.{Plant}
use Rattle.live_plant.specs.declared.refusals.refusal.Refusal.{Refusal}
use Rattle.live_plant.specs.declared.refusals.refusal.Refusal.TheVariants.{Disk, StoreFault, TooLong}
use Rattle.live_plant.specs.Actions.{Action, DiskOver, Does, Plainly, ThenDoes, Changes, HasCause, with_asked}
use Rattle.live_plant.specs.Outside.{StoreOver, Fits, IsOfFile}
use Rattle.live_plant.specs.LiveSteps.{OfPlantNamed}
use Rattle.live_plant.specs.Steps.{Step, Then}
use Rattle.live_plant.proofs.PlantsOfFiles.{of_live_plant}
use Rattle.pull_cli.specs.Verdict.{OfCommand, OfWords}
use Rattle.pull_laws.specs.Recorded.{IsAnswer, IsReadOf, ReadsFrom, with_file, telling, over_files, HasEnded}
use Rattle.pull_laws.specs.Resuming.{Call}
use Rattle.pull_laws.proofs.FirstSteps.{also_then}

-- a prefix of a list has what the list has
pub all_front : {X : Type 0} (P : X → Type 0) (xs ys : List X) → All P (xs ++ ys) → All P xs
all_front P xs ys all = subst (All P) (take-append_seam xs ys) (All-take P (length xs) (xs ++ ys) all)

-- a file that was given these bytes has them, and the others are as they were
pub with_file-named : (files : Contents) (name bytes : List ℕ) → with_file files name bytes name ≡ Some bytes
with_file-named files name bytes =
    ap (λ (b : Bool). if b then Some bytes else files name) ((bytes_eq-Decides name name).1 refl)

pub with_file-other : (files : Contents) (name bytes q : List ℕ) → q ≢ name → with_file files name bytes q ≡ files q
with_file-other files name bytes q other =
    ap (λ (b : Bool). if b then Some bytes else files q)
    (false_from_ne_true (bytes_eq q name) (λ same. other ((bytes_eq-Decides q name).0 same)))

-- what a call has asked is one
pub one_asked : (old one other : Asked) → with_asked old one ≡ with_asked old other → one ≡ other
one_asked old one other same =
    let reads = append_cancel_left old.reads one.reads other.reads (ap (λ (a : Asked). a.reads) same) in
    let writes = append_cancel_left old.writes one.writes other.writes (ap (λ (a : Asked). a.writes) same) in
    ap (λ (rs : List Read). record one { reads = rs }) reads ∙
    ap (λ (ws : List Write). record other { writes = ws }) writes

-- an answer over files of which it can be one, that was no longer than it may be
answer_fits : (tells : Bool) (own files : Contents) (name : List ℕ) (answer : Result (List ℕ) StoreError) →
    Fits tells own name answer → IsAnswer name (files name) answer → Fits true files name answer
answer_fits tells own files name (Ok bytes) fits is = (fits.0, λ known. is)
answer_fits tells own files name (Err store_error.TooLong) fits is = λ known. is
answer_fits tells own files name (Err store_error.Failed) fits is = tt
answer_fits tells own files name (Err store_error.NoMemory) fits is = tt

module _ (store : StoreOver) (before after : Contents) where
  abbrev store_of_files : StoreOver
  store_of_files = telling before after store

  abbrev own : Contents
  own = store.old.files

  abbrev Held : Read → Type 0
  Held = IsOfFile store_of_files

  pub reads_fit : (reads : List Read) → All (IsOfFile store) reads → All (IsReadOf before) reads → All Held reads
  reads_fit [] fits answers = All-nil Held
  reads_fit (r ∷ rs) fits answers =
      All-cons Held r rs
      (answer_fits store.tells own before r.name r.answer (All-head (IsOfFile store) r rs fits)
      (All-head (IsReadOf before) r rs answers))
      (reads_fit rs (All-tail (IsOfFile store) r rs fits) (All-tail (IsReadOf before) r rs answers))

  -- the plant that is named by the first of some reads
  plant_named : (name : List ℕ) (first rest reads : List Read) (answer : Result Plant Refusal) →
      OfPlantNamed store.tells own name first answer → reads ≡ first ++ rest → All Held reads →
      OfPlantNamed true before name first answer
  plant_named name first rest reads answer of split held = record {
    answers = of.answers;
    of_files = λ known.
        of_live_plant store_of_files known name first answer of.answers (all_front Held first rest (subst (All Held) split held));
  }

  plant_then : {A : Type 0} (next : Plant → Step A) (name : List ℕ) (reads : List Read) (answer : Result A Refusal) →
      Then (OfPlantNamed store.tells own name) next reads answer → All Held reads →
      Then (OfPlantNamed true before name) next reads answer
  plant_then next name reads answer steps held =
      also_then (OfPlantNamed store.tells own name) (OfPlantNamed true before name) next reads answer steps
      (plant_named name steps.before steps.after reads steps.between steps.answers steps.split held)

  plant_plainly : {A : Type 0} (next : Plant → Step A) (name : List ℕ) (asks : Asked) (disk : DiskOver)
      (answer : Result A Refusal) → Plainly (Then (OfPlantNamed store.tells own name) next) asks disk answer →
      All Held asks.reads → Plainly (Then (OfPlantNamed true before name) next) asks disk answer
  plant_plainly next name asks disk answer does held = record {
    unwritten = does.unwritten;
    untouched = does.untouched;
    answers = plant_then next name asks.reads answer does.answers held;
  }

  plant_does : {A : Type 0} (next : Plant → Action A) (name : List ℕ) (asks : Asked) (disk : DiskOver)
      (answer : Result A Refusal) → ThenDoes (OfPlantNamed store.tells own name) next asks disk answer →
      All Held asks.reads → ThenDoes (OfPlantNamed true before name) next asks disk answer
  plant_does next name asks disk answer does held = record {
    before = does.before;
    after = does.after;
    split = does.split;
    between = does.between;
    answers = plant_named name does.before does.after asks.reads does.between does.answers does.split held;
    does_on = does.does_on;
  }

  -- what each command does
  command_does : (command : Command) (asks : Asked) (disk : DiskOver) (answer : Result Answer Refusal) →
      OfCommand store.tells own command asks disk answer → All Held asks.reads →
      OfCommand true before command asks disk answer
  command_does (Alone question) asks disk answer does held = does
  command_does (Lint file) asks disk answer does held = does
  command_does (OnPlant plant question) asks disk answer does held =
      plant_plainly _ plant.file asks disk answer does held
  command_does (OnFile plant file question) asks disk answer does held =
      plant_plainly _ plant.file asks disk answer does held
  command_does (Standing plant workers) asks disk answer does held =
      plant_plainly _ plant.file asks disk answer does held
  command_does (Stopping plant workers stop) asks disk answer does held =
      plant_does _ plant.file asks disk answer does held
  command_does (OnDisk plant question) asks disk answer does held = plant_does _ plant.file asks disk answer does held

  words_do : (asked : Option Command) (asks : Asked) (disk : DiskOver) (answer : Result Answer Refusal) →
      OfWords store.tells own asked asks disk answer → All Held asks.reads → OfWords true before asked asks disk answer
  words_do None asks disk answer does held = does
  words_do (Some command) asks disk answer (inl does) held =
      inl (command_does command asks disk answer does held)
  words_do (Some command) asks disk answer (inr wanting) held = inr wanting

  -- the cause of a refusal is in the counts, which are the same
  same_cause : (disk : DiskOver) (writes : List Write) (refusal : Refusal) → HasCause store disk writes refusal →
      HasCause store_of_files disk writes refusal
  same_cause disk writes (StoreFault file) cause = cause
  same_cause disk writes (TooLong file) cause = cause
  same_cause disk writes Disk cause = cause
  same_cause disk writes other cause = tt

  causes : (disk : DiskOver) (writes : List Write) (answer : Result Answer Refusal) →
      IfErr answer (HasCause store disk writes) → IfErr answer (HasCause store_of_files disk writes)
  causes disk writes (Ok output) cause = tt
  causes disk writes (Err refusal) cause = same_cause disk writes refusal cause

  words_told : (asked : Option Command) (disk : DiskOver) (answer : Result Answer Refusal)
      (does : Does store disk (OfWords store.tells own asked) answer) → All (IsReadOf before) does.asks.reads →
      Changes store_of_files does.asks.writes → Does store_of_files disk (OfWords true before asked) answer
  words_told asked disk answer does answers changes =
      let held = reads_fit does.asks.reads does.of_files answers in
      record {
        asks = does.asks;
        asked = does.asked;
        of_files = held;
        changes = changes;
        answers = words_do asked does.asks disk answer does.answers held;
        caused = causes disk does.asks.writes answer does.caused;
        read_faults_stay_or_rise = does.read_faults_stay_or_rise;
        write_faults_stay_or_rise = does.write_faults_stay_or_rise;
        disk_faults_stay_or_rise = does.disk_faults_stay_or_rise;
      }

-- what a call has asked, by how it ended and as its record says
pub asks_recorded : (call : Call) (files : Contents) (ends : HasEnded call) (reads : ReadsFrom files call.store) →
    reads.asks ≡ ends.does.asks
asks_recorded call files ends reads =
    one_asked call.store.old.asked reads.asks ends.does.asks (sym reads.asked ∙ ends.does.asked)

-- so a call ends as over the files
pub ends_over_files : (call : Call) (before after : Contents) (reads : ReadsFrom before call.store) → HasEnded call →
    Changes (telling before after call.store) reads.asks.writes → HasEnded (over_files before after call)
ends_over_files call before after reads ends changes =
    let same = asks_recorded call before ends reads in
    record {
      answer = ends.answer;
      does = words_told call.store before after (command_of call.words) call.disk ends.answer ends.does
          (subst (λ (a : Asked). All (IsReadOf before) a.reads) same reads.answers)
          (subst (λ (a : Asked). Changes (telling before after call.store) a.writes) same changes);
      finishes = ends.finishes;
    }
