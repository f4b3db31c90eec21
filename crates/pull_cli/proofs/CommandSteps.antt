-- A command that has read what it names does what it asks for, and a refusal of a reading is that of the command.
use Rattle.std.proofs.Common.{◌≡◌, ◌⊎◌, Bool, List, ℕ, refl, subst, inl}
use Rattle.std.specs.Prelude.{Result, Ok, Err, IfErr, IsErrAnd}
use Rattle.answers.specs.declared.answer.Answer.{Answer}
use Rattle.answers.specs.declared.answer.Answer.TheVariants.{Text}
use Rattle.command_line.specs.declared.alone_question.AloneQuestion.{AloneQuestion}
use Rattle.command_line.specs.declared.command.Command.{Command}
use Rattle.command_line.specs.declared.command.Command.TheVariants.{Alone, Lint, OnPlant, OnFile, Standing, Stopping, OnDisk}
use Rattle.command_line.specs.declared.command.Stop.{Stop}
use Rattle.command_line.specs.declared.disk_question.DiskQuestion.{DiskQuestion}
use Rattle.command_line.specs.declared.file_question.FileQuestion.{FileQuestion}
use Rattle.command_line.specs.declared.plant_question.PlantQuestion.{PlantQuestion}
use Rattle.command_line.specs.declared.plant_source.PlantSource.{PlantSource}
use Rattle.commands.specs.Answers.{AnswersAlone, AnswersOfPlant, AnswersOfFile}
use Rattle.commands.specs.Reports.{IsReport, Writes}
use Rattle.commands.specs.Saving.{DoesOnSlots, RunsUntil}
use Rattle.outside_io.specs.StoreView.{StoreView}
use Rattle.live_plant.proofs.ActionLemmas.{hands_on_before, hands_on_plainly, plainly, settles_plainly}
use Rattle.live_plant.proofs.ActionLemmas.{then_does_on_disk, then_does_on_store, then_settles_plainly}
use Rattle.live_plant.proofs.StepLemmas.{settled_is_caused, then_makes, then_settles, then_stops}
use Rattle.live_plant.specs.Actions.{DiskOver, Does, DoesOnDisk, DoesOnStore}
use Rattle.live_plant.specs.LintSteps.{LintsPlant}
use Rattle.live_plant.specs.Outside.{store_over, NeedsNoCause}
use Rattle.live_plant.specs.Sources.{OfSource}
use Rattle.live_plant.specs.Steps.{LooksAt, Makes, Settles, Then}
use Rattle.plant_model.specs.declared.plant.Plant.{Plant}
use Rattle.pull_cli.specs.Verdict.{AsksWith, OfCommand}
use Rattle.live_plant.specs.declared.refusals.refusal.Refusal.{Refusal}
use Rattle.live_plant.specs.declared.refusals.refusal.Refusal.TheVariants.{NoMemory}

-- nothing is read
pub alone_does : (tells : Bool) (view : StoreView) (disk : DiskOver) (q : AloneQuestion)
    (answer : Result Answer Refusal) → disk.new ≡ disk.old → AnswersAlone q answer ⊎ (answer ≡ Err NoMemory) →
    IfErr answer NeedsNoCause → Does (store_over tells view view) disk (OfCommand tells view.files (Alone q)) answer
alone_does tells view disk q answer same is inside =
    settles_plainly tells view disk (AnswersAlone q) answer same (λ known. inside) is

-- a plant file is looked through
pub lint_does : {tells : Bool} {old new : StoreView} (disk : DiskOver) (name text : List ℕ) → disk.new ≡ disk.old →
    Makes (store_over tells old new) (LintsPlant name) (Ok text) →
    Does (store_over tells old new) disk (OfCommand tells old.files (Lint name)) (Ok (Text text))
lint_does {tells} {old} {new} disk name text same m =
    then_settles_plainly tells old new disk (LintsPlant name) Writes text (Ok (Text text)) same m (λ written. tt)
    (inl refl)

pub lint_refuses : {tells : Bool} {old new : StoreView} (disk : DiskOver) (name : List ℕ) (refusal : Refusal)
    (answer : Result Answer Refusal) → disk.new ≡ disk.old → IsErrAnd answer (λ e. e ≡ refusal) →
    Makes (store_over tells old new) (LintsPlant name) (Err refusal) →
    Does (store_over tells old new) disk (OfCommand tells old.files (Lint name)) answer
lint_refuses {tells} {old} {new} disk name refusal answer same was m =
    hands_on_plainly tells old new disk (LintsPlant name) (λ (text : List ℕ). Settles (Writes text)) refusal answer
    same was m

-- whether a command asks this live plant
abbrev pub IsSourceOf : PlantSource → Command → Type 0
IsSourceOf source (Alone question) = ⊥
IsSourceOf source (Lint file) = ⊥
IsSourceOf source (OnPlant plant question) = source ≡ plant
IsSourceOf source (OnFile plant file question) = source ≡ plant
IsSourceOf source (Standing plant workers) = source ≡ plant
IsSourceOf source (Stopping plant workers stop) = source ≡ plant
IsSourceOf source (OnDisk plant question) = source ≡ plant

reads_of : (tells : Bool) (old new : StoreView) (source plant : PlantSource) (refusal : Refusal) → source ≡ plant →
    Makes (store_over tells old new) (OfSource tells old.files source) (Err refusal) →
    Makes (store_over tells old new) (OfSource tells old.files plant) (Err refusal)
reads_of tells old new source plant refusal is m =
    subst (λ (s : PlantSource). Makes (store_over tells old new) (OfSource tells old.files s) (Err refusal)) is m

-- there is no live plant: its refusal, which `?` hands on, is the command's
pub no_plant : {tells : Bool} {old new : StoreView} (disk : DiskOver) (source : PlantSource) (command : Command)
    (refusal : Refusal) (answer : Result Answer Refusal) → IsSourceOf source command → disk.new ≡ disk.old →
    IsErrAnd answer (λ e. e ≡ refusal) →
    Makes (store_over tells old new) (OfSource tells old.files source) (Err refusal) →
    Does (store_over tells old new) disk (OfCommand tells old.files command) answer
no_plant {tells} {old} {new} disk source (Alone question) refusal answer is same was m = absurd is
no_plant {tells} {old} {new} disk source (Lint file) refusal answer is same was m = absurd is
no_plant {tells} {old} {new} disk source (OnPlant plant question) refusal answer is same was m =
    hands_on_plainly tells old new disk (OfSource tells old.files plant)
    (λ p. Settles (AnswersOfPlant question p)) refusal answer same was
    (reads_of tells old new source plant refusal is m)
no_plant {tells} {old} {new} disk source (OnFile plant file question) refusal answer is same was m =
    hands_on_plainly tells old new disk (OfSource tells old.files plant)
    (λ p. AsksWith file (AnswersOfFile question p)) refusal answer same was
    (reads_of tells old new source plant refusal is m)
no_plant {tells} {old} {new} disk source (Standing plant workers) refusal answer is same was m =
    hands_on_plainly tells old new disk (OfSource tells old.files plant)
    (λ p. Settles (IsReport p)) refusal answer same was
    (reads_of tells old new source plant refusal is m)
no_plant {tells} {old} {new} disk source (Stopping plant workers stop) refusal answer is same was m =
    hands_on_before tells old new disk (OfSource tells old.files plant)
    (λ p. RunsUntil p workers stop.after stop.save) refusal answer same was
    (reads_of tells old new source plant refusal is m)
no_plant {tells} {old} {new} disk source (OnDisk plant question) refusal answer is same was m =
    hands_on_before tells old new disk (OfSource tells old.files plant) (DoesOnSlots question) refusal answer
    same was (reads_of tells old new source plant refusal is m)

-- a live plant is asked
pub plant_does : {tells : Bool} {old new : StoreView} (disk : DiskOver) (source : PlantSource) (q : PlantQuestion)
    (p : Plant) (answer : Result Answer Refusal) → disk.new ≡ disk.old →
    Makes (store_over tells old new) (OfSource tells old.files source) (Ok p) →
    AnswersOfPlant q p answer ⊎ (answer ≡ Err NoMemory) → IfErr answer NeedsNoCause →
    Does (store_over tells old new) disk (OfCommand tells old.files (OnPlant source q)) answer
plant_does {tells} {old} {new} disk source q p answer same m is inside =
    then_settles_plainly tells old new disk (OfSource tells old.files source) (AnswersOfPlant q) p answer same m
    (λ known. inside) is

-- standing workers run it
pub standing_does : {tells : Bool} {old new : StoreView} (disk : DiskOver) (source : PlantSource) (workers : ℕ)
    (p : Plant) (answer : Result Answer Refusal) → disk.new ≡ disk.old →
    Makes (store_over tells old new) (OfSource tells old.files source) (Ok p) →
    IsReport p answer ⊎ (answer ≡ Err NoMemory) → IfErr answer NeedsNoCause →
    Does (store_over tells old new) disk (OfCommand tells old.files (Standing source workers)) answer
standing_does {tells} {old} {new} disk source workers p answer same m is inside =
    then_settles_plainly tells old new disk (OfSource tells old.files source) IsReport p answer same m
    (λ known. inside) is

-- a live plant and a further file are asked
pub file_does : {tells : Bool} {old between new : StoreView} (disk : DiskOver) (source : PlantSource) (file : List ℕ)
    (q : FileQuestion) (p : Plant) (answer : Result Answer Refusal) → disk.new ≡ disk.old →
    Makes (store_over tells old between) (OfSource tells old.files source) (Ok p) →
    Makes (store_over tells between new) (AsksWith file (AnswersOfFile q p)) answer →
    Does (store_over tells old new) disk (OfCommand tells old.files (OnFile source file q)) answer
file_does {tells} {old} {between} {new} disk source file q p answer same m n =
    plainly (store_over tells old new) disk
    (Then (OfSource tells old.files source) (λ x. AsksWith file (AnswersOfFile q x))) answer same
    (then_makes tells old between new (OfSource tells old.files source) (λ x. AsksWith file (AnswersOfFile q x)) p
    answer m n)

-- the further file is read
pub file_answered : {tells : Bool} {old new : StoreView} (file : List ℕ) (q : FileQuestion) (p : Plant)
    (bytes : List ℕ) (answer : Result Answer Refusal) → Makes (store_over tells old new) (LooksAt file) (Ok bytes) →
    AnswersOfFile q p bytes answer ⊎ (answer ≡ Err NoMemory) → IfErr answer NeedsNoCause →
    Makes (store_over tells old new) (AsksWith file (AnswersOfFile q p)) answer
file_answered {tells} {old} {new} file q p bytes answer m is inside =
    then_settles tells old new (LooksAt file) (AnswersOfFile q p) bytes answer m is
    (settled_is_caused (store_over tells new new) (AnswersOfFile q p bytes) answer (λ known. inside) is)

pub no_file : {tells : Bool} {old new : StoreView} (file : List ℕ) (q : FileQuestion) (p : Plant) (refusal : Refusal) →
    Makes (store_over tells old new) (LooksAt file) (Err refusal) →
    Makes (store_over tells old new) (AsksWith file (AnswersOfFile q p)) (Err refusal)
no_file {tells} {old} {new} file q p refusal m =
    then_stops tells old new (LooksAt file) (λ bytes. Settles (AnswersOfFile q p bytes)) refusal m

-- a live plant is run until it stops
pub stopping_does : {tells : Bool} {old between new : StoreView} (disk : DiskOver) (source : PlantSource) (workers : ℕ)
    (stop : Stop) (p : Plant) (answer : Result Answer Refusal) → disk.new ≡ disk.old →
    Makes (store_over tells old between) (OfSource tells old.files source) (Ok p) →
    DoesOnStore (store_over tells between new) (RunsUntil p workers stop.after stop.save) answer →
    Does (store_over tells old new) disk (OfCommand tells old.files (Stopping source workers stop)) answer
stopping_does {tells} {old} {between} {new} disk source workers stop p answer same m n =
    then_does_on_store tells old between new disk (OfSource tells old.files source)
    (λ x. RunsUntil x workers stop.after stop.save) p answer same m n

-- a live plant is run with slots
pub slots_do : {tells : Bool} {old new : StoreView} (disk : DiskOver) (source : PlantSource) (q : DiskQuestion) (p : Plant)
    (answer : Result Answer Refusal) → Makes (store_over tells old new) (OfSource tells old.files source) (Ok p) →
    DoesOnDisk disk (DoesOnSlots q p) answer →
    Does (store_over tells old new) disk (OfCommand tells old.files (OnDisk source q)) answer
slots_do {tells} {old} {new} disk source q p answer m n =
    then_does_on_disk tells old new disk (OfSource tells old.files source) (DoesOnSlots q) p answer m n
