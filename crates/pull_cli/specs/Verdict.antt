-- The verdict: what a command reads, in which order, and what it answers over the bytes that its reads gave; which file
-- it writes, and what it does with a disk. The files are looked at in the order in which they stand here, and the first
-- refusal ends the command.
use Rattle.std.specs.Prelude.{◌≡◌, ◌⊎◌, Bool, List, ℕ, Option, Some, None, Result, Err}
use Rattle.answers.specs.declared.answer.Answer.{Answer}
use Rattle.command_line.specs.declared.command.Command.{Command}
use Rattle.command_line.specs.declared.command.Command.TheVariants.{Alone, Lint, OnPlant, OnFile, Standing, Stopping, OnDisk}
use Rattle.commands.specs.Answers.{AnswersAlone, AnswersOfPlant, AnswersOfFile}
use Rattle.commands.specs.Reports.{IsReport, Writes}
use Rattle.commands.specs.Saving.{DoesOnSlots, RunsUntil}
use Rattle.outside_io.specs.Calls.{none_asked}
use Rattle.outside_io.specs.Contents.{Contents}
use Rattle.live_plant.specs.Actions.{Action, DiskOver, Does, Plainly, ThenDoes}
use Rattle.live_plant.specs.LintSteps.{LintsPlant}
use Rattle.live_plant.specs.Outside.{StoreOver}
use Rattle.live_plant.specs.Sources.{OfSource}
use Rattle.live_plant.specs.Steps.{Step, LooksAt, Settles, Then}
use Rattle.live_plant.specs.declared.refusals.refusal.Refusal.{Refusal}
use Rattle.live_plant.specs.declared.refusals.refusal.Refusal.TheVariants.{NoMemory, Usage}

-- a file is read, and then answered about
abbrev pub AsksWith : List ℕ → (List ℕ → Result Answer Refusal → Type 0) → Step Answer
AsksWith file answers = Then (LooksAt file) (λ bytes. Settles (answers bytes))

-- what a command does; a run by standing workers answers the report, as a run by bursts does
abbrev pub OfCommand : Bool → Contents → Command → Action Answer
OfCommand tells files (Alone question) = Plainly (Settles (AnswersAlone question))
OfCommand tells files (Lint file) = Plainly (Then (LintsPlant file) (λ text. Settles (Writes text)))
OfCommand tells files (OnPlant plant question) =
    Plainly (Then (OfSource tells files plant) (λ p. Settles (AnswersOfPlant question p)))
OfCommand tells files (OnFile plant file question) =
    Plainly (Then (OfSource tells files plant) (λ p. AsksWith file (AnswersOfFile question p)))
OfCommand tells files (Standing plant workers) =
    Plainly (Then (OfSource tells files plant) (λ p. Settles (IsReport p)))
OfCommand tells files (Stopping plant workers stop) =
    ThenDoes (OfSource tells files plant) (λ p. RunsUntil p workers stop.after stop.save)
OfCommand tells files (OnDisk plant question) = ThenDoes (OfSource tells files plant) (DoesOnSlots question)

-- Words that are no command ask for nothing, and the answer is the usage. A command does and answers what stands above,
-- or there is no memory before anything was asked.
abbrev pub OfWords : Bool → Contents → Option Command → Action Answer
OfWords tells files None asked disk answer = (asked ≡ none_asked) × (disk.new ≡ disk.old) × (answer ≡ Err Usage)
OfWords tells files (Some command) asked disk answer =
    OfCommand tells files command asked disk answer
    ⊎ ((asked ≡ none_asked) × (disk.new ≡ disk.old) × (answer ≡ Err NoMemory))

-- the refusal of words that are read as no command: the usage where they are none, and else no memory
abbrev pub IsWordsRefusal : Option Command → Refusal → Type 0
IsWordsRefusal None refusal = refusal ≡ Usage
IsWordsRefusal (Some command) refusal = refusal ≡ NoMemory

-- a call over a store and a disk does what a command asks for
abbrev pub CommandDoes : StoreOver → DiskOver → Command → Result Answer Refusal → Type 0
CommandDoes store disk command answer = Does store disk (OfCommand store.tells store.old.files command) answer
