-- What each command answers, by what its steps made.
use Rattle.std.proofs.Common.{◌≡◌, Bool, [], refl, ap, sym, subst, inl, inr}
use Rattle.std.specs.Prelude.{Option, Some, None, Result, Err, IsErrAnd}
use Rattle.std.proofs.lemmas.Result.{err_from_is_err_and}
use Rattle.command_line.specs.declared.command.Command.{Command}
use Rattle.command_line.specs.declared.command.WordsError.{WordsError}
use Rattle.command_line.specs.declared.command.WordsError.TheVariants as words_error
use Rattle.outside_io.specs.Calls.{none_asked}
use Rattle.crash_disk.specs.DiskView.{DiskView}
use Rattle.outside_io.specs.StoreView.{StoreView}
use Rattle.live_plant.specs.declared.refusals.refusal.Refusal.{Refusal}
use Rattle.live_plant.specs.declared.refusals.refusal.Refusal.TheVariants.{NoMemory}
use Rattle.live_plant.specs.Actions.{DiskOver, disk_over, HasCause, Does}
use Rattle.live_plant.specs.Outside.{store_over}
use Rattle.answers.specs.declared.answer.Answer.{Answer}
use Rattle.commands.proofs.Actions.{does_also, does_nothing, stays_low}
use Rattle.pull_cli.specs.Verdict.{OfCommand, OfWords, CommandDoes, IsWordsRefusal}

-- what a command does, the words do
pub command_does : {tells : Bool} {old new : StoreView} {disk : DiskOver} {words : Option Command} {command : Command}
    {answer : Result Answer Refusal} → words ≡ Some command →
    CommandDoes (store_over tells old new) disk command answer →
    Does (store_over tells old new) disk (OfWords tells old.files words) answer
command_does {tells} {old} {new} {disk} {words} {command} {answer} is m =
    let did : Does (store_over tells old new) disk (OfWords tells old.files (Some command)) answer =
    does_also (store_over tells old new) disk (OfCommand tells old.files command)
    (OfWords tells old.files (Some command)) answer (λ asked answers. inl answers) m in
    subst (λ (w : Option Command). Does (store_over tells old new) disk (OfWords tells old.files w) answer) (sym is) did

-- words that ask for nothing: no command, and a command for which there is no memory
asks_nothing : (tells : Bool) (view : StoreView) (disk : DiskOver) (words : Option Command) (refusal : Refusal) →
    disk.new ≡ disk.old → OfWords tells view.files words none_asked disk (Err refusal) →
    HasCause (store_over tells view view) disk [] refusal →
    Does (store_over tells view view) disk (OfWords tells view.files words) (Err refusal)
asks_nothing tells view disk words refusal same is caused =
    does_nothing tells view disk (OfWords tells view.files words) (Err refusal) (stays_low disk same) caused is

no_command : {tells disk_tells : Bool} {view : StoreView} {disk : DiskView} (words : Option Command)
    {refusal : Refusal} →
    IsWordsRefusal words refusal →
    Does {A = Answer} (store_over tells view view) (disk_over disk_tells disk disk) (OfWords tells view.files words)
    (Err refusal)
no_command {tells} {disk_tells} {view} {disk} None {refusal} is =
    let over = disk_over disk_tells disk disk in
    asks_nothing tells view over None refusal refl (refl, refl, ap (λ (r : Refusal). Err r) is)
    (subst (HasCause (store_over tells view view) over []) (sym is) tt)
no_command {tells} {disk_tells} {view} {disk} (Some command) {refusal} is =
    let over = disk_over disk_tells disk disk in
    asks_nothing tells view over (Some command) refusal refl (inr (refl, refl, ap (λ (r : Refusal). Err r) is))
    (subst (HasCause (store_over tells view view) over []) (sym is) tt)

-- their refusal, which `?` hands on, is the answer
pub no_command_does : {tells disk_tells : Bool} {view : StoreView} {disk : DiskView} (words : Option Command)
    (refusal : Refusal) (answer : Result Answer Refusal) → IsErrAnd answer (λ e. e ≡ refusal) →
    IsWordsRefusal words refusal →
    Does (store_over tells view view) (disk_over disk_tells disk disk) (OfWords tells view.files words) answer
no_command_does words refusal answer was is =
    let p = err_from_is_err_and answer was in
    rw (p.1, p.2) (no_command words is)

-- which of the two it is
pub memory_answers : (words : Option Command) → (words ≡ None → ⊥) → IsWordsRefusal words NoMemory
memory_answers None some = absurd (some refl)
memory_answers (Some command) some = refl

pub memory_is_no_usage : (e : WordsError) (r : Result Command WordsError) → e ≡ words_error.NoMemory → r ≡ Err e →
    r ≡ Err words_error.Usage → ⊥
memory_is_no_usage e r memory is usage = cc
