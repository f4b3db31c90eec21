-- What a function that reads words answers, by the command or the question that the words are.
use Rattle.std.proofs.Common.{◌≡◌, ℕ, List, [], ◌∷◌, true, refl}
use Rattle.std.specs.Prelude.{Option, Some, None, Result, Ok, Err, IsErrAnd, option_map}
use Rattle.std.proofs.lemmas.Result.{err_from_is_err_and}
use Rattle.line_base.specs.Text.{is_file_name}
use Rattle.command_line.specs.ReadAs.{IsReadIn}
use Rattle.command_line.specs.Settings.{Way, asked_run, way_seen, settings_seen}
use Rattle.command_line.specs.Words.{asking_of_file, one_file, with_options}
use Rattle.command_line.specs.declared.command.WordsError.{WordsError}
use Rattle.command_line.specs.declared.command.WordsError.TheVariants.{Usage, NoMemory}
use Rattle.command_line.specs.declared.file_question.FileQuestion.{FileQuestion}
use Rattle.command_line.specs.declared.settings.Mode.{Mode}
use Rattle.command_line.specs.declared.settings.Settings.{Settings}

-- what it asks, where it asks something
pub reads : {A : Type 0} {Within : A → Type 0} (a : A) (asked : Option A) → asked ≡ Some a → Within a → IsReadIn Within (Ok a) asked
reads a asked is range = record { asked_is = is; usage = (λ e. cc, λ none. cc); range = range }

-- no memory for it
lacks : {A : Type 0} {Within : A → Type 0} (error : WordsError) (a : A) (asked : Option A) → error ≡ NoMemory → asked ≡ Some a → IsReadIn Within (Err error) asked
lacks error a asked out is = rw out (record { asked_is = tt; usage = (λ e. cc, λ none. cc); range = tt })

-- what the exit of a `?` returns, where the words ask something
pub lacks_for : {A : Type 0} {Within : A → Type 0} (result : Result A WordsError) (a : A) (asked : Option A) → IsErrAnd result (λ error. error ≡ NoMemory) → asked ≡ Some a → IsReadIn Within result asked
lacks_for {A} {Within} result a asked known is =
    let p = err_from_is_err_and result known in rw p.1 (lacks {A = A} {Within = Within} p.0 a asked p.2 is)

-- nothing is asked
pub reads_none : {A : Type 0} {Within : A → Type 0} (asked : Option A) → asked ≡ None → IsReadIn Within (Err Usage) asked
reads_none asked is = record { asked_is = tt; usage = (λ e. is, λ none. refl); range = tt }

-- what is asked for with options
pub asked_for : {A : Type 0} (asks : ℕ → Way → Option A) (words : List (List ℕ)) (s : Settings) (mode : Mode) → Some (settings_seen s) ≡ asked_run words → s.mode ≡ mode → with_options asks words ≡ asks s.workers (way_seen mode)
asked_for asks words s mode e is = rw (← e, is) refl

-- where it is nothing, there is none
pub none_asked : {A : Type 0} (asks : ℕ → Way → Option A) (words : List (List ℕ)) → None ≡ asked_run words → with_options asks words ≡ None
none_asked asks words e = rw (← e) refl

-- a question that names a further file, as the command that it makes
pub file_asked : (question : FileQuestion) (plant file : List ℕ) (words : List (List ℕ)) → words ≡ file ∷ [] → is_file_name file ≡ true → option_map (asking_of_file question plant) (one_file words) ≡ Some (asking_of_file question plant file)
file_asked question plant file words alone is = rw (alone, is) refl
