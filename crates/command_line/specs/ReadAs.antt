-- What a function that reads words answers, for the private functions.
use Rattle.std.specs.Prelude.{◌≡◌, ◌↔◌, Option, Some, None, Result, IfOk, IsErrOf}
use Rattle.command_line.specs.Ranges.{IsInRange, IsPlantInRange}
use Rattle.command_line.specs.declared.command.Command.{Command}
use Rattle.command_line.specs.declared.command.WordsError.{WordsError}
use Rattle.command_line.specs.declared.command.WordsError.TheVariants.{Usage}
use Rattle.command_line.specs.declared.plant_question.PlantQuestion.{PlantQuestion}

-- an answer is this command or question, with its numbers in their ranges, or memory ran out; and `Usage` exactly where
-- there is none
pub record IsReadIn {A : Type 0} (Within : A → Type 0) (result : Result A WordsError) (asked : Option A) : Type 0 where
  pub asked_is : IfOk result (λ a. asked ≡ Some a)
  pub usage : IsErrOf result Usage ↔ (asked ≡ None)
  pub range : IfOk result Within

abbrev pub IsReadAs : Result Command WordsError → Option Command → Type 0
IsReadAs = IsReadIn IsInRange

abbrev pub IsQuestionReadAs : Result PlantQuestion WordsError → Option PlantQuestion → Type 0
IsQuestionReadAs = IsReadIn IsPlantInRange
