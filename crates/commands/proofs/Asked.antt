-- A question is answered as the question is that it is.
use Rattle.std.proofs.Common.{◌≡◌, List, ℕ}
use Rattle.std.specs.Prelude.{Result}
use Rattle.answers.specs.declared.answer.Answer.{Answer}
use Rattle.command_line.specs.declared.alone_question.AloneQuestion.{AloneQuestion}
use Rattle.command_line.specs.declared.file_question.FileQuestion.{FileQuestion}
use Rattle.command_line.specs.declared.plant_question.PlantQuestion.{PlantQuestion}
use Rattle.commands.specs.Answers.{AnswersAlone, AnswersOfFile, AnswersOfPlant}
use Rattle.commands.proofs.OrNoMemory.{OrNoMemory}
use Rattle.live_plant.specs.declared.refusals.refusal.Refusal.{Refusal}
use Rattle.plant_model.specs.declared.plant.Plant.{Plant}

pub alone_asked : {q asked : AloneQuestion} (answer : Result Answer Refusal) → q ≡ asked →
    OrNoMemory (AnswersAlone asked) answer → OrNoMemory (AnswersAlone q) answer
alone_asked answer is answers = rw is answers

pub plant_asked : {q asked : PlantQuestion} (p : Plant) (answer : Result Answer Refusal) → q ≡ asked →
    OrNoMemory (AnswersOfPlant asked p) answer → OrNoMemory (AnswersOfPlant q p) answer
plant_asked p answer is answers = rw is answers

pub file_asked : {q asked : FileQuestion} (p : Plant) (bytes : List ℕ) (answer : Result Answer Refusal) → q ≡ asked →
    OrNoMemory (AnswersOfFile asked p bytes) answer → OrNoMemory (AnswersOfFile q p bytes) answer
file_asked p bytes answer is answers = rw is answers
