-- The ranges of the numbers that a command takes.
use Rattle.std.specs.Prelude.{ℕ, ◌+◌, ◌<◌, ◌≤◌, ⊤, IfSome}
use Rattle.line_base.specs.Limits.{most_workers, most_demands, most_cards, most_ring_room, last_observed}
use Rattle.command_line.specs.Numbers.{most_firings, longest_wait, most_counts}
use Rattle.command_line.specs.declared.command.Command.{Command}
use Rattle.command_line.specs.declared.command.Command.TheVariants.{Alone, Lint, OnPlant, OnFile, Standing, Stopping, OnDisk}
use Rattle.command_line.specs.declared.alone_question.AloneQuestion.{AloneQuestion}
use Rattle.command_line.specs.declared.alone_question.AloneQuestion.TheVariants as alone
use Rattle.command_line.specs.declared.disk_question.DiskQuestion.{DiskQuestion}
use Rattle.command_line.specs.declared.disk_question.DiskQuestion.TheVariants as disk
use Rattle.command_line.specs.declared.file_question.FileQuestion.{FileQuestion}
use Rattle.command_line.specs.declared.file_question.FileQuestion.TheVariants as file
use Rattle.command_line.specs.declared.plant_question.PlantQuestion.{PlantQuestion}
use Rattle.command_line.specs.declared.plant_question.PlantQuestion.TheVariants as of_plant
use Rattle.command_line.specs.declared.options.Options.{Options}
use Rattle.command_line.specs.declared.settings.Mode.{Mode}
use Rattle.command_line.specs.declared.settings.Mode.TheVariants.{Stopped, Saving, Bounded}
use Rattle.command_line.specs.declared.settings.Settings.{Settings}

-- a number of workers
abbrev pub AreWorkers : ℕ → Type 0
AreWorkers n = (1 ≤ n) × (n ≤ most_workers)

-- the firings between two checkpoints
abbrev pub IsInterval : ℕ → Type 0
IsInterval n = (1 ≤ n) × (n ≤ most_firings)

-- the room of a ring between two workers
abbrev pub IsRingRoom : ℕ → Type 0
IsRingRoom n = (1 ≤ n) × (n ≤ most_ring_room)

-- the number of a job, from 1 to the most that a plant may have
abbrev pub IsJobNumber : ℕ → Type 0
IsJobNumber n = (1 ≤ n) × (n ≤ most_demands)

-- a window from one date to a later one, no later than a date that may be observed
abbrev pub IsWindowGiven : ℕ × ℕ → Type 0
IsWindowGiven (from, to) = (from < to) × (to ≤ last_observed)

-- the counts of cards of a curve: its least, and its greatest
pub record AreCounts (from to : ℕ) : Type 0 where
  pub order : from ≤ to
  pub cards : to ≤ most_cards
  pub few : to < from + most_counts

-- each number that is given is in its range
pub record AreInRange (options : Options) : Type 0 where
  pub workers : IfSome options.workers AreWorkers
  pub stop_after : IfSome options.stop_after (λ n. n ≤ most_firings)
  pub every : IfSome options.every IsInterval
  pub room : IfSome options.room IsRingRoom

abbrev pub IsModeInRange : Mode → Type 0
IsModeInRange (Stopped after save) = after ≤ most_firings
IsModeInRange (Saving every) = IsInterval every
IsModeInRange (Bounded room) = IsRingRoom room
IsModeInRange other = ⊤

pub record AreSettingsInRange (settings : Settings) : Type 0 where
  pub workers : AreWorkers settings.workers
  pub mode : IsModeInRange settings.mode

-- each number of a question is in its range
abbrev pub IsAloneInRange : AloneQuestion → Type 0
IsAloneInRange (alone.Big seed workers) = AreWorkers workers
IsAloneInRange other = ⊤

abbrev pub IsPlantInRange : PlantQuestion → Type 0
IsPlantInRange (of_plant.Run workers) = AreWorkers workers
IsPlantInRange (of_plant.RunRoom room workers) = AreWorkers workers × IsRingRoom room
IsPlantInRange (of_plant.Cards wait) = wait ≤ longest_wait
IsPlantInRange (of_plant.CardsEach wait) = wait ≤ longest_wait
IsPlantInRange (of_plant.Curve from to workers) = AreCounts from to × AreWorkers workers
IsPlantInRange (of_plant.Latest wait) = wait ≤ longest_wait
IsPlantInRange (of_plant.Why label job) = IsJobNumber job
IsPlantInRange (of_plant.Chart window) = IfSome window IsWindowGiven
IsPlantInRange other = ⊤

abbrev pub IsFileInRange : FileQuestion → Type 0
IsFileInRange (file.Resume workers) = AreWorkers workers
IsFileInRange other = ⊤

abbrev pub IsDiskInRange : DiskQuestion → Type 0
IsDiskInRange (disk.RunSlots every workers) = AreWorkers workers × IsInterval every
IsDiskInRange (disk.ResumeSlots workers) = AreWorkers workers

-- each number of a command is in its range
abbrev pub IsInRange : Command → Type 0
IsInRange (Alone question) = IsAloneInRange question
IsInRange (Lint file) = ⊤
IsInRange (OnPlant plant question) = IsPlantInRange question
IsInRange (OnFile plant file question) = IsFileInRange question
IsInRange (Standing plant workers) = AreWorkers workers
IsInRange (Stopping plant workers stop) = AreWorkers workers × (stop.after ≤ most_firings)
IsInRange (OnDisk plant question) = IsDiskInRange question
