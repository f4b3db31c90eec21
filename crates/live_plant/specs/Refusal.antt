-- Why a command isn't done: each refusal with the status that the program ends with, and with the line that it writes.
use Rattle.std.specs.Prelude.{ℕ, List, ◌++◌, codes, decimal, ⊤}
use Rattle.plant_model.specs.Reasons.{plant_reason}
use Rattle.command_line.specs.Lines.{as_line}
use Rattle.live_plant.specs.DeadLine.{dead_line}
use Rattle.live_plant.specs.declared.refusals.refusal.Refusal.{Refusal}
use Rattle.live_plant.specs.declared.refusals.refusal.Refusal.TheVariants.{Usage, Refused, Faults, Dead, StoreFault, NotReached, Varying, NoMemory, TooLong, NotFollowed, Disk, NoCount, NothingSaved, NotEdited, NoSingleCount, NoDate, Late, TooLarge}

-- the status that the program ends with
abbrev pub status_of : Refusal → ℕ
status_of Usage = 2
status_of (Refused error) = 3
status_of (Faults lines) = 3
status_of (Dead labels) = 4
status_of (StoreFault file) = 5
status_of (NotReached line) = 7
status_of (Varying label) = 8
status_of NoMemory = 9
status_of (TooLong file) = 10
status_of (NotFollowed line) = 11
status_of Disk = 12
status_of (NoCount job wait) = 13
status_of NothingSaved = 14
status_of (NotEdited line) = 16
status_of NoSingleCount = 17
status_of (NoDate label job) = 18
status_of (Late job wait) = 19
status_of (TooLarge bars) = 20

-- the line that it writes, or the lines
abbrev pub text_of : Refusal → List ℕ
text_of Usage = as_line (codes "pull: the words are no command")
text_of (Refused error) = as_line (codes "plant: " ++ plant_reason error)
text_of (Faults lines) = lines
text_of (Dead labels) = as_line (dead_line labels)
text_of (StoreFault file) = as_line (codes "store: " ++ file)
text_of (NotReached line) = as_line line
text_of (Varying label) = as_line (codes "varying: " ++ label)
text_of NoMemory = as_line (codes "memory")
text_of (TooLong file) = as_line (codes "too long: " ++ file)
text_of (NotFollowed line) = as_line line
text_of Disk = as_line (codes "disk")
text_of (NoCount job wait) = as_line (codes "no count: job " ++ (decimal job ++ (codes " waits " ++ decimal wait)))
text_of NothingSaved = as_line (codes "nothing saved")
text_of (NotEdited line) = as_line (codes "edits: line " ++ decimal line)
text_of NoSingleCount = as_line (codes "no single count")
text_of (Late job wait) = as_line (codes "late: job " ++ (decimal job ++ (codes " waits " ++ decimal wait)))
text_of (TooLarge bars) =
    as_line (codes "too large a picture: " ++ (decimal bars ++ codes " bars and lanes, at most 20000"))
text_of (NoDate label job) = as_line (codes "no date: " ++ (label ++ (codes " " ++ decimal job)))

-- its line is known beforehand, so that writing it takes no memory
abbrev pub IsFixed : Refusal → Type 0
IsFixed Usage = ⊤
IsFixed (Faults lines) = ⊤
IsFixed NoMemory = ⊤
IsFixed Disk = ⊤
IsFixed NothingSaved = ⊤
IsFixed NoSingleCount = ⊤
IsFixed other = ⊥
