-- The statuses that the program ends with, a line each, as the usage and the screens of commands show them.
use Rattle.std.specs.Prelude.{ℕ, List, [], ◌∷◌, codes}

abbrev pub done : List ℕ
done = codes "status 0   done"

abbrev pub not_utf8 : List ℕ
not_utf8 = codes "status 1   the words are no UTF-8"

abbrev pub no_command : List ℕ
no_command = codes "status 2   the words are no command"

abbrev pub refused : List ℕ
refused = codes "status 3   the plant is refused"

abbrev pub dead : List ℕ
dead = codes "status 4   the plant has a circuit without a token"

abbrev pub store_failed : List ℕ
store_failed = codes "status 5   a file can't be read or written"

abbrev pub sink_failed : List ℕ
sink_failed = codes "status 6   the output can't be written"

abbrev pub no_checkpoint : List ℕ
no_checkpoint = codes "status 7   the checkpoint is of no run of the plant"

abbrev pub varying : List ℕ
varying = codes "status 8   a machine has a list of times, and so the plant no cycle time"

abbrev pub no_memory : List ℕ
no_memory = codes "status 9   out of memory"

abbrev pub too_long : List ℕ
too_long = codes "status 10  a file is longer than 64 MiB, or a checkpoint longer than 160 MiB"

abbrev pub not_replayed : List ℕ
not_replayed = codes "status 11  the schedule can't be followed"

abbrev pub disk_failed : List ℕ
disk_failed = codes "status 12  the slots can't be read or written"

abbrev pub no_count : List ℕ
no_count = codes "status 13  no count of cards keeps the wait"

abbrev pub nothing_saved : List ℕ
nothing_saved = codes "status 14  nothing is saved in the slots"

abbrev pub not_edited : List ℕ
not_edited = codes "status 16  the edits can't be followed"

abbrev pub no_single_count : List ℕ
no_single_count = codes "status 17  the plant has no single count of cards"

abbrev pub no_date : List ℕ
no_date = codes "status 18  no station has the label, or there are fewer jobs"

abbrev pub late : List ℕ
late = codes "status 19  a job waits longer than it may"

abbrev pub too_large : List ℕ
too_large = codes "status 20  the picture has more than 20,000 bars and lanes"

-- of every command that asks a plant, beside those of its own
abbrev pub of_plants : List (List ℕ)
of_plants = not_utf8 ∷ no_command ∷ refused ∷ dead ∷ store_failed ∷ sink_failed ∷ no_memory ∷ too_long ∷ []

-- of a command that reads no file
abbrev pub of_no_file : List (List ℕ)
of_no_file = not_utf8 ∷ no_command ∷ sink_failed ∷ no_memory ∷ []
