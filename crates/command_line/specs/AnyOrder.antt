-- The laws on options: they stand in any order, each at most once, and nothing else stands behind the operands of a
-- command that takes them.
use Rattle.std.specs.Prelude.{◌≡◌, ℕ, true, List, [], ◌∷◌, ◌++◌, flat_map, codes, Option, None, IsPermutation, ⊤}
use Rattle.line_base.specs.Text.{is_checkpoint_name}
use Rattle.command_line.specs.Words.{command_of}
use Rattle.command_line.specs.declared.command.Command.{Command}

-- an option as it is written, with the word of its value where it takes one
pub data Written : Type 0 where
  workers : List ℕ → Written
  stop_after : List ℕ → Written
  save : List ℕ → Written
  every : List ℕ → Written
  room : List ℕ → Written
  slots : Written
  stand : Written

-- its name
abbrev pub name_of : Written → List ℕ
name_of (workers value) = codes "--workers"
name_of (stop_after value) = codes "--stop-after"
name_of (save value) = codes "--save"
name_of (every value) = codes "--every"
name_of (room value) = codes "--room"
name_of slots = codes "--slots"
name_of stand = codes "--stand"

-- the word behind its name
abbrev pub value_of : Written → List (List ℕ)
value_of (workers value) = value ∷ []
value_of (stop_after value) = value ∷ []
value_of (save value) = value ∷ []
value_of (every value) = value ∷ []
value_of (room value) = value ∷ []
value_of slots = []
value_of stand = []

abbrev pub words_of : Written → List (List ℕ)
words_of option = name_of option ∷ value_of option

-- the words of options, one after the other
abbrev pub words_of_all : List Written → List (List ℕ)
words_of_all options = flat_map words_of options

-- a command that takes options, with its operands
pub data Operands : Type 0 where
  run : List ℕ → Operands
  resume : List ℕ → List ℕ → Operands
  resume_slots : List ℕ → Operands
  big : List ℕ → Operands
  curve : List ℕ → List ℕ → List ℕ → Operands

-- its words
abbrev pub words_before : Operands → List (List ℕ)
words_before (run plant) = codes "run" ∷ plant ∷ []
words_before (resume plant saved) = codes "resume" ∷ plant ∷ saved ∷ []
words_before (resume_slots plant) = codes "resume" ∷ plant ∷ []
words_before (big seed) = codes "big" ∷ seed ∷ []
words_before (curve plant from to) = codes "curve" ∷ plant ∷ from ∷ to ∷ []

-- what is resumed from is a checkpoint, and no option
abbrev pub NamesCheckpoint : Operands → Type 0
NamesCheckpoint (resume plant saved) = is_checkpoint_name saved ≡ true
NamesCheckpoint operands = ⊤

-- the command of operands with these options behind them
abbrev pub command_with : Operands → List Written → Option Command
command_with operands options = command_of (words_before operands ++ words_of_all options)

-- the same options in another order are the same command
abbrev pub StandInAnyOrder : Type 0
StandInAnyOrder =
    (operands : Operands) (one other : List Written) →
    NamesCheckpoint operands → IsPermutation one other → command_with operands one ≡ command_with operands other

-- an option that is given twice makes no command
abbrev pub StandAtMostOnce : Type 0
StandAtMostOnce =
    (operands : Operands) (before between after : List Written) (one other : Written) →
    NamesCheckpoint operands → name_of one ≡ name_of other →
    command_with operands (before ++ one ∷ (between ++ other ∷ after)) ≡ None
