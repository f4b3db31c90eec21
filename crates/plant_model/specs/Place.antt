-- How messages say where something stands in a plant file: the path of a key, counted from 1, as
-- `stage[2].machine[1].time`. The numbers here count from 0.
use Rattle.std.specs.Prelude.{ℕ, ◌+◌, List, [], ◌++◌, codes, decimal}
use Rattle.plant_model.specs.declared.place.FileTable.{FileTable}
use Rattle.plant_model.specs.declared.place.FileTable.TheVariants.{Top, InStage, InMachine, InLoop}

-- element k of a list, by its number in brackets
abbrev pub at : List ℕ → ℕ → List ℕ
at list k = list ++ (codes "[" ++ (decimal (k + 1) ++ codes "]"))

-- the path of a table; the top has none
abbrev pub place_of : FileTable → List ℕ
place_of Top = []
place_of (InStage i) = at (codes "stage") i
place_of (InMachine i j) = at (at (codes "stage") i ++ codes ".machine") j
place_of (InLoop k) = at (codes "loop") k

-- the path of a key of a table
abbrev pub key_of : FileTable → List ℕ → List ℕ
key_of Top name = name
key_of (InStage i) name = place_of (InStage i) ++ (codes "." ++ name)
key_of (InMachine i j) name = place_of (InMachine i j) ++ (codes "." ++ name)
key_of (InLoop k) name = place_of (InLoop k) ++ (codes "." ++ name)
