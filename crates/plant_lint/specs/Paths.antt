-- In which table of a plant file a path stands: the one with whose own path it begins. Tables are looked for as far as
-- the limits of a plant go; a path that begins with none of these stands at the top.
use Rattle.std.specs.Prelude.{ℕ, Bool, nat_eq, List, Option, None, Some}
use Rattle.std.specs.List.{find, range_with_len, starts_with}
use Rattle.line_base.specs.Limits.{most_loops, most_stages, most_stations}
use Rattle.plant_model.specs.declared.place.FileTable.{FileTable}
use Rattle.plant_model.specs.declared.place.FileTable.TheVariants.{Top, InStage, InMachine, InLoop}
use Rattle.plant_model.specs.Place.{place_of}
use Rattle.plant_lint.specs.declared.paths.Tables.{Tables}
use Rattle.plant_lint.specs.declared.paths.Tables.TheVariants.{Stages, Machines, Loops}

-- table n of a list of tables
abbrev pub table_in : Tables → ℕ → FileTable
table_in Stages n = InStage n
table_in (Machines i) n = InMachine i n
table_in Loops n = InLoop n

-- a path begins with that of a table
abbrev pub begins_with : List ℕ → FileTable → Bool
begins_with path table = starts_with nat_eq path (place_of table)

-- the first of so many tables of a list with which a path begins
unfoldable pub row_of : Tables → ℕ → List ℕ → Option ℕ
row_of tables count path = find (λ n. begins_with path (table_in tables n)) (range_with_len 0 count)

-- a machine of stage i, and where there is none the stage
abbrev pub machine_or_stage : ℕ → Option ℕ → FileTable
machine_or_stage i None = InStage i
machine_or_stage i (Some j) = InMachine i j

-- a loop, and where there is none the top
abbrev pub loop_or_top : Option ℕ → FileTable
loop_or_top None = Top
loop_or_top (Some k) = InLoop k

-- the table of a path that begins with this stage
abbrev pub table_from : List ℕ → Option ℕ → FileTable
table_from path None = loop_or_top (row_of Loops most_loops path)
table_from path (Some i) = machine_or_stage i (row_of (Machines i) most_stations path)

-- the table in which a path stands
abbrev pub table_of : List ℕ → FileTable
table_of path = table_from path (row_of Stages most_stages path)
