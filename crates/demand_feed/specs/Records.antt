-- The records of a csv file, as the crate `csv` defines them.
use Rattle.std.specs.Prelude.{ℕ, List}
use Rattle.csv.specs.Reading.{default_config, records, strip_bom}

-- a record: its fields, each as its bytes
abbrev pub Record : Type 0
Record = List (List ℕ)

-- the records of a file: a comma between two fields, nothing trimmed, a byte order mark at the beginning left out
abbrev pub records_of : List ℕ → List Record
records_of bytes = records default_config (strip_bom bytes)
