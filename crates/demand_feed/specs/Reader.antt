-- For the proofs of this crate: how far a reader of `csv` has come in a file.
use Rattle.std.specs.Prelude.{◌≡◌, ℕ, List, [], ◌∷◌, ◌++◌, Bool, true, Some}
use Rattle.std.specs.Bool.{MatchBool}
use Rattle.std.specs.Borrow.{Bor}
use Rattle.csv.specs.Reading.{Reached, Ready, default_config, is_flexible, reader_config, reader_state, reader_trim, source_of, strip_bom}
use Rattle.csv.specs.declared.reader.Reader.{Reader}
use Rattle.csv.specs.declared.reader.Trim.TheVariants as trim
use Rattle.csv.specs.declared.parser.State.TheVariants as st
use Rattle.demand_feed.specs.Records.{Record, records_of}

-- a reader of bytes in memory
abbrev pub ByteReader : Type 0
ByteReader = Reader (Bor (List ℕ))

-- takes records as they stand: no header of its own, any number of fields, nothing trimmed
pub record IsPlain (reader : ByteReader) : Type 0 where
  pub config : reader_config reader ≡ default_config
  pub trim : reader_trim reader ≡ trim.None
  pub flexible : is_flexible reader ≡ true
  pub ready : Ready reader

-- a plain reader that gave these records of a file, and has the rest of the file before it
pub record HasGiven (file : List ℕ) (rows : List Record) (reader : ByteReader) : Type 0 where
  pub plain : IsPlain reader
  pub rest : List ℕ
  pub source : source_of (λ bytes. Some bytes.now) reader ≡ Some rest
  pub reached : Reached default_config st.StartRecord (strip_bom file) rows (reader_state reader) rest

-- a read after these records gives the file's next one, or answers that these are all
abbrev pub GivesNext : ByteReader → ByteReader → Record → Bool → Type 0
GivesNext old new fields found = (file : List ℕ) (rows : List Record) → HasGiven file rows old
    → MatchBool found (HasGiven file (rows ++ fields ∷ []) new) (records_of file ≡ rows)
