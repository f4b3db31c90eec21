-- What one read adds to the records that a reader has given.
use Rattle.std.proofs.Common.{◌≡◌, ◌∙◌, ℕ, List, [], ◌∷◌, ◌++◌, Bool, true, false, Bor, Some, inl, inr, ◌≤◌, ◌+◌, Err, length, refl, append_assoc, length-append, arith}
use Rattle.std.proofs.lemmas.Bool.{cases_Bool}
use Rattle.csv.specs.Reading.{ReadRecord, Ready, default_config, is_bom, is_flexible, reader_trim, strip_bom, took_first}
use Rattle.csv.specs.declared.reader.Trim.TheVariants as trim
use Rattle.csv.specs.declared.parser.State.TheVariants as st
use Rattle.csv.proofs.ReadFacts.{rows-end, rows-more}
use Rattle.demand_feed.specs.Records.{Record, records_of}
use Rattle.demand_feed.specs.Reader.{ByteReader, GivesNext, HasGiven}
use Rattle.demand_feed.proofs.Reached.{Between-reached, records-all, records-reached}
use Rattle.demand_feed.proofs.Taken.{Taken, Taken-all, Taken-bad, Taken-header, Taken-job, Taken-none}
use Rattle.demand_feed.specs.Rows.{HoldsRows, is_header, lacks_number, numbers_of, rows_of}

-- the read of a record
abbrev Reads : ByteReader → ByteReader → Record → Bool → Type 0
Reads old new fields found = ReadRecord (λ (bytes : Bor (List ℕ)). Some bytes.now) old new found fields

pub GivesNext-read : (old new : ByteReader) (fields : Record) (found : Bool) → (reader_trim old ≡ trim.None → Ready old → Reads old new fields found)
    → (reader_trim old ≡ trim.None → took_first new ≡ true) → is_flexible new ≡ is_flexible old → GivesNext old new fields found
GivesNext-read old new fields true reads begun flexible file rows given =
    let read = reads given.plain.trim given.plain.ready in
    let more = rows-more (λ (bytes : Bor (List ℕ)). Some bytes.now) old new fields default_config st.StartRecord (strip_bom file) given.rest rows given.plain.config given.source given.reached read in
    record {
      plain = record {
        config = read.2 ∙ given.plain.config;
        trim = read.3 ∙ given.plain.trim;
        flexible = flexible ∙ given.plain.flexible;
        ready = inl (begun given.plain.trim);
      };
      rest = more.0;
      source = more.1;
      reached = more.2;
    }
GivesNext-read old new fields false reads begun flexible file rows given =
    let read = reads given.plain.trim given.plain.ready in
    records-all _ _ given.rest rows given.reached
    (rows-end (λ (bytes : Bor (List ℕ)). Some bytes.now) old new fields default_config given.rest given.plain.config given.source read)

-- a byte order mark left out makes a file no longer
pub length-strip_bom : (file : List ℕ) → length (strip_bom file) ≤ length file
unfolding strip_bom
length-strip_bom [] = omega arith
length-strip_bom (a ∷ []) = omega arith
length-strip_bom (a ∷ b ∷ []) = omega arith
length-strip_bom (a ∷ b ∷ c ∷ rest) = elim (cases_Bool (is_bom a b c)) [
  | inl marked ↦ rw marked (omega arith)
  | inr plain ↦ rw plain (omega arith)
]

-- a file has no more records than bytes
pub HasGiven-room : (file : List ℕ) (rows : List Record) (reader : ByteReader) → HasGiven file rows reader → length rows ≤ length file
HasGiven-room file rows reader given =
    let room = (Between-reached st.StartRecord _ (strip_bom file) given.rest rows refl given.reached).room in
    omega (arith, length-strip_bom file)

-- the records of a file begin with those that a reader gave
pub HasGiven-begins : (file : List ℕ) (rows : List Record) (reader : ByteReader) → HasGiven file rows reader → (rest : List Record) × (records_of file ≡ rows ++ rest)
HasGiven-begins file rows reader given = (_, records-reached _ _ given.rest rows given.reached)

-- how far a pass over a file has come: what was given so far, how many records, and the numbers of the jobs among them
pub record HasRead (file used : List ℕ) (most : ℕ) (reader : ByteReader) (number : ℕ) (numbers : List ℕ) (count : ℕ) : Type 0 where
  pub rows : List Record
  pub given : HasGiven file rows reader
  pub number_is : number ≡ length rows
  pub taken : Taken used most rows numbers count

-- at the start of a file
pub HasRead-open : (file used : List ℕ) (most : ℕ) (reader : ByteReader) (numbers : List ℕ) → HasGiven file [] reader → numbers ≡ []
    → HasRead file used most reader 0 numbers 0
HasRead-open file used most reader numbers given none = record { rows = []; given = given; number_is = refl; taken = rw none (Taken-none used most) }

-- one more record is one more of the file's
pub HasRead-room : (file used : List ℕ) (most : ℕ) (old new : ByteReader) (row : Record) (number : ℕ) (numbers : List ℕ) (count : ℕ)
    → HasRead file used most old number numbers count → GivesNext old new row true → (number + 1 ≤ length file) × (count ≤ number)
HasRead-room file used most old new row number numbers count read next =
    let room = HasGiven-room file _ new (next file read.rows read.given) in
    (omega (arith, room, read.number_is, length-append read.rows (row ∷ [])), omega (arith, read.number_is, read.taken.few))

-- a header
pub HasRead-header : (file used : List ℕ) (most : ℕ) (old new : ByteReader) (row : Record) (number : ℕ) (numbers : List ℕ) (count : ℕ)
    → HasRead file used most old number numbers count → GivesNext old new row true → is_header used (number + 1, row) ≡ true
    → HasRead file used most new (number + 1) numbers count
HasRead-header file used most old new row number numbers count read next h =
    let number_is : number + 1 ≡ 1 + length read.rows = omega (arith, read.number_is) in
    record {
      rows = read.rows ++ row ∷ [];
      given = next file read.rows read.given;
      number_is = omega (arith, read.number_is, length-append read.rows (row ∷ []));
      taken = Taken-header used most read.rows numbers count row (rw number_is at h) read.taken;
    }

-- a job
pub HasRead-job : (file used : List ℕ) (most : ℕ) (old new : ByteReader) (row : Record) (number : ℕ) (numbers more : List ℕ) (count : ℕ)
    → HasRead file used most old number numbers count → GivesNext old new row true → is_header used (number + 1, row) ≡ false
    → lacks_number used most row ≡ false → more ≡ numbers ++ numbers_of used most row
    → HasRead file used most new (number + 1) more (count + 1)
HasRead-job file used most old new row number numbers more count read next h good added =
    let number_is : number + 1 ≡ 1 + length read.rows = omega (arith, read.number_is) in
    record {
      rows = read.rows ++ row ∷ [];
      given = next file read.rows read.given;
      number_is = omega (arith, read.number_is, length-append read.rows (row ∷ []));
      taken = rw added (Taken-job used most read.rows numbers count row (rw number_is at h) good read.taken);
    }

-- a bad record is the first of the file
pub rows_of-bad : (file used : List ℕ) (most : ℕ) (old new : ByteReader) (row : Record) (number : ℕ) (numbers : List ℕ) (count : ℕ)
    → HasRead file used most old number numbers count → GivesNext old new row true → is_header used (number + 1, row) ≡ false
    → lacks_number used most row ≡ true → rows_of used most (records_of file) ≡ Err (number + 1)
rows_of-bad file used most old new row number numbers count read next h bad =
    let number_is : number + 1 ≡ 1 + length read.rows = omega (arith, read.number_is) in
    let begins = HasGiven-begins file _ new (next file read.rows read.given) in
    rw (begins.1, append_assoc read.rows (row ∷ []) begins.0, number_is)
    (Taken-bad used most read.rows numbers count row begins.0 (rw number_is at h) bad read.taken)

-- at the end of the file
pub rows_of-all : (file used : List ℕ) (most : ℕ) (old new : ByteReader) (row : Record) (number : ℕ) (numbers : List ℕ) (count : ℕ)
    → HasRead file used most old number numbers count → GivesNext old new row false
    → HoldsRows (rows_of used most (records_of file)) numbers count
rows_of-all file used most old new row number numbers count read next =
    rw (next file read.rows read.given) (Taken-all used most read.rows numbers count read.taken)
