-- What stands in the first bad record, as one more record is read.
use Rattle.std.proofs.Common.{◌≡◌, ◌∙◌, ◌+◌, ◌≤◌, ◌++◌, ℕ, zero, suc, List, [], ◌∷◌, Some, None, Bool, true, false, length, refl, sym, append_assoc, inl, inr, arith}
use Rattle.std.specs.List.{find, list_any}
use Rattle.std.specs.Option.{is_some}
use Rattle.std.proofs.lemmas.Bool.{cases_Bool}
use Rattle.demand_feed.specs.BadField.{bad_field, field_at, lacking_column}
use Rattle.demand_feed.specs.Reader.{ByteReader, GivesNext, HasGiven}
use Rattle.demand_feed.specs.Records.{Record, records_of}
use Rattle.demand_feed.specs.Rows.{is_header, lacks_number, numbers_of}
use Rattle.demand_feed.proofs.ReadRecords.{HasRead, HasRead-header, HasRead-job, HasRead-open, HasRead-room, HasGiven-begins}
use Rattle.demand_feed.proofs.Taken.{Taken-found}

-- some element passes exactly where one is found
any-found : {X : Type 0} (p : X → Bool) (xs : List X) → list_any p xs ≡ is_some (find p xs)
any-found p [] = refl
any-found p (x ∷ xs) = elim (cases_Bool (p x)) [
  | inl passes ↦ rw passes refl
  | inr fails ↦ rw fails (any-found p xs)
]

-- how far a pass over a file has come in which no record was bad
pub record HasPassed (file used : List ℕ) (most : ℕ) (reader : ByteReader) (number : ℕ) : Type 0 where
  pub numbers : List ℕ
  pub count : ℕ
  pub read : HasRead file used most reader number numbers count

pub HasPassed-open : (file used : List ℕ) (most : ℕ) (reader : ByteReader) → HasGiven file [] reader → HasPassed file used most reader 0
HasPassed-open file used most reader given =
    record { numbers = []; count = 0; read = HasRead-open file used most reader [] given refl }

pub HasPassed-room : (file used : List ℕ) (most : ℕ) (old new : ByteReader) (row : Record) (number : ℕ)
    → HasPassed file used most old number → GivesNext old new row true → number + 1 ≤ length file
HasPassed-room file used most old new row number passed next =
    (HasRead-room file used most old new row number passed.numbers passed.count passed.read next).0

pub HasPassed-header : (file used : List ℕ) (most : ℕ) (old new : ByteReader) (row : Record) (number : ℕ)
    → HasPassed file used most old number → GivesNext old new row true → is_header used (number + 1, row) ≡ true
    → HasPassed file used most new (number + 1)
HasPassed-header file used most old new row number passed next h = record {
  numbers = passed.numbers;
  count = passed.count;
  read = HasRead-header file used most old new row number passed.numbers passed.count passed.read next h;
}

pub HasPassed-job : (file used : List ℕ) (most : ℕ) (old new : ByteReader) (row : Record) (number : ℕ)
    → HasPassed file used most old number → GivesNext old new row true → is_header used (number + 1, row) ≡ false
    → lacking_column used most row ≡ None → HasPassed file used most new (number + 1)
HasPassed-job file used most old new row number passed next h none = record {
  numbers = passed.numbers ++ numbers_of used most row;
  count = passed.count + 1;
  read = HasRead-job file used most old new row number passed.numbers (passed.numbers ++ numbers_of used most row) passed.count passed.read next h
      (any-found _ used ∙ rw none refl) refl;
}

-- a bad record is the first
pub bad_field-found : (file used : List ℕ) (most : ℕ) (old new : ByteReader) (row : Record) (number column : ℕ)
    → HasPassed file used most old number → GivesNext old new row true → is_header used (number + 1, row) ≡ false
    → lacking_column used most row ≡ Some column → bad_field used most (records_of file) ≡ Some (field_at row column)
unfolding bad_field
bad_field-found file used most old new row number column passed next h lacks =
    let read = passed.read in
    let number_is : number + 1 ≡ 1 + length read.rows = omega (arith, read.number_is) in
    let begins = HasGiven-begins file _ new (next file read.rows read.given) in
    let bad : lacks_number used most row ≡ true = any-found _ used ∙ rw lacks refl in
    rw (begins.1, append_assoc read.rows (row ∷ []) begins.0, Taken-found used most read.rows passed.numbers passed.count row begins.0 (rw number_is at h) bad read.taken, lacks) refl

-- at the end of the file none was bad
pub bad_field-none : (file used : List ℕ) (most : ℕ) (old new : ByteReader) (row : Record) (number : ℕ)
    → HasPassed file used most old number → GivesNext old new row false → bad_field used most (records_of file) ≡ None
unfolding bad_field
bad_field-none file used most old new row number passed next =
    let read = passed.read in
    rw (next file read.rows read.given, read.taken.whole) refl
