-- Facts on a record's fields, and on the records of jobs as one more record is read.
use Rattle.std.proofs.Common.{◌≡◌, ◌∙◌, ◌<◌, ◌+◌, ◌++◌, ℕ, zero, suc, List, [], ◌∷◌, Some, false, refl, length, get_or, take, arith}
use Rattle.std.specs.Option.{is_none}
use Rattle.std.proofs.lemmas.Grind.{common_steps}
use Rattle.std.proofs.lemmas.List.Elements.{filter_map-append}
use Rattle.std.proofs.lemmas.List.Folds.{list_any_more}
use Rattle.demand_feed.specs.Records.{Record}
use Rattle.demand_feed.specs.Rows.{lacks_number, number_at, numbers_of}
use Rattle.std.specs.Prelude.{slice_get}
use Rattle.csv.specs.Records.{field_at}

-- the crate `csv` counts fields as a slice's elements
pub field_at-slice_get : (fields : List (List ℕ)) (i : ℕ) → field_at fields i ≡ slice_get fields i
unfolding field_at
field_at-slice_get [] i = refl
field_at-slice_get (f ∷ fields) zero = refl
field_at-slice_get (f ∷ fields) (suc i) = field_at-slice_get fields i

-- one more column: it has a number
pub lacks_number-more : (used : List ℕ) (most : ℕ) (fields : Record) (i n : ℕ) → i < length used → number_at most fields (get_or used i 0) ≡ Some n
    → lacks_number (take i used) most fields ≡ false → lacks_number (take (i + 1) used) most fields ≡ false
lacks_number-more used most fields i n within found whole =
    let more = list_any_more (λ column. is_none (number_at most fields column)) used i 0 within in
    more ∙ rw (whole, found) refl

pub numbers_of-more : (used : List ℕ) (most : ℕ) (fields : Record) (i n : ℕ) → i < length used → number_at most fields (get_or used i 0) ≡ Some n
    → numbers_of (take (i + 1) used) most fields ≡ numbers_of (take i used) most fields ++ n ∷ []
numbers_of-more used most fields i n within found = grind (arith, common_steps, filter_map-append)
