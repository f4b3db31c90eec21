-- For the proofs of this crate: the words of dates that are still to be written.
use Rattle.std.specs.Prelude.{ℕ, List, ◌∷◌, drop, slice_index_or}
use Rattle.checkpoint.specs.declared.format.Format.TheVariants.{Differences}
use Rattle.checkpoint.specs.Text.{date_words}

-- the date that date number i follows: the one in front of it, or 0
abbrev pub date_before : List ℕ → ℕ → ℕ
date_before dates i = slice_index_or (0 ∷ dates) i 0

-- the words of the dates from number i on
unfoldable pub words_from : List ℕ → ℕ → List ℕ
words_from dates i = date_words Differences (date_before dates i) (drop i dates)
