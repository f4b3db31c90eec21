-- What may not be meant in a plant that nothing is wrong with, as lines of notes.
use Rattle.std.specs.Prelude.{ℕ, ◌+◌, ◌-◌, Bool, ◌&&◌, ◌==◌, nat_le, if◌then◌else◌, List, [], ◌++◌, length, slice_index_or, Option, None, Some, codes}
use Rattle.std.specs.List.{list_all, range_with_len}
use Rattle.plant_model.specs.Line.{stock_under}
use Rattle.plant_model.specs.declared.plant.Plant.{Plant}

-- no stage has starting stock
abbrev pub has_no_stock : Plant → Bool
has_no_stock p = list_all (λ s. stock_under p.policy s == 0) p.stages

-- date k + 1 is date k plus 1, both counted from 0
abbrev pub goes_by_one_at : List ℕ → ℕ → Bool
goes_by_one_at dates k = slice_index_or dates (k + 1) 0 == slice_index_or dates k 0 + 1

-- each date after the first is the one before plus 1
abbrev pub goes_by_one : List ℕ → Bool
goes_by_one dates = list_all (goes_by_one_at dates) (range_with_len 0 (length dates - 1))

-- three dates or more, each after the first the one before plus 1
abbrev pub counts_up : List ℕ → Bool
counts_up dates = nat_le 3 (length dates) && goes_by_one dates

-- the note of a line without starting stock
abbrev pub stock_note : Plant → List ℕ
stock_note p = if has_no_stock p then codes "note: no starting stock\n" else []

-- the note of a demand file whose dates look like job numbers
abbrev pub dates_note : Option (List ℕ) → List ℕ → List ℕ
dates_note None dates = []
dates_note (Some file) dates = if counts_up dates then codes "note: " ++ (file ++ codes " counts up by one\n") else []

-- the notes of a plant whose dates stand in this file, if they stand in one
unfoldable pub plant_notes : Option (List ℕ) → Plant → List ℕ
plant_notes file p = stock_note p ++ dates_note file p.demands
