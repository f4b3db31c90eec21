-- What `cards --each` writes: a line `cards STAGE C below WHY` for each stage, and `total N`.
use Rattle.std.specs.Prelude.{ℕ, List, ◌++◌, codes, decimal}
use Rattle.std.specs.List.{flat_map}
use Rattle.card_sizing.specs.declared.each.StageSizing.{StageSizing}
use Rattle.card_sizing.specs.declared.each.EachSizing.{EachSizing}
use Rattle.answers.specs.CardsText.{below_words}

-- the line of a stage: its name, its cards, and why it can't have one less
abbrev pub stage_line : StageSizing → List ℕ
stage_line s =
    codes "cards "
    ++ (s.stage ++ (codes " " ++ (decimal s.cards ++ (codes " below " ++ (below_words s.below ++ codes "\n")))))

-- the lines of the stages, and their sum
abbrev pub each_cards_text : EachSizing → List ℕ
each_cards_text e = flat_map stage_line e.stages ++ (codes "total " ++ (decimal e.total ++ codes "\n"))
