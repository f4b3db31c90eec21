use Rattle.std.proofs.Common.{◌≡◌, ◌++◌, take}
use Rattle.std.specs.List.{flat_map}
use Rattle.answers.specs.EachCardsText.{stage_line}
use Rattle.answers.proofs.each_cards.add_stages.Given as goal

abbrev pub invariant-loop-stage : goal.invariant-loop-stage
invariant-loop-stage l = l.text.items ≡ l.initial.text.items ++ flat_map stage_line (take l.stage-index l.stages)
