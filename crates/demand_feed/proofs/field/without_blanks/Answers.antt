use Rattle.std.proofs.Common.{arith, length-drop}
use Rattle.std.proofs.lemmas.Grind.{common_steps}
use Rattle.demand_feed.specs.Field.{without_blanks}
use Rattle.demand_feed.proofs.field.without_blanks.Goals as goal

pub returns : goal.returns
unfolding without_blanks
returns c = grind (arith, common_steps, length-drop)
