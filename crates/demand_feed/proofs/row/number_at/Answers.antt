use Rattle.std.proofs.Common.{◌∙◌, ap}
use Rattle.std.specs.Option.{option_and_then}
use Rattle.demand_feed.specs.Field.{number_in}
use Rattle.demand_feed.specs.Rows.{number_at}
use Rattle.demand_feed.proofs.row.number_at.Goals as goal

pub returns-in-Some : goal.returns-in-Some
unfolding number_at
returns-in-Some c = c.number_in.ensures ∙ ap (option_and_then (number_in c.args.most)) c.in-Some.ensures

pub returns-in-None : goal.returns-in-None
unfolding number_at
returns-in-None c = ap (option_and_then (number_in c.args.most)) c.in-None.ensures
