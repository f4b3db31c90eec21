use Rattle.std.proofs.Common.{◌∙◌, ap, Option, List, ℕ, false}
use Rattle.std.specs.Option.{option_map_or}
use Rattle.demand_feed.specs.Field.{is_title}
use Rattle.demand_feed.specs.Rows.{has_title_at}
use Rattle.demand_feed.proofs.row.has_title_at.Goals as goal

pub returns-in-Some : goal.returns-in-Some
unfolding has_title_at
returns-in-Some c = c.is_title.ensures ∙ ap (λ (o : Option (List ℕ)). option_map_or is_title o false) c.in-Some.ensures

pub returns-in-None : goal.returns-in-None
unfolding has_title_at
returns-in-None c = ap (λ (o : Option (List ℕ)). option_map_or is_title o false) c.in-None.ensures
