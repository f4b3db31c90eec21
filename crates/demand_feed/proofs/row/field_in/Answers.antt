use Rattle.std.proofs.Common.{◌∙◌}
use Rattle.demand_feed.proofs.RowLemmas.{field_at-slice_get}
use Rattle.demand_feed.proofs.row.field_in.Goals as goal

pub returns : goal.returns
returns c = c.get.ensures.value ∙ field_at-slice_get _ _
