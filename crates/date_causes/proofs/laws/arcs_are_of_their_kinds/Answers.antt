use Rattle.date_causes.proofs.KindedRows.{arc_of_kind}
use Rattle.date_causes.proofs.laws.arcs_are_of_their_kinds.Goals as goal

pub returns : goal.returns
returns c = arc_of_kind
