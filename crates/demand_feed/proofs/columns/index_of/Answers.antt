use Rattle.std.proofs.Common.{sym}
use Rattle.demand_feed.proofs.JobTimesLemmas.{index-found, index-missing}
use Rattle.demand_feed.proofs.columns.index_of.Goals as goal

pub unreachable-requires : goal.unreachable-requires
unreachable-requires c = index-missing c.args.columns.now c.args.column _ c.binary_search.result c.in_default.is c.requires.ascending c.binary_search.ensures.position c.requires.there

pub returns-clause-index : goal.returns-clause-index
returns-clause-index c =
    sym (index-found c.args.columns.now c.args.column c.in-Ok.index c.binary_search.result c.in-Ok.is c.requires.ascending c.binary_search.ensures.position).1
