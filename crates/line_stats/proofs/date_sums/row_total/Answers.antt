use Rattle.std.proofs.Common.{rules, arith, ◌^◌, ◌≤◌, length}
use Rattle.std.proofs.lemmas.Iterator.{YieldsList-from_slice}
use Rattle.std.proofs.lemmas.Iterator.Adapters.{fits_from_length, at_most_from_yields_List}
use Rattle.line_stats.proofs.date_sums.row_total.Goals as goal

-- at most 20,000 dates, each below 2 ^ 64
pub sum-requires-clause-fits : goal.sum-requires-clause-fits
sum-requires-clause-fits c =
    let few : length c.args.dates.now ≤ 20_000 = c.requires.few in
    fits_from_length _ _ 20_000 (2 ^ 128) (at_most_from_yields_List (YieldsList-from_slice c.args.dates.now cc) few) c.map.ensures.closure (omega arith) (λ x r q k. search rules)
