use Rattle.std.proofs.Common.{[], rules, arith}
use Rattle.std.proofs.lemmas.Iterator.{YieldsList-from_slice, YieldsList-from_map}
use Rattle.std.proofs.lemmas.Iterator.Consumers.{sum_by_from_yields_List, fits_by_from_yields_list}
use Rattle.line_base.specs.declared.limits.TheConstants.{MAX_DEMANDS}
use Rattle.line_worker.specs.Logs.{dates_in}
use Rattle.line_worker.proofs.StationCounts.{sum-few}
use Rattle.line_worker.proofs.counts.dates_made.Goals as goal

pub sum-requires-clause-fits : goal.sum-requires-clause-fits
sum-requires-clause-fits c =
    let logs = c.args.logs.now.items in
    fits_by_from_yields_list dates_in logs _ _ (YieldsList-from_map _ dates_in (YieldsList-from_slice logs cc) c.map.ensures.closure (λ x r q k. search rules)) (omega (arith, sum-few dates_in MAX_DEMANDS c.args.logs.now.items (record { dates = []; room = 0 }) c.requires.count c.requires.few))

pub returns : goal.returns
returns c =
    let logs = c.args.logs.now.items in
    let dates =
    sum_by_from_yields_List dates_in logs _ c.sum.result c.sum.ensures.ran (YieldsList-from_map _ dates_in (YieldsList-from_slice logs cc) c.map.ensures.closure (λ x r q k. search rules)) in
    record { dates = dates; few = omega (arith, dates, sum-few dates_in MAX_DEMANDS c.args.logs.now.items (record { dates = []; room = 0 }) c.requires.count c.requires.few) }
