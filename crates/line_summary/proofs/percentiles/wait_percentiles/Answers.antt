use Rattle.std.proofs.Common.{◌≡◌, ℕ, List, length, ap, ◌∙◌, subst, arith}
use Rattle.std.specs.Prelude.{IsPermutation}
use Rattle.std.proofs.lemmas.List.Sorted.{IsNonDecreasingBy-from_sort}
use Rattle.event_graph.specs.Network.{jobs}
use Rattle.event_graph.specs.Table.{date_in}
use Rattle.line_summary.proofs.WaitLists.{length-sorted}
use Rattle.line_summary.proofs.percentiles.wait_percentiles.Goals as goal

pub percentiles_of-requires-clause-in_order : goal.percentiles_of-requires-clause-in_order
percentiles_of-requires-clause-in_order c =
    rw c.as_slice.ensures.value (IsNonDecreasingBy-from_sort (λ (d : ℕ). d) c.sort_unstable.new.self.items c.sort_unstable.ensures.sorted)

-- the sorted waits are as many as the jobs
long : (c : goal.After-as_slice) → length c.as_slice.result.now ≡ jobs c.args.table.now.graph
long c =
    let sorted = c.sort_unstable.new.self.items in
    ap length c.as_slice.ensures.value
    ∙ length-sorted c.args.table.now.graph (date_in c.args.table.now.rows) sorted
    (subst (λ (l : List ℕ). IsPermutation l sorted) c.in_ok-list.ensures c.sort_unstable.ensures.permutation)

pub percentiles_of-requires-clause-some : goal.percentiles_of-requires-clause-some
percentiles_of-requires-clause-some c =
    omega (arith, long c, c.stations-stations.ensures.least.limits.some_job)

pub percentiles_of-requires-clause-few : goal.percentiles_of-requires-clause-few
percentiles_of-requires-clause-few c =
    omega (arith, long c, c.stations-stations.ensures.least.limits.few_jobs)
