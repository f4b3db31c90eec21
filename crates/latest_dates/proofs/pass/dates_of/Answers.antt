use Rattle.std.proofs.Common.{subst}
use Rattle.line_base.specs.declared.event.Parts.{Parts}
use Rattle.event_graph.specs.Table.{date_in}
use Rattle.line_core.specs.Run.{IsLeastTable}
use Rattle.latest_dates.specs.Found.{IsInTime}
use Rattle.latest_dates.proofs.pass.dates_of.Goals as goal

pub returns-clause-found : goal.returns-clause-found
returns-clause-found c =
    let is = c.graph.ensures.graph in
    record {
      least = subst (λ (h : Parts). IsLeastTable (record { graph = h; rows = c.args.table.now.rows })) c.requires.of_graph c.stations-least.ensures.least;
      in_time = subst (λ (h : Parts). IsInTime h (date_in c.args.table.now.rows) c.args.wait) is c.in_ok-check_waits.ensures;
      one_for_each = c.in_ok-dates.ensures.one_for_each;
      latest = c.in_ok-dates.ensures.latest;
      not_before = c.in_ok-dates.ensures.not_before;
    }
