use Rattle.std.proofs.Common.{subst}
use Rattle.line_base.specs.declared.event.Parts.{Parts}
use Rattle.line_core.specs.Run.{IsLeastTable}
use Rattle.line_chart.proofs.table.DateTable.new.Goals as goal

pub invariant_of-result : goal.invariant_of-result
invariant_of-result c =
    let made = c.in-Ok.ensures in (
      record { of_plant = c.requires; numbers = made.numbers; stocks = made.stocks },
      c.stations-least.ensures.least,
      made.out,
    )

pub returns-clause-least : goal.returns-clause-least
returns-clause-least c =
    let is_least = λ (g : Parts). IsLeastTable (record { graph = g; rows = c.args.table.rows }) in
    record {
      sound = c.requires.sound;
      least = subst is_least c.requires.table_graph c.stations-least.ensures.least;
    }
