use Rattle.std.proofs.Common.{subst}
use Rattle.line_base.specs.declared.event.Parts.{Parts}
use Rattle.event_graph.specs.Table.{date_in}
use Rattle.line_core.specs.Run.{IsLeastTable}
use Rattle.line_summary.specs.Summarized.{ArePercentiles}
use Rattle.line_summary.proofs.summary.Summary.new.Goals as goal

pub of-requires : goal.of-requires
of-requires c = record { sound = c.requires.sound; numbers = c.in-Ok.ensures.numbers; of_plant = c.requires.of_plant }

pub invariant_of-result : goal.invariant_of-result
invariant_of-result c =
    let made = c.in-Ok.ensures in
    let x = date_in c.args.table.rows in
    let found = c.in-Ok.percentiles in (
      record {
        line = record { sound = c.requires.sound; numbers = made.numbers; of_plant = c.requires.of_plant };
        figures = c.of.ensures;
        percentiles = subst (λ (g : Parts). ArePercentiles g x found) c.requires.of_plant made.percentiles;
        uses = made.uses;
      },
      c.stations-stations.ensures.least,
      made.out,
    )

pub returns-clause-least : goal.returns-clause-least
returns-clause-least c =
    let is_least = λ (g : Parts). IsLeastTable (record { graph = g; rows = c.args.table.rows }) in
    record {
      sound = c.requires.sound;
      least = subst is_least c.requires.of_plant c.stations-stations.ensures.least;
    }
