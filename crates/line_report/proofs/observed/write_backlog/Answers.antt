use Rattle.std.proofs.Common.{sym, ap, ◌∙◌, subst}
use Rattle.plant_model.specs.Graph.{graph}
use Rattle.plant_model.specs.Sound.{IsSound}
use Rattle.outside_io.proofs.OutgoingLemmas.{◌⨟◌}
use Rattle.line_report.specs.ReportText.{backlog_line}
use Rattle.line_report.proofs.observed.write_backlog.Goals as goal

pub returns : goal.returns
unfolding backlog_line
returns g c =
    c.write_number_behind.ensures ⨟ (rw (c.backlog.ensures.count, c.requires.numbers) at c.write_number_behind-2.ensures) ⨟ c.push.ensures

pub backlog-requires-clause-sound : goal.backlog-requires-clause-sound
backlog-requires-clause-sound g c = subst IsSound (sym c.requires.numbers) c.requires.of_plant.sound

pub backlog-requires-clause-of_plant : goal.backlog-requires-clause-of_plant
backlog-requires-clause-of_plant g c = c.requires.of_plant.table_graph ∙ ap graph (sym c.requires.numbers)
