use Rattle.std.proofs.Common.{◌≡◌, sym, ap, ◌∙◌, subst, rules}
use Rattle.plant_model.specs.Graph.{graph}
use Rattle.event_graph.specs.Table.{date_in}
use Rattle.line_base.specs.declared.event.Parts.{Parts}
use Rattle.line_core.specs.Run.{IsLeastTable}
use Rattle.line_stats.specs.Counts.{last_date}
use Rattle.line_chart.specs.Picture.{IsReason, picture_of}
use Rattle.line_chart.specs.Window.{window_of}
use Rattle.line_chart.proofs.chart.Chart.of.Goals.{In_ok-run}
use Rattle.line_chart.proofs.chart.Chart.of.Goals as goal

-- the run is the one that is asked for
asked : (c : In_ok-run) → picture_of c.in_ok-run.run' ≡ record {
  plant = c.args.plant;
  rows = c.args.table.rows;
  window = window_of c.args.window (last_date (graph c.args.plant) (date_in c.args.table.rows));
}
asked c =
    let is = c.in_ok-run.ensures in
    let over = λ (g : Parts). window_of c.args.window (last_date g (date_in c.args.table.rows)) in
    let window = is.window ∙ c.window_of-window.ensures.window ∙ ap over c.requires.of_plant.table_graph in
    rw (is.plant, is.table, window)

-- its table is that of its graph
least : (c : In_ok-run) → IsLeastTable c.in_ok-run.run'.table
least c = subst IsLeastTable (sym c.in_ok-run.ensures.table) (search rules)

pub run_of-requires-clause-window : goal.run_of-requires-clause-window
run_of-requires-clause-window c = c.window_of-window.ensures.is_one

pub room_for-requires : goal.room_for-requires
room_for-requires c = c.in_ok-run.ensures.of_run

pub invariant_of-result : goal.invariant_of-result
invariant_of-result c =
    let table = least (goal.at.invariant_of-result c).In_ok-run in
    (c.in_ok-run.ensures.of_run, table, c.in-Ok.ensures.room, c.in-Ok.ensures.small)

pub returns-in-Ok-clause-drawn : goal.returns-in-Ok-clause-drawn
returns-in-Ok-clause-drawn c = asked (goal.at.returns-in-Ok-clause-drawn c).In_ok-run

pub returns-in-Ok-clause-small : goal.returns-in-Ok-clause-small
returns-in-Ok-clause-small c =
    let run = c.in_ok-run.run' in
    let of_run = c.in_ok-run.ensures.of_run in
    let table = least (goal.at.returns-in-Ok-clause-small c).In_ok-run in
    let is_least = λ (g : Parts). IsLeastTable (record { graph = g; rows = run.table.rows }) in
    record {
      sound = of_run.of_plant.sound;
      least = subst is_least of_run.of_plant.table_graph table;
      window = of_run.window;
      small = c.in-Ok.ensures.small;
    }

pub returns-in-Err-clause-refused : goal.returns-in-Err-clause-refused
returns-in-Err-clause-refused c =
    let same = asked (goal.at.returns-in-Err-clause-refused c).In_ok-run in
    subst (λ picture. IsReason picture c.in-Err.error) same c.in-Err.ensures.refused
