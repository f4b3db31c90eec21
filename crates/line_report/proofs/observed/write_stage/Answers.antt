use Rattle.std.proofs.Common.{◌≡◌, sym, ap, ◌∙◌, subst}
use Rattle.plant_model.specs.Graph.{graph}
use Rattle.plant_model.specs.Line.{stage_at}
use Rattle.plant_model.specs.Sound.{IsSound}
use Rattle.event_graph.specs.Table.{date_in}
use Rattle.line_stats.specs.Counts.{in_move}
use Rattle.outside_io.specs.Outgoing.{Pushed, stream}
use Rattle.outside_io.proofs.OutgoingLemmas.{pushed_none, ◌⨟◌}
use Rattle.line_report.proofs.Lines.{stage_read, stage_line-parts, move_words, move_words-moving, move_words-still}
use Rattle.line_report.proofs.observed.write_stage.Goals as goal
use Rattle.line_report.proofs.observed.write_stage.Goals.{then-part-gt0, else-part-gt0}

pub returns : goal.returns
returns g c =
    let plant = c.args.run.now.plant in
    let x = date_in c.args.run.now.table.rows in
    let stage = c.index-as_slice-stage.result in
    let read : stage ≡ stage_at plant c.args.stage =
    stage_read plant c.args.stage c.as_slice.result.now stage c.as_slice.ensures c.requires.exists c.index-as_slice-stage.is
    in
    let process = rw (c.in_process.ensures.count, c.requires.run.numbers) at c.write_number_behind-2.ensures in
    let stock = rw c.in_stock.ensures.count at c.write_number_behind-3.ensures in
    let moving = in_move plant x c.args.stage c.args.at in
    let way : Pushed (stream (g.K.Sink.shown c.write_number_behind-2.new.sink) c.write_number_behind-2.new.out) (stream (g.K.Sink.shown c.if-part-gt0.sink) c.if-part-gt0.out) (move_words stage.travel moving) =
    elim c.if-part-gt0.branch [
      | then-part-gt0 w ↦
          rw (move_words-moving stage.travel moving w.if-part-gt0.true, w.out-is, w.sink-is)
          (rw w.in_move.ensures.count at w.write_number_behind-then-part-gt0.ensures)
      | else-part-gt0 w ↦
          rw (move_words-still stage.travel moving w.if-part-gt0.false, w.out-is, w.sink-is)
          (pushed_none _)
    ]
    in
    rw (stage_line-parts plant x c.args.at c.args.stage stage read)
    (c.write_number_behind.ensures ⨟ c.push.ensures ⨟ (rw c.text.ensures.text at c.push-2.ensures)
    ⨟ process ⨟ way ⨟ stock ⨟ c.push-3.ensures)

pub in_process-requires-clause-sound : goal.in_process-requires-clause-sound
in_process-requires-clause-sound g c = subst IsSound (sym c.requires.run.numbers) c.requires.run.of_plant.sound

pub in_process-requires-clause-of_plant : goal.in_process-requires-clause-of_plant
in_process-requires-clause-of_plant g c = c.requires.run.of_plant.table_graph ∙ ap graph (sym c.requires.run.numbers)
