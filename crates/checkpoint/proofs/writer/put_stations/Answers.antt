use Rattle.std.proofs.Common.{◌++◌, ◌≤◌, ◌<◌, length, ap, ◌∙◌, arith}
use Rattle.event_graph.specs.Network.{stations}
use Rattle.checkpoint.specs.declared.format.Format.TheVariants.{Differences}
use Rattle.checkpoint.specs.Text.{dates_text, station_lines, station_words, lines_text}
use Rattle.checkpoint.proofs.WrittenTexts.{length-station_lines, station_line_at, line_step, lines_end}
use Rattle.checkpoint.proofs.writer.put_stations.Goals as goal

pub loop-t-preserved : goal.loop-t-preserved
loop-t-preserved g c =
    let of = c.args.graph.now in
    let t = c.loop-t.t in
    let logs = (g.S.AsState.run c.args.state.now).state.logs in
    let there : t < stations of = omega (arith, c.stations-t-end.ensures.count, c.loop-t-test.true) in
    let low : t < length (station_lines of) = omega (arith, there, length-station_lines of) in
    let dated = c.in_ok-put_log.ensures ∙ ap (λ l. c.put_station.new.text.items ++ dates_text Differences l) c.log_of.ensures.log in
    line_step Differences (station_lines of) logs t (station_words of t) c.loop-t.text.items _ c.put_log.new.text.items (c.args.text.now.items ++ lines_text Differences (station_lines of) logs) low (station_line_at of t there) c.loop-t.invariant c.in_ok-put_station.ensures dated

pub returns : goal.returns
returns g c =
    let of = c.args.graph.now in
    let past : length (station_lines of) ≤ c.loop-t.t = omega (arith, c.stations-t-end.ensures.count, c.loop-t-test.false, length-station_lines of) in
    lines_end Differences (station_lines of) (g.S.AsState.run c.args.state.now).state.logs c.loop-t.t c.loop-t.text.items _ past c.loop-t.invariant
