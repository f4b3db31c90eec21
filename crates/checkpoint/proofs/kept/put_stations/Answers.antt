use Rattle.std.proofs.Common.{◌++◌, ◌≤◌, ◌<◌, length, ap, ◌∙◌, arith, subst}
use Rattle.event_graph.specs.Network.{stations}
use Rattle.event_graph.specs.State.{log}
use Rattle.checkpoint.specs.declared.format.Format.TheVariants.{Differences}
use Rattle.checkpoint.specs.Kept.{AreFirstWords}
use Rattle.checkpoint.specs.Text.{dates_text, station_lines, station_words, lines_text}
use Rattle.checkpoint.proofs.KeptWords.{first_words-set, each_word-set}
use Rattle.checkpoint.proofs.WrittenTexts.{length-station_lines, station_line_at, line_step, lines_end}
use Rattle.checkpoint.proofs.kept.put_stations.Goals as goal

pub loop-t-preserved : goal.loop-t-preserved
loop-t-preserved g c =
    let of = c.args.graph.now in
    let t = c.loop-t.t in
    let s = (g.S.AsState.run c.args.state.now).state in
    let there : t < stations of = omega (arith, c.stations-t-end.ensures.count, c.loop-t-test.true) in
    let low : t < length (station_lines of) = omega (arith, there, length-station_lines of) in
    let dated = c.in_ok-put.ensures.text ∙ ap (λ l. c.put_station.new.text.items ++ dates_text Differences l) c.log_of.ensures.log in
    let words : AreFirstWords (log s t) c.put.new.self = subst (λ l. AreFirstWords l c.put.new.self) c.log_of.ensures.log c.in_ok-put.ensures.words in
    record {
      written =
          line_step Differences (station_lines of) s.logs t (station_words of t) c.loop-t.text.items _ c.put.new.text.items (c.args.text.now.items ++ lines_text Differences (station_lines of) s.logs) low (station_line_at of t there) c.loop-t.invariant.written c.in_ok-put_station.ensures dated;
      first = first_words-set of s c.loop-t.logs.items t c.put.new.self there c.loop-t.invariant.first words;
      reached = λ some. c.log_of.ensures.reached;
      all =
          each_word-set of s c.loop-t.logs.items t c.put.new.self there c.loop-t.invariant.first words (c.in_ok-put.ensures.all ∙ ap length c.log_of.ensures.log) c.loop-t.invariant.all;
    }

pub returns-clause-text : goal.returns-clause-text
returns-clause-text g c =
    let of = c.args.graph.now in
    let past : length (station_lines of) ≤ c.loop-t.t = omega (arith, c.stations-t-end.ensures.count, c.loop-t-test.false, length-station_lines of) in
    lines_end Differences (station_lines of) (g.S.AsState.run c.args.state.now).state.logs c.loop-t.t c.loop-t.text.items _ past c.loop-t.invariant.written
