use Rattle.std.proofs.Common.{◌≡◌, ap, ◌∙◌, arith}
use Rattle.event_graph.specs.Network.{stations}
use Rattle.answers.specs.ChangesText.{lines_of_station, change_lines}
use Rattle.answers.proofs.SinkLines.{written_none, written_more}
use Rattle.answers.proofs.change_lines.write_stations.Goals as goal

pub loop-t-init : goal.loop-t-init
loop-t-init g c = record { written = written_none _; few = omega arith }

pub loop-t-preserved : goal.loop-t-preserved
loop-t-preserved g c =
    record {
      written =
          written_more _ _ _ (lines_of_station c.args.sheet.now) 0 c.loop-t.t c.loop-t.t
          c.loop-t.count c.write_station-count.result (omega arith) c.loop-t.invariant.written c.write_station-count.ensures.written;
      few = omega (arith, c.loop-t.invariant.few, c.write_station-count.ensures.few);
    }

pub returns : goal.returns
unfolding change_lines
returns g c =
    let count : c.stations-t-end.result ≡ stations c.args.sheet.now.live.graph =
    c.stations-t-end.ensures.count ∙ ap stations (c.graph.ensures.graph ∙ ap (λ l. l.graph) c.requires) in
    let all : c.loop-t.t ≡ stations c.args.sheet.now.live.graph = omega (arith, count) in
    rw all at c.loop-t.invariant.written
