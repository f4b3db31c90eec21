use Rattle.std.proofs.Common.{◌≡◌, ◌+◌, ap, ◌∙◌, arith}
use Rattle.event_graph.specs.Network.{jobs}
use Rattle.answers.specs.ChangesText.{lines_of_date, lines_of_station}
use Rattle.answers.proofs.SinkLines.{written_none, written_more}
use Rattle.answers.proofs.change_lines.write_station.Goals as goal

pub loop-before-init : goal.loop-before-init
loop-before-init g c = record { written = written_none _; few = omega arith }

pub loop-before-preserved : goal.loop-before-preserved
unfolding lines_of_date
loop-before-preserved g c =
    let written =
    rw (c.label-label.ensures.text, c.graph-graph.ensures.graph, c.requires.made_for, c.first-old.ensures.date, c.date-new.ensures.date) at c.write_date-count.ensures.written in
    record {
      written =
          written_more _ _ _ (lines_of_date c.args.sheet.now c.args.t) 1 c.loop-before.before (c.loop-before.before + 1)
          c.loop-before.count c.write_date-count.result (omega arith) c.loop-before.invariant.written written;
      few = omega (arith, c.loop-before.invariant.few, c.write_date-count.ensures.few);
    }

pub returns-clause-written : goal.returns-clause-written
unfolding lines_of_station
returns-clause-written g c =
    let count : c.jobs-before-end.result ≡ jobs c.args.sheet.now.live.graph =
    c.jobs-before-end.ensures.count ∙ ap jobs (c.graph-graph.ensures.graph ∙ ap (λ l. l.graph) c.requires.made_for) in
    let all : c.loop-before.before ≡ jobs c.args.sheet.now.live.graph = omega (arith, count) in
    rw all at c.loop-before.invariant.written
