use Rattle.std.proofs.Common.{◌≡◌, ◌+◌, cond, Some, None, sym, ap, ◌∙◌, arith}
use Rattle.event_graph.specs.Network.{jobs}
use Rattle.event_graph.specs.Table.{date_in}
use Rattle.outside_io.proofs.OutgoingLemmas.{pushed_none, pushed_next}
use Rattle.line_chart.specs.Starts.{start}
use Rattle.line_chart.specs.TableText.{start_of, job_record, station_records}
use Rattle.line_chart.proofs.records.write_station.Goals as goal
use Rattle.line_chart.proofs.records.write_station.Goals.{then-machine, else-machine}

pub loop-before-init : goal.loop-before-init
loop-before-init g c = pushed_none _

pub loop-before-preserved : goal.loop-before-preserved
unfolding job_record
loop-before-preserved g c =
    let graph = c.args.graph.now in
    let x = date_in c.args.table.now.rows in
    let job = c.loop-before.before + 1 in
    let begun : c.if-machine.start ≡ start_of graph x c.args.machine c.args.t job =
    elim c.if-machine.branch [
      | then-machine w ↦
          w.start-is ∙ ap Some w.start.ensures.start ∙ ap (λ b. cond b (Some (start graph x c.args.t job)) None) (sym w.if-machine.true)
      | else-machine w ↦
          w.start-is ∙ ap (λ b. cond b (Some (start graph x c.args.t job)) None) (sym w.if-machine.false)
    ]
    in
    let written = rw (c.label-label.ensures.text, c.customer-serves.ensures, begun, c.date.ensures.date) at c.write_record.ensures in
    pushed_next (job_record graph x c.args.ahead c.args.machine c.args.t) 1 c.loop-before.before job (omega arith) c.loop-before.invariant written

pub returns : goal.returns
unfolding station_records
returns g c =
    let all : c.loop-before.before ≡ jobs c.args.graph.now = omega arith in
    rw all at c.loop-before.invariant
