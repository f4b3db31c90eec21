use Rattle.std.proofs.Common.{◌≡◌, arith}
use Rattle.event_graph.specs.Table.{date_in}
use Rattle.outside_io.proofs.OutgoingLemmas.{pushed_none, pushed_next}
use Rattle.line_chart.specs.TableText.{machine_records_behind}
use Rattle.line_chart.proofs.records.write_machines.Goals as goal

pub loop-machine-init : goal.loop-machine-init
loop-machine-init g c = pushed_none _

pub loop-machine-preserved : goal.loop-machine-preserved
loop-machine-preserved g c =
    pushed_next (machine_records_behind c.args.graph.now (date_in c.args.table.now.rows) c.args.ahead c.args.release) 0 c.loop-machine.machine c.loop-machine.machine (omega arith) c.loop-machine.invariant c.write_station.ensures

pub returns : goal.returns
returns g c =
    let all : c.loop-machine.machine ≡ c.args.count = omega arith in
    rw all at c.loop-machine.invariant
