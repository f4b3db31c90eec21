use Rattle.std.proofs.Common.{◌≤◌, length, ap, arith}
use Rattle.event_graph.specs.Network.{jobs, stations}
use Rattle.line_setup.proofs.StateRoom.{few_dates}
use Rattle.line_setup.proofs.laying.room_on.Goals.{After-log}
use Rattle.line_setup.proofs.laying.room_on.Goals as goal

few : (c : After-log) → length c.log.result.now ≤ jobs c.args.live.now.graph
few c =
    omega (arith, ap length c.log.ensures.log, few_dates c.args.live.now.graph c.args.state.now c.arc.result.from c.requires.made_for c.log.ensures.reached (omega (arith, c.arc.ensures.starts, ap stations c.graph-2.ensures.graph)))

pub overflow_cast-result : goal.overflow_cast-result
overflow_cast-result c = omega (arith, few c, c.jobs.type_inv, c.jobs.ensures.count, ap jobs c.graph.ensures.graph)

pub overflow_sub-result : goal.overflow_sub-result
overflow_sub-result c = omega (arith, few c, c.jobs.ensures.count, ap jobs c.graph.ensures.graph)
