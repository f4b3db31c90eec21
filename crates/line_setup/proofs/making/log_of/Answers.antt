use Rattle.std.proofs.Common.{length, ap, arith}
use Rattle.event_graph.specs.Network.{jobs}
use Rattle.line_setup.proofs.StateRoom.{few_dates}
use Rattle.line_setup.proofs.making.log_of.Goals as goal

pub log_with-requires : goal.log_with-requires
log_with-requires c =
    let few = few_dates c.args.live.now.graph c.args.state.now c.args.t c.requires.made_for c.log.ensures.reached c.requires.station in
    omega (arith, few, ap length c.log.ensures.log, c.jobs.ensures.count, ap jobs c.graph.ensures.graph)

pub returns-clause-few : goal.returns-clause-few
returns-clause-few c =
    few_dates c.args.live.now.graph c.args.state.now c.args.t c.requires.made_for c.log.ensures.reached c.requires.station
