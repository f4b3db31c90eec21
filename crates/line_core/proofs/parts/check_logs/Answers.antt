use Rattle.std.proofs.Common.{arith}
use Rattle.line_base.specs.Roomy.{dates_of}
use Rattle.event_graph.specs.Network.{stations}
use Rattle.line_core.specs.Parts.{long_log}
use Rattle.line_core.proofs.FirstRefusals.{none_below_all, handed_on_at}
use Rattle.line_core.proofs.parts.check_logs.Goals as goal

pub returns-in_err-check_log : goal.returns-in_err-check_log
returns-in_err-check_log c =
    handed_on_at (stations c.args.graph.now) (long_log c.args.graph.now (dates_of c.args.logs.now)) c.loop-station.station c.from_residual.result c.from_residual.ensures.1 (omega (arith, c.stations-station-end.ensures.count, c.loop-station-test.true)) c.in_err-check_log.ensures c.loop-station.invariant

pub returns : goal.returns
returns c = none_below_all (stations c.args.graph.now) (long_log c.args.graph.now (dates_of c.args.logs.now)) c.loop-station.station (omega (arith, c.stations-station-end.ensures.count, c.loop-station-test.false)) c.loop-station.invariant
