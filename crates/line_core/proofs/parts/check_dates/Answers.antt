use Rattle.std.proofs.Common.{arith}
use Rattle.line_base.specs.Roomy.{dates_of}
use Rattle.event_graph.specs.Network.{stations}
use Rattle.line_core.specs.Parts.{wrong_dates_at}
use Rattle.line_core.proofs.FirstRefusals.{none_below_all, handed_on_at}
use Rattle.line_core.proofs.PartsLemmas.{few_from}
use Rattle.line_core.proofs.parts.check_dates.Goals as goal

pub check_dates_at-requires-clause-few : goal.check_dates_at-requires-clause-few
check_dates_at-requires-clause-few c =
    few_from c.args.graph.now (dates_of c.args.logs.now) c.requires.few c.loop-station.station (omega (arith, c.stations-station-end.ensures.count, c.loop-station-test.true))

pub returns-in_err-check_dates_at : goal.returns-in_err-check_dates_at
returns-in_err-check_dates_at c =
    handed_on_at (stations c.args.graph.now) (wrong_dates_at c.args.graph.now (dates_of c.args.logs.now)) c.loop-station.station c.from_residual.result c.from_residual.ensures.1 (omega (arith, c.stations-station-end.ensures.count, c.loop-station-test.true)) c.in_err-check_dates_at.ensures c.loop-station.invariant

pub returns : goal.returns
returns c = none_below_all (stations c.args.graph.now) (wrong_dates_at c.args.graph.now (dates_of c.args.logs.now)) c.loop-station.station (omega (arith, c.stations-station-end.ensures.count, c.loop-station-test.false)) c.loop-station.invariant
