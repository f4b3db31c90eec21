use Rattle.std.proofs.Common.{sym, ap, ◌∙◌, arith, length}
use Rattle.line_base.specs.Roomy.{RoomyLog}
use Rattle.line_core.proofs.Runs.{many_logs, log-state_in, consistent}
use Rattle.line_core.proofs.dates.count_at.Goals as goal

pub get-requires : goal.get-requires
get-requires c = omega (arith, many_logs c.args.graph.now c.args.logs.now c.requires.has_room, c.requires.station)

pub returns-clause-count : goal.returns-clause-count
returns-clause-count c =
    ap length c.dates.ensures
    ∙ ap (λ (l : RoomyLog). length l.dates) c.get.ensures
    ∙ sym (ap length (log-state_in c.args.graph.now c.args.logs.now c.args.t))

pub returns-clause-within : goal.returns-clause-within
returns-clause-within c =
    omega (arith, returns-clause-count c, (consistent c.args.graph.now c.args.logs.now c.requires.has_room).few_dates c.args.t c.requires.station)
