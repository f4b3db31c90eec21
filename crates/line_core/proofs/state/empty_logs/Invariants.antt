use Rattle.std.proofs.Common.{◌≡◌, replicate, []}
use Rattle.line_core.proofs.state.empty_logs.Given as goal

abbrev pub invariant-loop : goal.invariant-loop
invariant-loop l =
    l.logs ≡ record { logs = replicate l.counter (record { dates = []; room = l.jobs }); room = l.stations }
