use Rattle.std.proofs.Common.{◌≡◌, ◌++◌, ◌∷◌, [], replicate, List, ap, ◌∙◌, arith, length}
use Rattle.std.proofs.lemmas.List.{replicate_more, length-replicate}
use Rattle.line_base.specs.Roomy.{RoomyLog, RoomyLogs, dates_of}
use Rattle.event_graph.specs.Network.{stations, jobs}
use Rattle.line_core.proofs.Runs.{empty_ones, held-start, dates-empty_ones}
use Rattle.std.proofs.lemmas.Result.{err_from_is_err_and}
use Rattle.line_core.proofs.state.empty_logs.Goals as goal

pub loop-preserved : goal.loop-preserved
loop-preserved c =
    let empty : RoomyLog = record { dates = []; room = c.jobs-jobs.result } in
    let with_logs : List RoomyLog → RoomyLogs = λ logs. record { logs = logs; room = c.stations-stations.result } in
    c.add.ensures
    ∙ ap (λ (l : RoomyLogs). record l { logs = l.logs ++ c.in_ok-new.field-0 ∷ [] }) c.loop.invariant
    ∙ ap (λ log. with_logs (replicate c.loop.counter empty ++ log ∷ [])) c.in_ok-new.ensures
    ∙ ap with_logs (replicate_more c.loop.counter empty)

pub returns-clause-has_room : goal.returns-clause-has_room
returns-clause-has_room c =
    let all : c.loop.counter ≡ stations c.args.graph.now = omega (arith, c.loop-test.false, c.loop.auto.counter-end, c.stations-stations.ensures.count) in
    held-start c.args.graph.now c.loop.logs c.jobs-jobs.ensures.graph c.jobs-jobs.ensures.limits (c.loop.invariant ∙ ap (λ n. empty_ones n c.jobs-jobs.result c.stations-stations.result) all ∙ ap (λ n. empty_ones (stations c.args.graph.now) n c.stations-stations.result) c.jobs-jobs.ensures.count ∙ ap (empty_ones (stations c.args.graph.now) (jobs c.args.graph.now)) c.stations-stations.ensures.count)

pub returns-clause-start : goal.returns-clause-start
returns-clause-start c =
    let all : c.loop.counter ≡ stations c.args.graph.now = omega (arith, c.loop-test.false, c.loop.auto.counter-end, c.stations-stations.ensures.count) in
    ap dates_of (c.loop.invariant ∙ ap (λ n. empty_ones n c.jobs-jobs.result c.stations-stations.result) all)
    ∙ dates-empty_ones (stations c.args.graph.now) c.jobs-jobs.result c.stations-stations.result

pub returns-in_err-logs : goal.returns-in_err-logs
returns-in_err-logs c =
    let p = err_from_is_err_and c.from_residual.result c.from_residual.ensures.1 in
    rw p.1 (record { has_room = tt; start = tt })

pub returns-in_err-new : goal.returns-in_err-new
returns-in_err-new c =
    let p = err_from_is_err_and c.from_residual-in_err-new.result c.from_residual-in_err-new.ensures.1 in
    rw p.1 (record { has_room = tt; start = tt })

pub add-requires : goal.add-requires
add-requires c =
    let empty : RoomyLog = record { dates = []; room = c.jobs-jobs.result } in
    let many = ap (λ (l : RoomyLogs). length l.logs) c.loop.invariant in
    let room = ap (λ (l : RoomyLogs). l.room) c.loop.invariant in
    omega (arith, many, room, length-replicate c.loop.counter empty, c.loop-test.true)
