use Rattle.std.proofs.Common.{ℕ, List, [], ◌∷◌, ◌++◌, map, ap, ◌∙◌, sym, ◌≡◌, ◌<◌, ◌≤◌, arith, length, take, subst}
use Rattle.std.specs.List.{All}
use Rattle.std.proofs.lemmas.List.{take_all, length-map, map_more, length-take}
use Rattle.std.proofs.lemmas.Result.{err_from_is_err_and}
use Rattle.line_base.specs.Roomy.{RoomyLog, RoomyLogs, dates_of}
use Rattle.line_core.proofs.Runs.{log_of, dates-log_of, room-log_of}
use Rattle.line_core.proofs.parts.with_room.Goals as goal

pub returns-clause-dates : goal.returns-clause-dates
returns-clause-dates c =
    let lists = dates_of c.args.logs.now in
    let all : length lists ≤ c.loop-k.k = omega (arith, c.loop-k-test.false, c.len-number.ensures, length-map c.args.logs.now.logs (λ (l : RoomyLog). l.dates)) in
    ap dates_of c.loop-k.invariant
    ∙ dates-log_of c.args.room (take c.loop-k.k lists)
    ∙ take_all c.loop-k.k lists all

pub returns-clause-room : goal.returns-clause-room
returns-clause-room c =
    subst (λ (l : RoomyLogs). All (λ (x : RoomyLog). x.room ≡ c.args.room) l.logs) (sym c.loop-k.invariant) (room-log_of c.args.room (take c.loop-k.k (dates_of c.args.logs.now)))

pub returns-in_err-copy : goal.returns-in_err-copy
returns-in_err-copy c =
    let p = err_from_is_err_and c.from_residual.result c.from_residual.ensures.1 in
    rw p.1 (record { dates = tt; room = tt })

pub returns-in_err-log_with : goal.returns-in_err-log_with
returns-in_err-log_with c =
    let p = err_from_is_err_and c.from_residual-in_err-log_with.result c.from_residual-in_err-log_with.ensures.1 in
    rw p.1 (record { dates = tt; room = tt })

pub dates_at-requires : goal.dates_at-requires
dates_at-requires c = omega (arith, c.loop-k-test.true, c.len-number.ensures)

pub log_with-requires : goal.log_with-requires
log_with-requires c =
    let logs = c.args.logs.now in
    let below : c.loop-k.k < length (dates_of logs) = omega (arith, c.loop-k-test.true, c.len-number.ensures, length-map logs.logs (λ (l : RoomyLog). l.dates)) in
    omega (arith, ap (λ (l : List ℕ). length l) c.dates_at.ensures, c.requires.few c.loop-k.k [] below)

pub loop-k-init : goal.loop-k-init
loop-k-init c = c.in_ok-copy.ensures

pub loop-k-preserved : goal.loop-k-preserved
loop-k-preserved c =
    let logs = c.args.logs.now in
    let lists = dates_of logs in
    let room = c.args.room in
    let k = c.loop-k.k in
    let with_logs : List RoomyLog → RoomyLogs = λ ls. record { logs = ls; room = c.len-number.result } in
    let below : k < length lists = omega (arith, c.loop-k-test.true, c.len-number.ensures, length-map logs.logs (λ (l : RoomyLog). l.dates)) in
    c.add.ensures
    ∙ ap (λ (l : RoomyLogs). record l { logs = l.logs ++ c.in_ok-log_with.field-0 ∷ [] }) c.loop-k.invariant
    ∙ ap (λ (log : RoomyLog). with_logs (map (log_of room) (take k lists) ++ log ∷ [])) (c.in_ok-log_with.ensures ∙ ap (log_of room) c.dates_at.ensures)
    ∙ ap with_logs (sym (map_more (log_of room) lists k [] below))

pub add-requires : goal.add-requires
add-requires c =
    let lists = dates_of c.args.logs.now in
    let k = c.loop-k.k in
    let many = ap (λ (l : RoomyLogs). length l.logs) c.loop-k.invariant in
    let room = ap (λ (l : RoomyLogs). l.room) c.loop-k.invariant in
    omega (arith, many, room, length-map (take k lists) (log_of c.args.room), length-take k lists, c.loop-k-test.true)
