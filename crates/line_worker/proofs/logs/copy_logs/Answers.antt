use Rattle.std.proofs.Common.{◌≡◌, ℕ, ◌+◌, ◌<◌, List, [], ◌∷◌, ◌++◌, map, take, length, get_or, sym, ap, ◌∙◌, append_assoc, length-append, arith}
use Rattle.std.proofs.lemmas.List.{append-nil, map-append, take_more, get_or_read, length-map, length-take-le}
use Rattle.line_base.specs.Roomy.{RoomyLog, RoomyLogs}
use Rattle.station_step.specs.Shelf.{log_on}
use Rattle.line_worker.specs.Logs.{copy_with, dates_in}
use Rattle.line_worker.proofs.logs.copy_logs.Goals as goal
use Rattle.line_worker.proofs.logs.copy_logs.Goals.{After-dates}

-- a list of logs with others in it
with_logs : RoomyLogs → List RoomyLog → RoomyLogs
with_logs list logs = record list { logs = logs }

-- one copy more
one_more : (old now new : RoomyLogs) (logs : List RoomyLog) (room i : ℕ) (copy : RoomyLog) → i < length logs → now ≡ record old { logs = old.logs ++ map (copy_with room) (take i logs) } → copy ≡ copy_with room (log_on logs i) → new ≡ record now { logs = now.logs ++ copy ∷ [] } → new ≡ record old { logs = old.logs ++ map (copy_with room) (take (i + 1) logs) }
one_more old now new logs room i copy low at is grown =
    let before : List RoomyLog = map (copy_with room) (take i logs) in
    let more : map (copy_with room) (take (i + 1) logs) ≡ before ++ copy ∷ [] =
    ap (map (copy_with room)) (take_more logs i (record { dates = []; room = 0 }) low)
    ∙ map-append (copy_with room) (take i logs) (log_on logs i ∷ [])
    ∙ ap (λ (l : RoomyLog). before ++ l ∷ []) (sym is) in
    grown
    ∙ ap (λ (l : RoomyLogs). (let r : RoomyLogs = record l { logs = l.logs ++ copy ∷ [] } in r)) at
    ∙ ap (λ (l : List RoomyLog). (let r : RoomyLogs = record old { logs = l } in r)) (append_assoc old.logs before (copy ∷ []) ∙ ap (λ (l : List RoomyLog). old.logs ++ l) (sym more))

-- the log whose turn it is
there : (c : After-dates) → c.loop-log.log-index < length c.args.copied.now.items
there c = omega (arith, c.loop-log-test.true, ap length c.deref-log-items.ensures.value)

here : (c : After-dates) → c.log-item.result ≡ log_on c.args.copied.now.items c.loop-log.log-index
here c =
    let copied = c.args.copied.now.items in
    let log = c.log-item.result in
    let is : log ≡ get_or copied c.loop-log.log-index log = cc in
    get_or_read copied c.loop-log.log-index log (there c) is (record { dates = []; room = 0 })

pub loop-log-init : goal.loop-log-init
loop-log-init c =
    let logs = c.args.logs.now in
    ap (λ (l : List RoomyLog). (let r : RoomyLogs = record logs { logs = l } in r)) (sym (append-nil logs.logs))

pub loop-log-preserved : goal.loop-log-preserved
loop-log-preserved c =
    let from = (goal.at.loop-log-preserved c).After-dates in
    one_more c.args.logs.now c.loop-log.logs c.add.new.self c.args.copied.now.items c.args.room c.loop-log.log-index c.in_ok-log_with.field-0 (there from) c.loop-log.invariant
    (c.in_ok-log_with.ensures
    ∙ ap (λ (d : List ℕ). (let l : RoomyLog = record { dates = d; room = c.args.room } in l)) (c.dates.ensures ∙ ap (λ (l : RoomyLog). l.dates) (here from)))
    c.add.ensures

pub log_with-requires : goal.log_with-requires
log_with-requires c =
    omega (arith, ap length c.dates.ensures, ap dates_in (here c), c.requires.few c.loop-log.log-index (there c))

pub add-requires : goal.add-requires
add-requires c =
    let from = (goal.at.add-requires c).After-dates in
    let old = c.args.logs.now in
    let logs = c.args.copied.now.items in
    let done : List RoomyLog = map (copy_with c.args.room) (take c.loop-log.log-index logs) in
    omega (
      arith,
      c.requires.fits,
      there from,
      ap (λ (l : RoomyLogs). length l.logs) c.loop-log.invariant,
      ap (λ (l : RoomyLogs). l.room) c.loop-log.invariant,
      length-append old.logs done,
      length-map (take c.loop-log.log-index logs) (copy_with c.args.room),
      length-take-le c.loop-log.log-index logs (omega (arith, there from)),
    )
