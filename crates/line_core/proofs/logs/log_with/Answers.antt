use Rattle.std.proofs.Common.{ℕ, ◌≤◌, List, length, get_or, sym, ap, ◌∙◌, arith}
use Rattle.std.proofs.lemmas.List.{take_all, take_more}
use Rattle.line_base.specs.Roomy.{RoomyLog, with_date}
use Rattle.line_core.proofs.logs.log_with.Goals as goal

pub loop-date-preserved : goal.loop-date-preserved
loop-date-preserved c =
    let dates = c.args.dates.now in
    let i = c.loop-date.date-index in
    let with_room : List ℕ → RoomyLog = λ ds. record { dates = ds; room = c.args.room } in
    c.add.ensures
    ∙ ap (λ (log : RoomyLog). with_date log (get_or dates i 0)) c.loop-date.invariant
    ∙ ap with_room (sym (take_more dates i 0 c.loop-date-test.true))

pub returns : goal.returns
returns c =
    let dates = c.args.dates.now in
    let all : length dates ≤ c.loop-date.date-index = omega (arith, c.loop-date-test.false) in
    let with_room : List ℕ → RoomyLog = λ ds. record { dates = ds; room = c.args.room } in
    c.loop-date.invariant ∙ ap with_room (take_all c.loop-date.date-index dates all)
