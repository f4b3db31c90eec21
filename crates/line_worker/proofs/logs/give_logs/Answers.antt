use Rattle.std.proofs.Common.{List, [], ◌∷◌, ◌++◌, length, sym, ap, ◌∙◌, append_assoc, length-append, arith}
use Rattle.std.specs.Vec.Iter.{into_iter_items}
use Rattle.line_base.specs.Roomy.{RoomyLog, RoomyLogs}
use Rattle.line_worker.proofs.logs.give_logs.Goals as goal

pub loop-log-preserved : goal.loop-log-preserved
loop-log-preserved c =
    let old = c.args.logs.now in
    let given = c.loop-log.yielded in
    let log = c.in-Some.log in
    record {
      given =
          c.add.ensures
          ∙ ap (λ (l : RoomyLogs). (let r : RoomyLogs = record l { logs = l.logs ++ log ∷ [] } in r)) c.loop-log.invariant.given
          ∙ ap (λ (l : List RoomyLog). (let r : RoomyLogs = record old { logs = l } in r)) (append_assoc old.logs given (log ∷ []));
      left =
          append_assoc given (log ∷ []) (into_iter_items c.next.new.self)
          ∙ ap (λ (l : List RoomyLog). given ++ l) (sym c.in-Some.ensures.steps.0)
          ∙ c.loop-log.invariant.left;
    }

pub add-requires : goal.add-requires
add-requires c =
    let given = c.loop-log.yielded in
    let before = c.loop-log.invariant in
    omega (
      arith,
      c.requires,
      ap (λ (l : RoomyLogs). length l.logs) before.given,
      ap (λ (l : RoomyLogs). l.room) before.given,
      length-append c.args.logs.now.logs given,
      ap length before.left,
      length-append given (into_iter_items c.loop-log.log-iterator),
      ap length c.in-Some.ensures.steps.0,
    )
