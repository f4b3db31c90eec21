use Rattle.std.proofs.Common.{◌≡◌, ◌+◌, ◌-◌, arith}
use Rattle.std.proofs.lemmas.List.{drop-set}
use Rattle.checkpoint.proofs.word_room.write_front.Goals as goal

pub returns-clause-written : goal.returns-clause-written
returns-clause-written c =
    let e : c.args.at - 1 + 1 ≡ c.args.at = omega arith in
    rw (drop-set c.args.room.now (c.args.at - 1) _ (omega arith), e)
