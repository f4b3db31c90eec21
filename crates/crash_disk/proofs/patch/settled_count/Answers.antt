use Rattle.std.proofs.Common.{◌+◌, take, ap, sym, ◌∙◌, arith, cond}
use Rattle.crash_disk.specs.Memory.{settled_count}
use Rattle.crash_disk.proofs.Replay.{count_more}
use Rattle.crash_disk.proofs.patch.settled_count.Goals as goal
use Rattle.crash_disk.proofs.patch.settled_count.Goals.{then-settles, else-settles}

pub loop-i-preserved : goal.loop-i-preserved
loop-i-preserved c =
    let more = count_more c.args.calls.now c.loop-i.i c.index-calls-i.result c.loop-i-test.true c.index-calls-i.is in
    let test = c.settles.ensures in
    let so_far = settled_count (take c.loop-i.i c.args.calls.now) in
    elim c.if-settles.branch [
      | then-settles w ↦ (w.count-is ∙ sym (more ∙ ap (λ b. cond b (c.loop-i.i + 1) so_far) (sym test ∙ w.if-settles.true)), omega arith)
      | else-settles w ↦ (w.count-is ∙ c.loop-i.invariant.0 ∙ sym (more ∙ ap (λ b. cond b (c.loop-i.i + 1) so_far) (sym test ∙ w.if-settles.false)), omega arith)
    ]
