use Rattle.std.proofs.Common.{◌≡◌, take, drop, map, ap, sym, ◌∙◌, subst}
use Rattle.crash_disk.specs.DiskView.{MayLeave, Image}
use Rattle.crash_disk.specs.Memory.{span_of, first_held, settled_count, in_effect, left_by, spans_left}
use Rattle.crash_disk.specs.MemDisk.{calls_during, held_during}
use Rattle.crash_disk.proofs.Replay.{crash_bytes, crash_may_leave, no_calls}
use Rattle.crash_disk.proofs.mem_disk.MemDisk.crash.Goals as goal

pub returns-clause-image : goal.returns-clause-image
returns-clause-image c =
    let disk = c.args.self.now in
    let made = calls_during disk c.args.call in
    let left : map span_of c.in_ok-patches_left.field-0.items ≡ spans_left disk.first.items made c.args.pick =
    c.in_ok-patches_left.ensures
    ∙ ap (λ first. spans_left first (take c.in_effect.result (take c.args.call c.deref.result.now)) c.args.pick) c.deref-2.ensures.value
    ∙ ap (λ n. spans_left disk.first.items (take n (take c.args.call c.deref.result.now)) c.args.pick) c.in_effect.ensures.count
    ∙ ap (λ calls. spans_left disk.first.items (take (in_effect (take c.args.call calls)) (take c.args.call calls)) c.args.pick) c.deref.ensures.value in
    no_calls c.in_ok-patches_left.field-0.items c.new.result.items c.new.ensures.items
    ∙ crash_bytes c.in_ok-patches_left.field-0.items disk.first.items (take (settled_count made) made) (left_by c.args.pick (drop (settled_count made) made)) left

pub returns-clause-may_be_left : goal.returns-clause-may_be_left
returns-clause-may_be_left c =
    let disk = c.args.self.now in
    let made = calls_during disk c.args.call in
    subst (λ (image : Image). MayLeave (held_during disk c.args.call) image) (sym (returns-clause-image c)) (crash_may_leave (first_held disk.first.items) made c.args.pick)
