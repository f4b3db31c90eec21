use Rattle.std.proofs.Common.{◌≡◌, Bool, not, ap, ◌∙◌, ◌++◌, ◌∷◌, []}
use Rattle.crash_disk.specs.DiskView.{held_now}
use Rattle.crash_disk.specs.Memory.{after_call}
use Rattle.crash_disk.specs.MemDisk.{mem_view}
use Rattle.crash_disk.specs.declared.mem_disk.MemDisk.{MemDisk}
use Rattle.crash_disk.specs.declared.patch.DiskCall.TheVariants as call
use Rattle.crash_disk.proofs.Push.{on_done, on_failed}
use Rattle.crash_disk.proofs.mem_disk.MemDiskDisk.sync.Goals as goal

-- what the disk holds after a sync that was done or not
abbrev Leaves : MemDisk → MemDisk → Bool → Type 0
Leaves old new done = held_now (mem_view new) ≡ after_call (held_now (mem_view old)) (call.Sync done)

pub returns-clause-synced : goal.returns-clause-synced
returns-clause-synced c = on_done (Leaves c.args.self.now c.count_call-answer.new.self) (not c.is_due-failed.result) c.count_call-answer.result c.count_call-answer.ensures.done_unless_failed c.count_call-answer.ensures.held

pub returns-clause-stays : goal.returns-clause-stays
returns-clause-stays c = on_failed (Leaves c.args.self.now c.count_call-answer.new.self) (not c.is_due-failed.result) c.count_call-answer.result c.count_call-answer.ensures.done_unless_failed c.count_call-answer.ensures.held c.count_call-answer.ensures.no_memory

pub returns-clause-counted : goal.returns-clause-counted
returns-clause-counted c = λ memory.
    c.count_call-answer.ensures.counted memory
    ∙ ap (λ done. c.args.self.now.calls.items ++ call.Sync done ∷ []) (c.count_call-answer.ensures.done_unless_failed memory)
