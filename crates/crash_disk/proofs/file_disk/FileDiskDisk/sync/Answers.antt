use Rattle.std.proofs.Common.{◌∙◌}
use Rattle.crash_disk.proofs.CountFault.{on_ok_counted, on_err_is, same_refusal, never_memory}
use Rattle.crash_disk.proofs.RawModel.{passes_with}
use Rattle.crash_disk.proofs.file_disk.FileDiskDisk.sync.Goals as goal

pub returns-clause-time : goal.returns-clause-time
returns-clause-time g c = λ known.
    passes_with (g.F.RawFile.shown c.args.self.now.file) (g.F.RawFile.shown c.sync_file-answer.new.file) _ _ _ _ (c.sync_file-answer.ensures.time known)

pub returns-clause-breaks : goal.returns-clause-breaks
returns-clause-breaks g c =
    c.is_err-self.ensures.value ∙ same_refusal c.sync_file-answer.result c.count_fault-answer.result c.count_fault-answer.ensures.same

pub returns-clause-synced : goal.returns-clause-synced
returns-clause-synced g c =
    on_ok_counted _ c.sync_file-answer.result c.count_fault-answer.result c.count_fault-answer.ensures.same c.sync_file-answer.ensures.synced

pub returns-clause-never_no_memory : goal.returns-clause-never_no_memory
returns-clause-never_no_memory g c = never_memory c.count_fault-answer.result c.count_fault-answer.ensures.failed

pub returns-clause-memory_is_no_fault : goal.returns-clause-memory_is_no_fault
returns-clause-memory_is_no_fault g c = λ memory.
    absurd (never_memory c.count_fault-answer.result c.count_fault-answer.ensures.failed memory)

pub returns-clause-cause : goal.returns-clause-cause
returns-clause-cause g c = λ failed. on_err_is c.count_fault-answer.result _ failed c.count_fault-answer.ensures.cause

pub returns-clause-once : goal.returns-clause-once
returns-clause-once g c = λ failed. on_err_is c.count_fault-answer.result _ failed c.count_fault-answer.ensures.once
