use Rattle.crash_disk.proofs.mem_disk.MemDiskDisk.write_at.Goals as goal

pub returns-clause-counted : goal.returns-clause-counted
returns-clause-counted c = λ memory.
    let counts = c.answer_write-answer.ensures.counted memory in
    record { patch = counts.patch; at = counts.at; bytes = counts.bytes; counted = counts.counted }
