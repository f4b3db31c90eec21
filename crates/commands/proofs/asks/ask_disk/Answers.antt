use Rattle.commands.proofs.asks.ask_disk.Goals as goal

pub returns-in-RunSlots : goal.returns-in-RunSlots
returns-in-RunSlots g c = rw c.in-RunSlots.is c.run_with_slots.ensures

pub returns-in-ResumeSlots : goal.returns-in-ResumeSlots
returns-in-ResumeSlots g c = rw c.in-ResumeSlots.is c.resume_slots.ensures
