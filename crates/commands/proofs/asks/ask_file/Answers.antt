use Rattle.commands.proofs.asks.ask_file.Goals as goal

pub resume-requires-clause-workers : goal.resume-requires-clause-workers
resume-requires-clause-workers g c = λ κs within. rw c.in-Resume.is at c.requires.range
