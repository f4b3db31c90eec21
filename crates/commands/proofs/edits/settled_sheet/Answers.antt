use Rattle.std.proofs.Common.{inl}
use Rattle.commands.proofs.EditAnswers.{page_settled, line_refused}
use Rattle.commands.proofs.edits.settled_sheet.Goals as goal

pub returns-in-Err-clause-refused : goal.returns-in-Err-clause-refused
returns-in-Err-clause-refused c =
    inl
    (line_refused c.args.live.now c.args.edits.now c.in_ok-sheet.sheet c.in_ok-sheet.ensures.begun c.in-Err.refused
    c.follow_edits.new.sheet.inputs c.from.result c.in-Err.ensures.refused c.from.ensures)

pub returns-in-Ok-clause-settled : goal.returns-in-Ok-clause-settled
returns-in-Ok-clause-settled c =
    page_settled c.args.live.now c.args.edits.now c.in_ok-sheet.sheet c.in_ok-sheet.ensures.begun
    c.follow_edits.new.sheet c.settle.new.self c.in_ok-sheet.ensures.least c.follow_edits.ensures.dates
    c.in-Ok.ensures.followed c.settle.ensures.solved c.settle.ensures.inputs
