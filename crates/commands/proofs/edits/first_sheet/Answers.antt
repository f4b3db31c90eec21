use Rattle.commands.proofs.EditAnswers.{first_sheet}
use Rattle.commands.proofs.edits.first_sheet.Goals as goal

pub returns : goal.returns
returns c =
    first_sheet c.args.live.now c.in_ok-table.table.rows c.new-sheet.result c.new-sheet.ensures.begun
    c.in_ok-table.ensures.least
