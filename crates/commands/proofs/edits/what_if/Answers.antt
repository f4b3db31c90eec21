use Rattle.commands.proofs.EditAnswers.{edits_followed, edits_refused}
use Rattle.commands.proofs.edits.what_if.Goals as goal

pub returns-in-Err : goal.returns-in-Err
returns-in-Err c =
    edits_refused c.args.line.plant c.args.line.live.graph c.args.edits.now c.requires.graph c.in-Err.refusal
    c.in-Err.ensures.refused

pub returns-in_ok-changes-in-Ok : goal.returns-in_ok-changes-in-Ok
returns-in_ok-changes-in-Ok c =
    edits_followed c.args.line.plant c.args.line.live.graph c.args.edits.now c.requires.graph c.in-Ok.sheet
    c.in_ok-changes-in-Ok.changes c.in-Ok.ensures.settled c.in_ok-changes-in-Ok.ensures
