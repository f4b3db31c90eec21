use Rattle.pull_cli.proofs.CommandSteps.{file_answered, no_file}
use Rattle.pull_cli.proofs.actions.ask_with.Goals as goal

pub returns-in-Ok : goal.returns-in-Ok
returns-in-Ok g c =
    file_answered c.args.file.now c.args.question c.args.line.plant c.in-Ok.bytes c.ask_file.result
    c.in-Ok.ensures.makes
    (rw c.as_slice.ensures at c.ask_file.ensures.answers) c.ask_file.ensures.inside

pub returns-in-Err : goal.returns-in-Err
returns-in-Err g c = no_file c.args.file.now c.args.question c.args.line.plant c.in-Err.refusal c.in-Err.ensures.makes
