use Rattle.std.proofs.Common.{refl, ◌∙◌}
use Rattle.command_line.specs.Options.{texts}
use Rattle.command_line.specs.Words.{run_command}
use Rattle.command_line.proofs.ReadCommands.{asked_for, none_asked, reads, reads_none}
use Rattle.command_line.proofs.words.run.Goals as goal

pub returns-in_default : goal.returns-in_default
returns-in_default c =
    reads_none _ (none_asked (run_command c.args.plant_file.now) (texts c.args.words.now) c.in_default.ensures.asked)

pub returns-in-FromSlots : goal.returns-in-FromSlots
returns-in-FromSlots c =
    reads_none _
    (asked_for (run_command c.args.plant_file.now) (texts c.args.words.now) c.in-Some.settings _ c.in-Some.ensures.asked c.in-FromSlots.is)

pub returns : goal.returns
returns c =
    let asked = asked_for (run_command c.args.plant_file.now) (texts c.args.words.now) c.in-Some.settings _ c.in-Some.ensures.asked refl in
    reads c.in_ok-run_by.field-0 _ (asked ∙ c.in_ok-run_by.ensures.command) c.in_ok-run_by.ensures.range
