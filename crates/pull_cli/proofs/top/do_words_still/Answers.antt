use Rattle.command_line.specs.Options.{texts}
use Rattle.command_line.specs.Words.{command_of}
use Rattle.pull_cli.proofs.CommandAnswers.{command_does, no_command_does}
use Rattle.pull_cli.proofs.top.do_words_still.Goals as goal

pub returns-in_err-command : goal.returns-in_err-command
returns-in_err-command g c =
    no_command_does (command_of (texts c.args.words.now)) c.in_err-command.field-0.0 c.from_residual.result
    c.from_residual.ensures.1 c.in_err-command.ensures.none

pub returns : goal.returns
returns g c = command_does c.in_ok-command.ensures.command c.do_still.ensures
