use Rattle.std.proofs.Common.{refl, ap}
use Rattle.std.specs.Prelude.{Err}
use Rattle.command_line.specs.Options.{texts}
use Rattle.command_line.specs.Words.{command_of}
use Rattle.pull_cli.proofs.CommandAnswers.{memory_answers, memory_is_no_usage}
use Rattle.pull_cli.proofs.top.command_in.Goals as goal

pub returns-in-Err-Usage-clause-none : goal.returns-in-Err-Usage-clause-none
returns-in-Err-Usage-clause-none c = rw (c.in-Err-Usage.ensures.usage.0 (ap Err c.in-Err-Usage.field-0-is)) refl

pub returns-in-Err-NoMemory-clause-none : goal.returns-in-Err-NoMemory-clause-none
returns-in-Err-NoMemory-clause-none c =
    memory_answers (command_of (texts c.args.words.now))
    (λ none. memory_is_no_usage c.in-Err-NoMemory.field-0
    (Err c.in-Err-NoMemory.field-0) c.in-Err-NoMemory.field-0-is refl (c.in-Err-NoMemory.ensures.usage.1 none))
