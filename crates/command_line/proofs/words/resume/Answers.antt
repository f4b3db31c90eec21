use Rattle.std.proofs.Common.{◌≡◌, true}
use Rattle.line_base.specs.Text.{is_checkpoint_name}
use Rattle.command_line.specs.Words.{after_resume}
use Rattle.command_line.proofs.words.resume.Goals as goal

pub returns-then-is_checkpoint_name : goal.returns-then-is_checkpoint_name
unfolding after_resume
returns-then-is_checkpoint_name c =
    let named : is_checkpoint_name c.in-Some.word.now ≡ true = cc in
    rw (c.in-Some.ensures.parts, named) c.resume_file.ensures
