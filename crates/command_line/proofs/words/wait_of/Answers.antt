use Rattle.std.proofs.Common.{refl, sym}
use Rattle.command_line.specs.Words.{with_wait}
use Rattle.command_line.proofs.words.wait_of.Goals as goal

pub returns-in_err-word-clause-read : goal.returns-in_err-word-clause-read
unfolding with_wait
returns-in_err-word-clause-read c = λ asks. rw (c.from_residual.ensures, c.in_err-word.ensures.parts) refl

pub returns-in_err-wait-clause-read : goal.returns-in_err-wait-clause-read
unfolding with_wait
returns-in_err-wait-clause-read c = λ asks.
    rw (c.from_residual-in_err-wait.ensures, c.in_ok-word.ensures.parts, ← c.in_err-wait.ensures.read) refl

pub returns-clause-read : goal.returns-clause-read
unfolding with_wait
returns-clause-read c = λ asks. rw (c.in_ok-word.ensures.parts, ← c.in_ok-wait.ensures.read) refl
