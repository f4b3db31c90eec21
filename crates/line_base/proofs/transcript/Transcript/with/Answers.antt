use borrow.Author.Rules.{rules, lives}
use Rattle.line_base.proofs.transcript.Transcript.with.Goals as goal

-- the list and the piece live as long as the call
pub of-requires : goal.of-requires
of-requires g c κs within = search (rules, lives, within) depth 24 fits 20000
