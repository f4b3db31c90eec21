use Rattle.std.proofs.Common.{◌∙◌, refl, arith}
use Rattle.checkpoint.proofs.ReadDates.{next_missing, left_after_all}
use Rattle.checkpoint.proofs.ReadTokens.{compared_none, compared_next, compared_all}
use Rattle.checkpoint.proofs.tokens.compare_dates.Goals as goal

pub loop-k-init : goal.loop-k-init
loop-k-init c = record {
  compared = compared_none c.args.format c.args.a c.args.count c.args.left c.args.reader.now.rest c.args.noted.now;
  text = refl;
}

pub returns-in_default-clause-tells : goal.returns-in_default-clause-tells
returns-in_default-clause-tells c dates after given counted ends is =
    absurd (next_missing _ _ _ _ _ _ _ c.loop-k.invariant.compared.partly c.read_date.new.reader.rest c.loop-k-test.true c.in_default.ensures.tells dates after given counted ends is)

pub loop-k-preserved : goal.loop-k-preserved
loop-k-preserved c = record {
  compared = compared_next _ _ _ _ _ _ _ _ _ _ _ c.loop-k.invariant.compared c.in-Some.have c.next_date.result c.read_date.new.reader.rest c.next_date.new.tokens c.note_token.new.noted c.loop-k-test.true c.in-Some.ensures.given c.in-Some.ensures.read c.in-Some.ensures.tells c.next_date.ensures.date c.next_date.ensures.rest c.note_token.ensures;
  text = c.in-Some.ensures.text ∙ c.loop-k.invariant.text;
}

pub returns-clause-read : goal.returns-clause-read
returns-clause-read c _ = compared_all _ _ _ _ _ _ _ _ _ _ _ c.loop-k.invariant.compared (omega arith)

pub returns-clause-tells : goal.returns-clause-tells
returns-clause-tells c dates after given counted ends is =
    (refl, left_after_all _ _ _ _ _ _ _ c.loop-k.invariant.compared.partly (omega arith) dates after given counted ends is)
