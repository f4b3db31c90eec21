use Rattle.std.proofs.Common.{◌≡◌}
use Rattle.checkpoint.proofs.ReadTokens.{ArePartlyCompared}
use Rattle.checkpoint.proofs.tokens.compare_dates.Given as goal

abbrev pub invariant-loop-k : goal.invariant-loop-k
invariant-loop-k l = record {
  compared : ArePartlyCompared l.format l.a l.count l.initial.tokens l.initial.reader.rest l.initial.noted l.before l.k l.reader.rest l.tokens l.noted;
  text : l.reader.text ≡ l.initial.reader.text;
}
