-- Texts that go to a sink one after another, each whole or a prefix of it.
use Rattle.std.proofs.Common.{ℕ, ◌≤◌, List, ◌++◌, arith}
use Rattle.std.specs.Prelude.{Result, Ok, Err}
use Rattle.outside_io.proofs.WrittenLemmas.{puts_all_after, puts_prefix_after, puts_prefix_longer}
use Rattle.outside_io.specs.SinkView.{SinkView, PutsAll, WritesText}
use Rattle.outside_io.specs.declared.sink.Failed.{Failed}
use Rattle.answers.specs.Put.{BytesArePut, whole_of}

-- a text, and then another
pub writes_after : {T E : Type 0} {a b c : SinkView} (xs ys : List ℕ) (r : Result T E) → PutsAll a b xs → a.faults ≤ b.faults → WritesText b c ys r → WritesText a c (xs ++ ys) r
writes_after xs ys (Ok done) first rise next = record {
  written = puts_all_after _ _ _ xs ys first next.written;
  prefix = tt;
  cause = tt;
  faults_stay_or_rise = omega (arith, rise, next.faults_stay_or_rise);
}
writes_after xs ys (Err error) first rise next = record {
  written = tt;
  prefix = puts_prefix_after _ _ _ xs ys first next.prefix;
  cause = omega (arith, rise, next.cause);
  faults_stay_or_rise = omega (arith, rise, next.faults_stay_or_rise);
}

-- a text that broke off, before another
pub breaks_off : {T E : Type 0} {a b : SinkView} (xs ys : List ℕ) (error : E) → WritesText {T = T} a b xs (Err error) → WritesText {T = T} a b (xs ++ ys) (Err error)
breaks_off xs ys error broke = record {
  written = tt;
  prefix = puts_prefix_longer _ _ xs ys broke.prefix;
  cause = broke.cause;
  faults_stay_or_rise = broke.faults_stay_or_rise;
}

-- bytes that were written, as the answer to that
pub bytes_put : {a b : SinkView} (bytes : List ℕ) (r : Result (Unit {0}) Failed) → WritesText a b bytes r → BytesArePut bytes a b (whole_of r)
bytes_put bytes (Ok done) put = record {
  text = record { written = put.written; prefix = tt; cause = tt; faults_stay_or_rise = put.faults_stay_or_rise };
  memory = λ none. cc;
}
bytes_put bytes (Err failed) put = record {
  text = record { written = tt; prefix = put.prefix; cause = put.cause; faults_stay_or_rise = put.faults_stay_or_rise };
  memory = λ none. cc;
}
