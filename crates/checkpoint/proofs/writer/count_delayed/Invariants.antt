use Rattle.std.proofs.Common.{◌≡◌, ◌≤◌, length}
use Rattle.checkpoint.proofs.WrittenTexts.{delayed_below}
use Rattle.checkpoint.proofs.writer.count_delayed.Given as goal

abbrev pub invariant-loop-a : goal.invariant-loop-a
invariant-loop-a l = record {
  counted : l.count ≡ length (delayed_below l.graph l.a);
  few : l.count ≤ l.a;
}
