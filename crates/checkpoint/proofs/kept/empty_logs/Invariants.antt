use Rattle.std.proofs.Common.{◌≡◌, ◌≤◌, replicate, vec_capacity, vec_len}
use Rattle.checkpoint.specs.Kept.{no_words}
use Rattle.checkpoint.proofs.kept.empty_logs.Given as goal

abbrev pub invariant-loop : goal.invariant-loop
invariant-loop l = record {
  items : l.logs.items ≡ replicate l.counter no_words;
  count : vec_len l.logs ≡ l.counter;
  room : l.count ≤ vec_capacity l.logs;
}
