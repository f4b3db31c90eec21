use Rattle.std.proofs.Common.{◌≡◌, ◌-◌, ◌≤◌, ◌++◌, length}
use Rattle.checkpoint.specs.Writing.{words_from}
use Rattle.checkpoint.proofs.word_room.put_by_room.Given as goal

-- what is written, with the words of the dates from number `from` on, is the whole
abbrev pub invariant-loop-from : goal.invariant-loop-from
invariant-loop-from l = record {
  size : length l.room ≡ length l.fn.room;
  within : l.from ≤ l.count;
  written : l.text.items ++ words_from l.dates l.from ≡ l.initial.text.items ++ words_from l.dates l.first;
}

abbrev pub decreases-loop-from : goal.decreases-loop-from
decreases-loop-from l = l.count - l.from
