use Rattle.std.proofs.Common.{◌≡◌, ◌+◌, ◌-◌, ◌*◌, ◌≤◌, ◌++◌, length, drop}
use Rattle.checkpoint.specs.Writing.{words_from}
use Rattle.checkpoint.specs.declared.word_room.TheConstants.{MAX_WORD, ROOM}
use Rattle.checkpoint.proofs.word_room.write_words.Given as goal

-- the words of the dates from number `left` on are there
abbrev pub invariant-loop-left : goal.invariant-loop-left
invariant-loop-left l = record {
  size : length l.room ≡ length l.fn.room;
  ordered : l.from ≤ l.left;
  within : l.left ≤ l.to;
  begins : l.at ≤ ROOM;
  wide : ROOM + l.left * MAX_WORD ≤ l.at + l.to * MAX_WORD;
  written : drop l.at l.room ++ words_from l.dates l.to ≡ words_from l.dates l.left;
}

abbrev pub decreases-loop-left : goal.decreases-loop-left
decreases-loop-left l = l.left - l.from
