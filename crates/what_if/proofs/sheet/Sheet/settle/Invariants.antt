use Rattle.std.proofs.Common.{◌≡◌}
use Rattle.what_if.specs.Sheet.{date_count}
use Rattle.what_if.proofs.SettledDates.{IsNext, left_from}
use Rattle.what_if.proofs.sheet.Sheet.settle.Given as goal

abbrev pub invariant-loop-next : goal.invariant-loop-next
invariant-loop-next l = record {
  settled : IsNext l.initial.self l.self l.next;
  made_for : l.live ≡ l.self.live;
}

abbrev pub decreases-loop-next : goal.decreases-loop-next
decreases-loop-next l = left_from (date_count l.live.graph) l.next
