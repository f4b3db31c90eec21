use Rattle.std.proofs.Common.{◌≡◌, ◌++◌, false, take}
use Rattle.csv.specs.Records.{fields_of}
use Rattle.demand_feed.specs.Rows.{lacks_number, numbers_of}
use Rattle.demand_feed.proofs.row.add_numbers.Given as goal

abbrev pub invariant-loop-column : goal.invariant-loop-column
invariant-loop-column l = record {
  whole : lacks_number (take l.column-index l.used) l.most (fields_of l.row) ≡ false;
  added : l.numbers.items ≡ l.initial.numbers.items ++ numbers_of (take l.column-index l.used) l.most (fields_of l.row);
}
