use Rattle.std.proofs.Common.{◌≡◌}
use Rattle.checkpoint.proofs.ReadDates.{ArePartlyKept}
use Rattle.checkpoint.proofs.log.read_dates.Given as goal

abbrev pub invariant-loop-number : goal.invariant-loop-number
invariant-loop-number l = record {
  kept : ArePartlyKept l.format l.initial.reader.rest l.count l.room l.log.dates l.before l.number l.reader.rest;
  room : l.log.room ≡ l.initial.log.room;
  text : l.reader.text ≡ l.initial.reader.text;
}
