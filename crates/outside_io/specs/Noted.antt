-- What a store notes of the calls that it got.
use Rattle.outside_io.specs.Calls.{Asked}
use Rattle.outside_io.specs.declared.calls.Calls.{Calls}

-- all reads and all writes that were noted
abbrev pub asked_of : Calls → Asked
asked_of calls = record { reads = calls.reads.items; writes = calls.writes.items }
