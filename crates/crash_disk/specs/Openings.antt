-- What the machine answers where a file is to be opened.
use Rattle.std.specs.Prelude.{Result, Ok, Err, if◌then◌else◌}
use Rattle.std.specs.declared.io.ErrorKind.{ErrorKind}
use Rattle.outside_io.specs.RawFiles.{is_absent}
use Rattle.crash_disk.specs.declared.opening.Opening.{Opening}
use Rattle.crash_disk.specs.declared.opening.Opening.TheVariants.{Opened, Absent, Refused}

-- it is open; it isn't there; or it was refused for any other reason
abbrev pub opening_by : Result (Unit {0}) ErrorKind → Opening
opening_by (Ok done) = Opened
opening_by (Err kind) = if is_absent kind then Absent else Refused
