-- What the error of a disk is to the caller of a save.
use Rattle.crash_disk.specs.declared.disk.DiskError.{DiskError}
use Rattle.crash_disk.specs.declared.disk.DiskError.TheVariants as disk
use Rattle.crash_disk.specs.declared.slots.error.SlotError.{SlotError}
use Rattle.crash_disk.specs.declared.slots.error.SlotError.TheVariants.{DiskFault, NoMemory}

-- a failed call of the disk is a fault, and out of memory stays so
abbrev pub error_of : DiskError → SlotError
error_of disk.Failed = DiskFault
error_of disk.NoMemory = NoMemory
