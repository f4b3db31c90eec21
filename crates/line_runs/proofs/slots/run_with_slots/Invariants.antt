use Rattle.std.proofs.Common.{◌≡◌}
use Rattle.checkpoint.specs.Kept.{Follows}
use Rattle.crash_disk.specs.declared.slots.head.TheConstants.{MAX_ROOM}
use Rattle.line_runs.proofs.Firings.{left_of}
use Rattle.line_runs.proofs.RunSaves.{SavesOn}
use Rattle.line_runs.proofs.slots.run_with_slots.Given as goal

abbrev pub invariant-loop-alloc : goal.invariant-loop-alloc
invariant-loop-alloc g l = record {
  made_for : l.live ≡ l.line.live;
  follows : Follows l.line.live.graph l.line.state l.last.kept;
  on : SavesOn g.D.Disk.tells MAX_ROOM l.every l.initial.line l.line l.last.fired (g.D.Disk.shown l.initial.disk) (g.D.Disk.shown l.disk);
}

abbrev pub decreases-loop-alloc : goal.decreases-loop-alloc
decreases-loop-alloc g l = left_of l.line
