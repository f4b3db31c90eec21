use Rattle.crash_disk.specs.DiskView.{held_now}
use Rattle.crash_disk.proofs.Moments.{sync_leaves}
use Rattle.crash_disk.proofs.Push.{on_ok}
use Rattle.crash_disk.proofs.Calls.{settled_by}
use Rattle.crash_disk.proofs.Outside.{synced_bytes}
use Rattle.crash_disk.proofs.slots.finding.settle.Goals as goal

pub returns-clause-bytes_stay : goal.returns-clause-bytes_stay
returns-clause-bytes_stay g c =
    synced_bytes c.sync.result g.D.Disk.tells (held_now (g.D.Disk.shown c.args.disk.now)) (held_now (g.D.Disk.shown c.sync.new.self)) c.sync.ensures.synced c.sync.ensures.stays

pub returns-clause-any_moment : goal.returns-clause-any_moment
returns-clause-any_moment g c = λ known.
    sync_leaves (g.D.Disk.shown c.args.disk.now) (g.D.Disk.shown c.sync.new.self) c.sync.result c.sync.ensures.synced c.sync.ensures.stays c.sync.ensures.time known

pub returns-clause-settled : goal.returns-clause-settled
returns-clause-settled g c = on_ok c.sync.result c.sync.ensures.synced (λ synced known.
    settled_by (held_now (g.D.Disk.shown c.args.disk.now)) (held_now (g.D.Disk.shown c.sync.new.self)) (synced known))
