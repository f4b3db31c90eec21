use Rattle.std.proofs.Common.{arith}
use Rattle.crash_disk.specs.Crash.{bytes_now, staged_in}
use Rattle.crash_disk.proofs.Phases.{opening, opened, on_both}
use Rattle.crash_disk.specs.Layout.{start_of}
use Rattle.crash_disk.proofs.Outside.{start_low, outside_within}
use Rattle.crash_disk.proofs.slots.saving.open_gate.Goals as goal

pub returns-clause-any_moment : goal.returns-clause-any_moment
returns-clause-any_moment g c = λ known.
    let start = g.D.Disk.shown c.args.disk.now in
    opening start (g.D.Disk.shown c.write_gate.new.disk) c.args.room c.args.target (staged_in (bytes_now start) c.args.room c.args.target) (c.requires.ready known) (c.requires.staged known) (c.requires.fits known) (c.write_gate.ensures.within known)

pub returns-clause-saved : goal.returns-clause-saved
returns-clause-saved g c = on_both c.write_gate.result c.write_gate.ensures.stands c.write_gate.ensures.gate (λ stands gate known.
    let start = g.D.Disk.shown c.args.disk.now in
    opened start (g.D.Disk.shown c.write_gate.new.disk) c.args.room c.args.target (staged_in (bytes_now start) c.args.room c.args.target) (c.requires.ready known) (c.requires.staged known) (c.requires.fits known) (c.write_gate.ensures.within known) (stands known) (gate known))

pub returns-clause-outside_stays : goal.returns-clause-outside_stays
returns-clause-outside_stays g c =
    outside_within g.D.Disk.tells c.args.room (start_of c.args.room c.args.target.slot) 1 (g.D.Disk.shown c.args.disk.now) (g.D.Disk.shown c.write_gate.new.disk) c.write_gate.ensures.within (omega (arith, start_low c.args.room c.args.target.slot))
