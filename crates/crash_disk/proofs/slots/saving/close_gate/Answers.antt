use Rattle.std.proofs.Common.{◌≡◌, ◌≢◌, ℕ, refl, arith}
use Rattle.std.proofs.lemmas.Bool.{not-false, not-true}
use Rattle.crash_disk.specs.DiskView.{held_now}
use Rattle.crash_disk.specs.Crash.{SameContent, bytes_now}
use Rattle.crash_disk.proofs.Push.{on_ok}
use Rattle.crash_disk.proofs.Moments.{leaves_here}
use Rattle.crash_disk.proofs.Phases.{closing, closed_ready, settled_content}
use Rattle.crash_disk.specs.Layout.{start_of}
use Rattle.crash_disk.proofs.SaveCalls.{closed_already, closes_open}
use Rattle.crash_disk.proofs.Outside.{start_low, outside_within}
use Rattle.crash_disk.proofs.slots.saving.close_gate.Goals as goal

shut : (gate : ℕ) → gate ≡ 0 → gate ≢ 1
shut gate is = omega arith

pub returns-then-not-target-clause-harmless : goal.returns-then-not-target-clause-harmless
returns-then-not-target-clause-harmless g c = record {
  any_moment = λ known.
      leaves_here (g.D.Disk.shown c.args.disk.now) (SameContent (bytes_now (g.D.Disk.shown c.args.disk.now)) c.args.room)
      (λ image left. settled_content (held_now (g.D.Disk.shown c.args.disk.now)) image c.args.room (c.requires.ready known).settled left);
  outside_stays = λ known i behind. refl;
}

pub returns-clause-harmless : goal.returns-clause-harmless
returns-clause-harmless g c =
    let old = g.D.Disk.shown c.args.disk.now in
    let new = g.D.Disk.shown c.write_gate.new.disk in
    record {
      any_moment = λ known. closing old new c.args.room c.args.target (c.requires.ready known) (c.requires.gate known) (not-false _ c.if-not-target.false) (c.write_gate.ensures.within known);
      outside_stays = outside_within g.D.Disk.tells c.args.room (start_of c.args.room c.args.target.slot) 1 old new c.write_gate.ensures.within (omega (arith, start_low c.args.room c.args.target.slot));
    }

pub returns-clause-ready : goal.returns-clause-ready
returns-clause-ready g c = on_ok c.write_gate.result c.write_gate.ensures.stands (λ stands known.
    closed_ready (g.D.Disk.shown c.args.disk.now) (g.D.Disk.shown c.write_gate.new.disk) c.args.room c.args.target (c.requires.ready known) (c.requires.gate known) (not-false _ c.if-not-target.false) (c.write_gate.ensures.within known) (stands known))

pub returns-clause-closed : goal.returns-clause-closed
returns-clause-closed g c = on_ok c.write_gate.result c.write_gate.ensures.gate (λ gate known. shut _ (gate known))

pub returns-clause-closed_by_zero : goal.returns-clause-closed_by_zero
returns-clause-closed_by_zero g c = on_ok c.write_gate.result c.write_gate.ensures.gate (λ gate was_open known. gate known)

pub returns-then-not-target-clause-asks : goal.returns-then-not-target-clause-asks
returns-then-not-target-clause-asks g c =
    closed_already (start_of c.args.room c.args.target.slot) c.args.target.gate_is_open (g.D.Disk.shown c.args.disk.now) (not-true _ c.if-not-target.true)

pub returns-clause-asks : goal.returns-clause-asks
returns-clause-asks g c =
    closes_open (start_of c.args.room c.args.target.slot) c.args.target.gate_is_open (g.D.Disk.shown c.args.disk.now) (g.D.Disk.shown c.write_gate.new.disk) c.write_gate.result (not-false _ c.if-not-target.false) c.write_gate.ensures.asks
