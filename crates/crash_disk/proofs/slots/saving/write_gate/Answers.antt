use Rattle.std.proofs.Common.{◌≡◌, ℕ, [], ◌∷◌, ◌++◌, subst, arith}
use Rattle.std.specs.Prelude.{IsTrue, Ok, Err}
use Rattle.crash_disk.specs.DiskView.{Write, Sync, held_now}
use Rattle.crash_disk.specs.Layout.{start_of}
use Rattle.crash_disk.specs.SaveCalls.{WritesOnce, SyncsOnce}
use Rattle.crash_disk.specs.Within.{WritesWithin}
use Rattle.crash_disk.proofs.Push.{on_ok, error_is}
use Rattle.crash_disk.proofs.Calls.{went_nowhere, went_write, went_sync, settled_by}
use Rattle.crash_disk.proofs.SaveCalls.{then_on, then_failed, asks_once}
use Rattle.crash_disk.proofs.Phases.{gate_written}
use Rattle.crash_disk.proofs.slots.saving.write_gate.Given.{Over}
use Rattle.crash_disk.proofs.slots.saving.write_gate.Goals as goal
use Rattle.crash_disk.proofs.slots.saving.write_gate.Goals.{After-write_at}

-- the one write is of the gate
wrote : (g : Over) (c : After-write_at g) → IsTrue g.D.Disk.tells → WritesWithin (start_of c.args.room c.args.slot) 1 (g.D.Disk.shown c.args.disk.now) (g.D.Disk.shown c.write_at.new.self)
wrote g c known =
    let start = g.D.Disk.shown c.args.disk.now in
    let at = start_of c.args.room c.args.slot in
    let same : c.start.result ≡ at = c.start.ensures in
    went_write at 1 start start (g.D.Disk.shown c.write_at.new.self) c.start.result (c.args.gate ∷ []) c.write_at.result c.write_at.ensures.written c.write_at.ensures.torn c.write_at.ensures.no_memory c.write_at.ensures.time known (omega arith) (omega arith) (went_nowhere at 1 start (c.requires.settled known))

pub returns-in_err-write_at-clause-within : goal.returns-in_err-write_at-clause-within
returns-in_err-write_at-clause-within g c = wrote g (goal.at.returns-in_err-write_at-clause-within g c).After-write_at

pub returns-clause-within : goal.returns-clause-within
returns-clause-within g c = λ known.
    went_sync (start_of c.args.room c.args.slot) 1 (g.D.Disk.shown c.args.disk.now) (g.D.Disk.shown c.write_at.new.self) (g.D.Disk.shown c.sync.new.self) c.sync.result c.sync.ensures.synced c.sync.ensures.stays c.sync.ensures.time known (wrote g (goal.at.returns-clause-within g c).After-write_at known)

pub returns-clause-stands : goal.returns-clause-stands
returns-clause-stands g c = on_ok c.sync.result c.sync.ensures.synced (λ synced known.
    settled_by (held_now (g.D.Disk.shown c.write_at.new.self)) (held_now (g.D.Disk.shown c.sync.new.self)) (synced known))

pub returns-clause-gate : goal.returns-clause-gate
returns-clause-gate g c = on_ok c.sync.result c.sync.ensures.synced (λ synced known.
    gate_written (held_now (g.D.Disk.shown c.args.disk.now)) (held_now (g.D.Disk.shown c.write_at.new.self)) (held_now (g.D.Disk.shown c.sync.new.self)) c.start.result (start_of c.args.room c.args.slot) c.args.gate (c.in_ok-write_at.ensures.written known) (synced known) c.start.ensures)

pub returns-in_err-write_at-clause-asks : goal.returns-in_err-write_at-clause-asks
returns-in_err-write_at-clause-asks g c =
    let error = c.in_err-write_at.field-0.0 in
    let old = g.D.Disk.shown c.args.disk.now in
    let new = g.D.Disk.shown c.write_at.new.self in
    let at = start_of c.args.room c.args.slot in
    let noted = subst (λ (k : ℕ). new.asked ≡ old.asked ++ Write k (c.args.gate ∷ []) (Err error) ∷ []) c.start.ensures c.in_err-write_at.ensures.recorded in
    then_failed (WritesOnce at (c.args.gate ∷ [])) SyncsOnce old new error c.from_residual.result (error_is c.from_residual.result error c.from_residual.ensures.1) (asks_once old new (Write at (c.args.gate ∷ []) (Err error)) noted)

pub returns-clause-asks : goal.returns-clause-asks
returns-clause-asks g c =
    let old = g.D.Disk.shown c.args.disk.now in
    let mid = g.D.Disk.shown c.write_at.new.self in
    let new = g.D.Disk.shown c.sync.new.self in
    let at = start_of c.args.room c.args.slot in
    let noted = subst (λ (k : ℕ). mid.asked ≡ old.asked ++ Write k (c.args.gate ∷ []) (Ok tt) ∷ []) c.start.ensures c.in_ok-write_at.ensures.recorded in
    then_on (WritesOnce at (c.args.gate ∷ [])) SyncsOnce old mid new c.sync.result (asks_once old mid (Write at (c.args.gate ∷ []) (Ok tt)) noted) (asks_once mid new (Sync c.sync.result) c.sync.ensures.recorded)
