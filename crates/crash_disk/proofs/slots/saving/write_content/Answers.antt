use Rattle.std.proofs.Common.{◌≡◌, ℕ, Bool, ◌+◌, ◌∷◌, ◌++◌, [], length, arith, sym, ap, ◌∙◌, subst}
use Rattle.std.specs.Int.{w64, to_be_bytes}
use Rattle.std.specs.Prelude.{IsTrue, Ok, Err}
use Rattle.crash_disk.specs.DiskView.{DiskView, Write, Sync, held_now}
use Rattle.crash_disk.specs.Layout.{start_of}
use Rattle.crash_disk.specs.Crash.{IsReady, IsClosed, IsStaged, bytes_now}
use Rattle.crash_disk.specs.SaveCalls.{Outcome, Asks, Then, WritesOnce, SyncsOnce}
use Rattle.crash_disk.specs.Saving.{IsHarmless}
use Rattle.crash_disk.specs.declared.slots.target.Target.{Target}
use Rattle.crash_disk.proofs.Push.{on_ok, error_is, same_error}
use Rattle.crash_disk.specs.Within.{WritesWithin}
use Rattle.crash_disk.proofs.Calls.{went_nowhere, went_write, went_sync, settled_by}
use Rattle.crash_disk.proofs.SaveCalls.{then_on, then_failed, asks_once}
use Rattle.crash_disk.proofs.Phases.{staging, staged_ready}
use Rattle.crash_disk.proofs.Outside.{start_low, outside_within}
use Rattle.crash_disk.proofs.Staged.{staged, staged_after, is_staged}
use Rattle.crash_disk.proofs.slots.saving.write_content.Given.{Over}
use Rattle.crash_disk.proofs.slots.saving.write_content.Goals as goal
use Rattle.crash_disk.proofs.slots.saving.write_content.Goals.{After-write_at, After-write_at-2, After-sync}

-- each call writes behind the gate alone
named : (g : Over) (c : After-write_at g) → IsTrue g.D.Disk.tells → WritesWithin (start_of c.args.room c.args.target.slot + 1) (15 + c.args.room) (g.D.Disk.shown c.args.disk.now) (g.D.Disk.shown c.write_at.new.self)
named g c known =
    let start = g.D.Disk.shown c.args.disk.now in
    let at = start_of c.args.room c.args.target.slot in
    let begins : c.start-start.result ≡ at = c.start-start.ensures in
    let nine : length c.number_and_length.result ≡ 9 = ap length c.number_and_length.ensures in
    went_write (at + 1) (15 + c.args.room) start start (g.D.Disk.shown c.write_at.new.self) (c.start-start.result + 1) c.number_and_length.result c.write_at.result c.write_at.ensures.written c.write_at.ensures.torn c.write_at.ensures.no_memory c.write_at.ensures.time known (omega arith) (omega arith) (went_nowhere (at + 1) (15 + c.args.room) start (c.requires.ready known).settled)

put : (g : Over) (c : After-write_at-2 g) → IsTrue g.D.Disk.tells → WritesWithin (start_of c.args.room c.args.target.slot + 1) (15 + c.args.room) (g.D.Disk.shown c.args.disk.now) (g.D.Disk.shown c.write_at.new.self) → WritesWithin (start_of c.args.room c.args.target.slot + 1) (15 + c.args.room) (g.D.Disk.shown c.args.disk.now) (g.D.Disk.shown c.write_at-2.new.self)
put g c known before =
    let at = start_of c.args.room c.args.target.slot in
    let begins : c.start-start.result ≡ at = c.start-start.ensures in
    let fits = c.requires.fits in
    went_write (at + 1) (15 + c.args.room) (g.D.Disk.shown c.args.disk.now) (g.D.Disk.shown c.write_at.new.self) (g.D.Disk.shown c.write_at-2.new.self) (c.start-start.result + 16) c.args.bytes.now c.write_at-2.result c.write_at-2.ensures.written c.write_at-2.ensures.torn c.write_at-2.ensures.no_memory c.write_at-2.ensures.time known (omega arith) (omega arith) before

settled : (g : Over) (c : After-sync g) → IsTrue g.D.Disk.tells → WritesWithin (start_of c.args.room c.args.target.slot + 1) (15 + c.args.room) (g.D.Disk.shown c.args.disk.now) (g.D.Disk.shown c.write_at-2.new.self) → WritesWithin (start_of c.args.room c.args.target.slot + 1) (15 + c.args.room) (g.D.Disk.shown c.args.disk.now) (g.D.Disk.shown c.sync.new.self)
settled g c known before =
    went_sync (start_of c.args.room c.args.target.slot + 1) (15 + c.args.room) (g.D.Disk.shown c.args.disk.now) (g.D.Disk.shown c.write_at-2.new.self) (g.D.Disk.shown c.sync.new.self) c.sync.result c.sync.ensures.synced c.sync.ensures.stays c.sync.ensures.time known before

-- and so it does no harm
harmless : (tells : Bool) (room : ℕ) (target : Target) (old new : DiskView) → (IsTrue tells → IsReady old room target) → (IsTrue tells → IsClosed (bytes_now old) room target) → (IsTrue tells → WritesWithin (start_of room target.slot + 1) (15 + room) old new) → IsHarmless tells room old new
harmless tells room target old new ready closed wrote = record {
  any_moment = λ known. staging old new room target (ready known) (closed known) (wrote known);
  outside_stays = outside_within tells room (start_of room target.slot + 1) (15 + room) old new wrote (omega (arith, start_low room target.slot));
}

pub returns-in_err-write_at-clause-harmless : goal.returns-in_err-write_at-clause-harmless
returns-in_err-write_at-clause-harmless g c =
    let here = goal.at.returns-in_err-write_at-clause-harmless g c in
    harmless _ c.args.room c.args.target (g.D.Disk.shown c.args.disk.now) (g.D.Disk.shown c.write_at.new.self) c.requires.ready c.requires.closed (λ known. named g here.After-write_at known)

pub returns-in_err-write_at-2-clause-harmless : goal.returns-in_err-write_at-2-clause-harmless
returns-in_err-write_at-2-clause-harmless g c =
    let here = goal.at.returns-in_err-write_at-2-clause-harmless g c in
    harmless _ c.args.room c.args.target (g.D.Disk.shown c.args.disk.now) (g.D.Disk.shown c.write_at-2.new.self) c.requires.ready c.requires.closed (λ known. put g here.After-write_at-2 known (named g here.After-write_at known))

pub returns-clause-harmless : goal.returns-clause-harmless
returns-clause-harmless g c =
    let here = goal.at.returns-clause-harmless g c in
    harmless _ c.args.room c.args.target (g.D.Disk.shown c.args.disk.now) (g.D.Disk.shown c.sync.new.self) c.requires.ready c.requires.closed (λ known. settled g here.After-sync known (put g here.After-write_at-2 known (named g here.After-write_at known)))

pub returns-clause-ready : goal.returns-clause-ready
returns-clause-ready g c = on_ok c.sync.result c.sync.ensures.synced (λ synced known.
    let here = goal.at.returns-clause-ready g c in
    let third = settled g here.After-sync known (put g here.After-write_at-2 known (named g here.After-write_at known)) in
    staged_ready (g.D.Disk.shown c.args.disk.now) (g.D.Disk.shown c.sync.new.self) c.args.room c.args.target (c.requires.ready known) (c.requires.closed known) third
    (settled_by (held_now (g.D.Disk.shown c.write_at-2.new.self)) (held_now (g.D.Disk.shown c.sync.new.self)) (synced known)))

pub returns-clause-staged : goal.returns-clause-staged
returns-clause-staged g c = on_ok c.sync.result c.sync.ensures.synced (λ synced known.
    let start = g.D.Disk.shown c.args.disk.now in
    let at = start_of c.args.room c.args.target.slot in
    let number = c.args.target.number in
    let bytes = c.args.bytes.now in
    let short = c.requires.fits in
    let limit = c.requires.room in
    let named = g.D.Disk.shown c.write_at.new.self in
    let put = g.D.Disk.shown c.write_at-2.new.self in
    let now = g.D.Disk.shown c.sync.new.self in
    let is : bytes_now now ≡ staged (bytes_now start) at number bytes =
    staged_after (held_now start) (held_now named) (held_now put) (held_now now) at (c.start-start.result + 1) (c.start-start.result + 16) number c.number_and_length.result bytes
    (c.in_ok-write_at.ensures.written known) (c.in_ok-write_at-2.ensures.written known) (synced known)
    (ap (λ i. i + 1) c.start-start.ensures) c.number_and_length.ensures (ap (λ i. i + 16) c.start-start.ensures) in
    subst (λ i. IsStaged i c.args.room c.args.target bytes) (sym is) (is_staged (bytes_now start) c.args.room c.args.target bytes (omega arith)))

pub write_at-requires : goal.write_at-requires
write_at-requires g c =
    let low = start_low c.args.room c.args.target.slot in
    let nine : length c.number_and_length.result ≡ 9 = ap length c.number_and_length.ensures in
    record { inside = omega (arith, low, nine, c.start-start.ensures, c.requires.room) }

pub write_at-requires-2 : goal.write_at-requires-2
write_at-requires-2 g c =
    let low = start_low c.args.room c.args.target.slot in
    record { inside = omega (arith, low, c.start-start.ensures, c.requires.room, c.requires.fits) }

pub returns-in_err-write_at-clause-cause : goal.returns-in_err-write_at-clause-cause
returns-in_err-write_at-clause-cause g c = λ failed.
    let error = c.in_err-write_at.field-0.0 in
    let is = error_is c.from_residual.result error c.from_residual.ensures.1 in
    c.in_err-write_at.ensures.cause (same_error error _ (sym is ∙ failed))

pub returns-in_err-write_at-2-clause-cause : goal.returns-in_err-write_at-2-clause-cause
returns-in_err-write_at-2-clause-cause g c = λ failed.
    let error = c.in_err-write_at-2.field-0.0 in
    let is = error_is c.from_residual-in_err-write_at-2.result error c.from_residual-in_err-write_at-2.ensures.1 in
    let rose = c.in_err-write_at-2.ensures.cause (same_error error _ (sym is ∙ failed)) in
    omega (arith, rose, c.write_at.ensures.faults_stay_or_rise)

pub returns-clause-cause : goal.returns-clause-cause
returns-clause-cause g c = λ failed.
    let rose = c.sync.ensures.cause failed in
    omega (arith, rose, c.write_at.ensures.faults_stay_or_rise, c.write_at-2.ensures.faults_stay_or_rise)

-- the first call, and the second
first_is : (g : Over) (c : After-write_at g) (answer : Outcome) → (g.D.Disk.shown c.write_at.new.self).asked ≡ (g.D.Disk.shown c.args.disk.now).asked ++ Write (c.start-start.result + 1) c.number_and_length.result answer ∷ [] → Asks (g.D.Disk.shown c.args.disk.now) (g.D.Disk.shown c.write_at.new.self) (λ calls. WritesOnce (start_of c.args.room c.args.target.slot + 1) (c.args.target.number ∷ to_be_bytes w64 (length c.args.bytes.now)) calls answer)
first_is g c answer asked =
    let old = (g.D.Disk.shown c.args.disk.now).asked in
    asks_once (g.D.Disk.shown c.args.disk.now) (g.D.Disk.shown c.write_at.new.self) _ (asked
    ∙ ap (λ (k : ℕ). old ++ Write (k + 1) c.number_and_length.result answer ∷ []) c.start-start.ensures
    ∙ ap (λ xs. old ++ Write (start_of c.args.room c.args.target.slot + 1) xs answer ∷ []) c.number_and_length.ensures)

second_is : (g : Over) (c : After-write_at-2 g) (answer : Outcome) → (g.D.Disk.shown c.write_at-2.new.self).asked ≡ (g.D.Disk.shown c.write_at.new.self).asked ++ Write (c.start-start.result + 16) c.args.bytes.now answer ∷ [] → Asks (g.D.Disk.shown c.write_at.new.self) (g.D.Disk.shown c.write_at-2.new.self) (λ calls. WritesOnce (start_of c.args.room c.args.target.slot + 16) c.args.bytes.now calls answer)
second_is g c answer asked =
    asks_once (g.D.Disk.shown c.write_at.new.self) (g.D.Disk.shown c.write_at-2.new.self) _
    (asked ∙ ap (λ (k : ℕ). (g.D.Disk.shown c.write_at.new.self).asked ++ Write (k + 16) c.args.bytes.now answer ∷ []) c.start-start.ensures)

pub returns-in_err-write_at-clause-asks : goal.returns-in_err-write_at-clause-asks
returns-in_err-write_at-clause-asks g c =
    let here = goal.at.returns-in_err-write_at-clause-asks g c in
    let error = c.in_err-write_at.field-0.0 in
    let at = start_of c.args.room c.args.target.slot in
    then_failed (WritesOnce (at + 1) (c.args.target.number ∷ to_be_bytes w64 (length c.args.bytes.now))) (Then (WritesOnce (at + 16) c.args.bytes.now) SyncsOnce) (g.D.Disk.shown c.args.disk.now) (g.D.Disk.shown c.write_at.new.self) error c.from_residual.result (error_is c.from_residual.result error c.from_residual.ensures.1)
    (first_is g here.After-write_at (Err error) c.in_err-write_at.ensures.recorded)

pub returns-in_err-write_at-2-clause-asks : goal.returns-in_err-write_at-2-clause-asks
returns-in_err-write_at-2-clause-asks g c =
    let here = goal.at.returns-in_err-write_at-2-clause-asks g c in
    let error = c.in_err-write_at-2.field-0.0 in
    let result = c.from_residual-in_err-write_at-2.result in
    let at = start_of c.args.room c.args.target.slot in
    let old = g.D.Disk.shown c.args.disk.now in
    let mid = g.D.Disk.shown c.write_at.new.self in
    let new = g.D.Disk.shown c.write_at-2.new.self in
    then_on (WritesOnce (at + 1) (c.args.target.number ∷ to_be_bytes w64 (length c.args.bytes.now))) (Then (WritesOnce (at + 16) c.args.bytes.now) SyncsOnce) old mid new result
    (first_is g here.After-write_at (Ok tt) c.in_ok-write_at.ensures.recorded)
    (then_failed (WritesOnce (at + 16) c.args.bytes.now) SyncsOnce mid new error result (error_is result error c.from_residual-in_err-write_at-2.ensures.1)
    (second_is g here.After-write_at-2 (Err error) c.in_err-write_at-2.ensures.recorded))

pub returns-clause-asks : goal.returns-clause-asks
returns-clause-asks g c =
    let here = goal.at.returns-clause-asks g c in
    let at = start_of c.args.room c.args.target.slot in
    let old = g.D.Disk.shown c.args.disk.now in
    let mid = g.D.Disk.shown c.write_at.new.self in
    let put = g.D.Disk.shown c.write_at-2.new.self in
    let new = g.D.Disk.shown c.sync.new.self in
    then_on (WritesOnce (at + 1) (c.args.target.number ∷ to_be_bytes w64 (length c.args.bytes.now))) (Then (WritesOnce (at + 16) c.args.bytes.now) SyncsOnce) old mid new c.sync.result
    (first_is g here.After-write_at (Ok tt) c.in_ok-write_at.ensures.recorded)
    (then_on (WritesOnce (at + 16) c.args.bytes.now) SyncsOnce mid put new c.sync.result
    (second_is g here.After-write_at-2 (Ok tt) c.in_ok-write_at-2.ensures.recorded)
    (asks_once put new (Sync c.sync.result) c.sync.ensures.recorded))
