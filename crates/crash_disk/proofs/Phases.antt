-- The parts of a save, each from a disk on which nothing was pending.
use Rattle.std.proofs.Common.{◌≡◌, ◌⊎◌, ℕ, ◌+◌, ◌≤◌, List, [], ◌∷◌, length, true, sym, ◌∙◌, ap, arith, Some, Result, Ok, Err, OnOk}
use Rattle.std.proofs.lemmas.Bool.{eqb-true}
use Rattle.crash_disk.specs.DiskView.{Image, Held, MayLeave, DiskView, held_now, LeavesOnly, patched_image, after_write, synced_file}
use Rattle.crash_disk.specs.declared.disk.DiskError.{DiskError}
use Rattle.crash_disk.specs.Layout.{start_of, content}
use Rattle.crash_disk.specs.Crash.{IsSettled, IsReady, IsClosed, IsStaged, TellsGate, SameContent, bytes_now}
use Rattle.crash_disk.specs.declared.slots.target.Target.{Target}
use Rattle.crash_disk.specs.Within.{WritesWithin}
use Rattle.crash_disk.proofs.Calls.{same_now}
use Rattle.crash_disk.proofs.Contents.{gate_shuts, behind_gate, still_target, gate_turns, gate_opens, content-same}
use Rattle.crash_disk.proofs.Moments.{leaves_also}
use Rattle.crash_disk.proofs.Near.{settled_left, patched-in}

-- what follows from two facts of a call that went well
pub on_both : {A B C : Type 0} (r : Result (Unit {0}) DiskError) → OnOk r A → OnOk r B → (A → B → C) → OnOk r C
on_both (Ok x) a b f = f a b
on_both (Err e) a b f = tt

was_open : (image : Image) (room : ℕ) (target : Target) → TellsGate image room target → target.gate_is_open ≡ true → image (start_of room target.slot) ≡ 1
was_open image room target tells is = eqb-true (image (start_of room target.slot)) 1 (sym tells ∙ is)

-- while the gate of the target is closed
pub closing : (start now : DiskView) (room : ℕ) (target : Target) → IsReady start room target → TellsGate (bytes_now start) room target → target.gate_is_open ≡ true → WritesWithin (start_of room target.slot) 1 start now → LeavesOnly start now (SameContent (bytes_now start) room)
closing start now room target ready tells is went =
    leaves_also start now _ (SameContent (bytes_now start) room) (λ image same. gate_shuts (bytes_now start) image room target ready.target_is (was_open (bytes_now start) room target tells is) same) went.leaves

pub closed_ready : (start now : DiskView) (room : ℕ) (target : Target) → IsReady start room target → TellsGate (bytes_now start) room target → target.gate_is_open ≡ true → WritesWithin (start_of room target.slot) 1 start now → IsSettled (held_now now) → IsReady now room target
closed_ready start now room target ready tells is went settled =
    let same = same_now (start_of room target.slot) 1 start now went in
    record {
      settled = settled;
      target_is = still_target (bytes_now start) (bytes_now now) room target (start_of room target.slot) 1 ready.target_is (gate_shuts (bytes_now start) (bytes_now now) room target ready.target_is (was_open (bytes_now start) room target tells is) same) (omega arith) (omega arith) same;
    }

-- while number, length and content are written
pub staging : (start now : DiskView) (room : ℕ) (target : Target) → IsReady start room target → IsClosed (bytes_now start) room target → WritesWithin (start_of room target.slot + 1) (15 + room) start now → LeavesOnly start now (SameContent (bytes_now start) room)
staging start now room target ready shut went =
    leaves_also start now _ (SameContent (bytes_now start) room) (λ image same. behind_gate (bytes_now start) image room target ready.target_is shut same) went.leaves

pub staged_ready : (start now : DiskView) (room : ℕ) (target : Target) → IsReady start room target → IsClosed (bytes_now start) room target → WritesWithin (start_of room target.slot + 1) (15 + room) start now → IsSettled (held_now now) → IsReady now room target
staged_ready start now room target ready shut went settled =
    let same = same_now (start_of room target.slot + 1) (15 + room) start now went in
    record {
      settled = settled;
      target_is = still_target (bytes_now start) (bytes_now now) room target (start_of room target.slot + 1) (15 + room) ready.target_is (behind_gate (bytes_now start) (bytes_now now) room target ready.target_is shut same) (omega arith) (omega arith) same;
    }

-- while the gate of what was staged is opened
pub opening : (start now : DiskView) (room : ℕ) (target : Target) (bytes : List ℕ) → IsReady start room target → IsStaged (bytes_now start) room target bytes → length bytes ≤ room → WritesWithin (start_of room target.slot) 1 start now → LeavesOnly start now (λ image. SameContent (bytes_now start) room image ⊎ (content image room ≡ Some bytes))
opening start now room target bytes ready staged fits went =
    leaves_also start now _ (λ image. SameContent (bytes_now start) room image ⊎ (content image room ≡ Some bytes)) (λ image same. gate_turns (bytes_now start) image room target bytes ready.target_is staged fits same) went.leaves

pub opened : (start now : DiskView) (room : ℕ) (target : Target) (bytes : List ℕ) → IsReady start room target → IsStaged (bytes_now start) room target bytes → length bytes ≤ room → WritesWithin (start_of room target.slot) 1 start now → IsSettled (held_now now) → bytes_now now (start_of room target.slot) ≡ 1 → (image : Image) → MayLeave (held_now now) image → content image room ≡ Some bytes
opened start now room target bytes ready staged fits went settled gate image left =
    let at = start_of room target.slot in
    gate_opens (bytes_now start) image room target bytes ready.target_is staged fits
    (record { bytes = λ i out. left.elsewhere i (settled.stands i) ∙ went.near.bytes i out })
    (left.elsewhere at (settled.stands at) ∙ gate)

-- where nothing is pending, a crash leaves the content that a read gives
pub settled_content : (held : Held) (image : Image) (room : ℕ) → IsSettled held → MayLeave held image → SameContent held.bytes room image
settled_content held image room is left = content-same image held.bytes room (settled_left held image is left)

-- what the gate is after it was written and synced
pub gate_written : (start put now : Held) (low at gate : ℕ) → put ≡ after_write start low (gate ∷ []) → now ≡ synced_file put → low ≡ at → now.bytes at ≡ gate
gate_written start put now low at gate one two here =
    ap (λ (h : Held). h.bytes at) two
    ∙ ap (λ (h : Held). h.bytes at) one
    ∙ ap (λ i. patched_image start.bytes i (gate ∷ []) at) here
    ∙ ap (patched_image start.bytes at (gate ∷ [])) (let e : at ≡ at + 0 = omega arith in e)
    ∙ patched-in start.bytes at (gate ∷ []) 0 (omega arith)
