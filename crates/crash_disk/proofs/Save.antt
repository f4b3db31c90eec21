-- The parts of a save one after another, and the newer slot as a load reads it.
use Rattle.std.proofs.Common.{◌≡◌, inl, inr, ℕ, ◌≤◌, List, Bool, IsTrue, refl, sym, ◌∙◌, ap, subst, Some, Result, Err, OnOk, IsErrOf, arith}
use Rattle.crash_disk.specs.DiskView.{Image, Held, MayLeave, DiskView, held_now, LeavesOnly}
use Rattle.crash_disk.specs.declared.disk.DiskError.{DiskError}
use Rattle.crash_disk.specs.declared.disk.DiskError.TheVariants.{Failed}
use Rattle.crash_disk.proofs.Push.{on_ok, error_alone, same_error}
use Rattle.outside_io.specs.Faults.{Rose}
use Rattle.crash_disk.specs.Layout.{content}
use Rattle.crash_disk.specs.Crash.{CouldLeave, IsOldOrNew, IsSaved, SameContent, IsKeptOrNew, bytes_now}
use Rattle.crash_disk.specs.SaveCalls.{Asks, AsksToSave}
use Rattle.crash_disk.specs.Saving.{IsHarmless, SavesContent}
use Rattle.crash_disk.specs.Within.{OutsideStays}
use Rattle.crash_disk.proofs.Outside.{outside_on}
use Rattle.crash_disk.proofs.Moments.{leaves_also, leaves_on, leaves_last}

-- what a read gives may be left
reads_left : (held : Held) → MayLeave held held.bytes
reads_left held = record { elsewhere = λ i out. refl }

-- so far a crash leaves the content from before, and a read gives it
pub record Keeps (start now : DiskView) (room : ℕ) (bytes : List ℕ) : Type 0 where
  pub leaves : LeavesOnly start now (IsOldOrNew (held_now start) room bytes)
  pub could : CouldLeave (held_now start) room (content (bytes_now now) room)

pub keeps_found : {start now : DiskView} (room : ℕ) (bytes : List ℕ) → LeavesOnly start now (MayLeave (held_now start)) → Keeps start now room bytes
keeps_found {start} {now} room bytes only = record {
  leaves = leaves_also start now (MayLeave (held_now start)) (IsOldOrNew (held_now start) room bytes) (λ image left. inl (image, left, refl)) only;
  could = (bytes_now now, leaves_last start now (MayLeave (held_now start)) only (bytes_now now) (reads_left (held_now now)), refl);
}

could_same : (held : Held) (room : ℕ) (a b : Image) → CouldLeave held room (content a room) → SameContent a room b → CouldLeave held room (content b room)
could_same held room a b could same = (could.0, could.1, could.2 ∙ sym same)

pub keeps_same : {start mid now : DiskView} {room : ℕ} {bytes : List ℕ} → Keeps start mid room bytes → LeavesOnly mid now (SameContent (bytes_now mid) room) → Keeps start now room bytes
keeps_same {start} {mid} {now} {room} {bytes} keeps only = record {
  leaves = leaves_on start mid now (IsOldOrNew (held_now start) room bytes) keeps.leaves
      (leaves_also mid now (SameContent (bytes_now mid) room) (IsOldOrNew (held_now start) room bytes) (λ image same. inl (could_same (held_now start) room (bytes_now mid) image keeps.could same)) only);
  could = could_same (held_now start) room (bytes_now mid) (bytes_now now) keeps.could (leaves_last mid now (SameContent (bytes_now mid) room) only (bytes_now now) (reads_left (held_now now)));
}

old_or_new : (held : Held) (room : ℕ) (before : Image) (staged bytes : List ℕ) (image : Image) → CouldLeave held room (content before room) → staged ≡ bytes → IsKeptOrNew before room staged image → IsOldOrNew held room bytes image
old_or_new held room before staged bytes image could is (inl same) = inl (could_same held room before image could same)
old_or_new held room before staged bytes image could is (inr new) = inr (new ∙ ap (λ (xs : List ℕ). Some xs) is)

pub keeps_new : {start mid now : DiskView} {room : ℕ} {staged bytes : List ℕ} → Keeps start mid room bytes → staged ≡ bytes → LeavesOnly mid now (IsKeptOrNew (bytes_now mid) room staged) → LeavesOnly start now (IsOldOrNew (held_now start) room bytes)
keeps_new {start} {mid} {now} {room} {staged} {bytes} keeps is only =
    leaves_on start mid now (IsOldOrNew (held_now start) room bytes) keeps.leaves
    (leaves_also mid now (IsKeptOrNew (bytes_now mid) room staged) (IsOldOrNew (held_now start) room bytes) (λ image which. old_or_new (held_now start) room (bytes_now mid) staged bytes image keeps.could is which) only)

-- so far a save keeps the content, leaves each byte behind both slots, and has lowered no count of faults
pub record Saves (tells : Bool) (room : ℕ) (bytes : List ℕ) (start now : DiskView) : Type 0 where
  pub keeps : IsTrue tells → Keeps start now room bytes
  pub outside : OutsideStays tells room start now
  pub later : start.faults ≤ now.faults

pub saves_found : {tells : Bool} {room : ℕ} {start now : DiskView} (bytes : List ℕ) → (IsTrue tells → LeavesOnly start now (MayLeave (held_now start))) → OutsideStays tells room start now → start.faults ≤ now.faults → Saves tells room bytes start now
saves_found {tells} {room} bytes only outside later = record { keeps = λ known. keeps_found room bytes (only known); outside = outside; later = later }

pub saves_same : {tells : Bool} {room : ℕ} {bytes : List ℕ} {start mid now : DiskView} → Saves tells room bytes start mid → IsHarmless tells room mid now → mid.faults ≤ now.faults → Saves tells room bytes start now
saves_same {tells} {room} {bytes} {start} {mid} {now} saves harmless later = record {
  keeps = λ known. keeps_same (saves.keeps known) (harmless.any_moment known);
  outside = outside_on tells room start mid now saves.outside harmless.outside_stays;
  later = (let before = saves.later in omega arith);
}

-- a save that then gave up
pub saves_not : {T : Type 0} {tells : Bool} {room : ℕ} {bytes : List ℕ} {start now : DiskView} (result : Result (Unit {0}) DiskError) (error : DiskError) (before : ℕ) → result ≡ Err error → start.faults ≤ before → (IsErrOf {T = T} (Err error) Failed → Rose before now.faults) → Saves tells room bytes start now → Asks start now (λ calls. AsksToSave room bytes calls result) → SavesContent tells room bytes start now result
saves_not result error before is later cause saves asks = record {
  any_moment = λ known. (saves.keeps known).leaves;
  saved = error_alone result _ is;
  outside_stays = saves.outside;
  cause = λ failed. let rose = cause (same_error error _ (sym is ∙ failed)) in omega (arith, rose, later);
  faults_stay_or_rise = saves.later;
  asks = asks;
}

-- and one whose gate was to be opened last
pub saves_last : {tells : Bool} {room : ℕ} {bytes staged : List ℕ} {start mid now : DiskView} (result : Result (Unit {0}) DiskError) → Saves tells room bytes start mid → (IsTrue tells → staged ≡ bytes) → (IsTrue tells → LeavesOnly mid now (IsKeptOrNew (bytes_now mid) room staged)) → OnOk result (IsTrue tells → IsSaved (held_now now) room staged) → OutsideStays tells room mid now → (IsErrOf result Failed → Rose mid.faults now.faults) → mid.faults ≤ now.faults → Asks start now (λ calls. AsksToSave room bytes calls result) → SavesContent tells room bytes start now result
saves_last {tells} {room} {bytes} {staged} {start} {mid} {now} result saves is only saved outside cause rises asks = record {
  any_moment = λ known. keeps_new (saves.keeps known) (is known) (only known);
  saved = on_ok result saved (λ stands known. subst (λ xs. IsSaved (held_now now) room xs) (is known) (stands known));
  outside_stays = outside_on tells room start mid now saves.outside outside;
  cause = λ failed. let rose = cause failed in let later = saves.later in omega arith;
  faults_stay_or_rise = (let later = saves.later in omega arith);
  asks = asks;
}
