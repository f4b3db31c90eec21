-- One call of a disk after another, while every write stays within one range.
use Rattle.std.proofs.Common.{◌≡◌, ℕ, ◌+◌, ◌≤◌, List, length, refl, sym, subst, Result, Ok, Err, OnOk, OnErr, IsErrOf}
use Rattle.crash_disk.specs.DiskView.{Image, Held, DiskView, held_now, Passes, Torn, after_write, synced_file}
use Rattle.crash_disk.specs.declared.disk.DiskError.{DiskError}
use Rattle.crash_disk.specs.declared.disk.DiskError.TheVariants.{Failed, NoMemory}
use Rattle.crash_disk.specs.Crash.{IsSettled, bytes_now}
use Rattle.crash_disk.specs.Within.{IsNear, IsSameBut, WritesWithin}
use Rattle.crash_disk.proofs.Near.{near_left, near_settled, near_same, near_written, near_torn, near_synced, synced_settled}
use Rattle.crash_disk.proofs.Moments.{leaves_by, leaves_on, leaves_here}

pub went_nowhere : (at n : ℕ) (start : DiskView) → IsSettled (held_now start) → WritesWithin at n start start
went_nowhere at n start is =
    let near = near_settled at n (held_now start) is in
    record {
      leaves = leaves_here start (IsSameBut at n (bytes_now start)) (λ image left. near_left at n (bytes_now start) (held_now start) image near left);
      near = near;
    }

went_on : (at n : ℕ) (start mid now : DiskView) → WritesWithin at n start mid → Passes mid now → IsNear at n (bytes_now start) (held_now now) → WritesWithin at n start now
went_on at n start mid now went passes near = record {
  leaves = leaves_on start mid now (IsSameBut at n (bytes_now start)) went.leaves
      (leaves_by mid now (IsSameBut at n (bytes_now start)) passes
      (λ image left. near_left at n (bytes_now start) (held_now mid) image went.near left)
      (λ image left. near_left at n (bytes_now start) (held_now now) image near left));
  near = near;
}

near_write : {T : Type 0} (at n : ℕ) (base : Image) (held new : Held) (low : ℕ) (bytes : List ℕ) (r : Result (Unit {0}) DiskError) → OnOk r (T → new ≡ after_write held low bytes) → (IsErrOf r Failed → T → Torn held new low (length bytes)) → (IsErrOf r NoMemory → T → new ≡ held) → T → at ≤ low → low + length bytes ≤ at + n → IsNear at n base held → IsNear at n base new
near_write at n base held new low bytes (Ok _) done torn none t begins ends near = near_same at n base _ new (done t) (near_written at n base held low bytes begins ends near)
near_write at n base held new low bytes (Err Failed) done torn none t begins ends near = near_torn at n base held new low (length bytes) begins ends near (torn refl t)
near_write at n base held new low bytes (Err NoMemory) done torn none t begins ends near = near_same at n base held new (none refl t) near

near_sync : {T : Type 0} (at n : ℕ) (base : Image) (held new : Held) (r : Result (Unit {0}) DiskError) → OnOk r (T → new ≡ synced_file held) → OnErr r (T → new ≡ held) → T → IsNear at n base held → IsNear at n base new
near_sync at n base held new (Ok _) done kept t near = near_same at n base _ new (done t) (near_synced at n base held near)
near_sync at n base held new (Err e) done kept t near = near_same at n base held new (kept t) near

-- a write within the range, whatever it answers
pub went_write : {T : Type 0} (at n : ℕ) (start mid now : DiskView) (low : ℕ) (bytes : List ℕ) (r : Result (Unit {0}) DiskError) → OnOk r (T → held_now now ≡ after_write (held_now mid) low bytes) → (IsErrOf r Failed → T → Torn (held_now mid) (held_now now) low (length bytes)) → (IsErrOf r NoMemory → T → held_now now ≡ held_now mid) → (T → Passes mid now) → T → at ≤ low → low + length bytes ≤ at + n → WritesWithin at n start mid → WritesWithin at n start now
went_write at n start mid now low bytes r done torn none passes t begins ends went =
    went_on at n start mid now went (passes t) (near_write at n (bytes_now start) (held_now mid) (held_now now) low bytes r done torn none t begins ends went.near)

-- a sync, whatever it answers
pub went_sync : {T : Type 0} (at n : ℕ) (start mid now : DiskView) (r : Result (Unit {0}) DiskError) → OnOk r (T → held_now now ≡ synced_file (held_now mid)) → OnErr r (T → held_now now ≡ held_now mid) → (T → Passes mid now) → T → WritesWithin at n start mid → WritesWithin at n start now
went_sync at n start mid now r done kept passes t went =
    went_on at n start mid now went (passes t) (near_sync at n (bytes_now start) (held_now mid) (held_now now) r done kept t went.near)

-- where nothing is pending after it
pub settled_by : (held new : Held) → new ≡ synced_file held → IsSettled new
settled_by held new same = subst (λ h. IsSettled h) (sym same) (synced_settled held)

pub same_now : (at n : ℕ) (start now : DiskView) → WritesWithin at n start now → IsSameBut at n (bytes_now start) (bytes_now now)
same_now at n start now went = record { bytes = went.near.bytes }
