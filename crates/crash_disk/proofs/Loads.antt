-- The reads of a load, put together of those of its parts.
use Rattle.std.proofs.Common.{◌≡◌, ℕ, ◌≤◌, List, [], ◌∷◌, ◌++◌, refl, ap, sym, ◌∙◌, append_assoc, arith}
use Rattle.std.specs.Prelude.{Option, Some, None, Result, Ok, Err, IsErrOf}
use Rattle.crash_disk.specs.DiskView.{DiskAsk, DiskView}
use Rattle.crash_disk.specs.declared.disk.DiskError.{DiskError}
use Rattle.crash_disk.specs.declared.disk.DiskError.TheVariants as disk
use Rattle.outside_io.specs.Faults.{Rose}
use Rattle.crash_disk.specs.Errors.{error_of}
use Rattle.crash_disk.specs.Layout.{start_of, head_of_bytes, newer_head}
use Rattle.crash_disk.specs.Loads.{head_read, content_read, head_of, ReadsHead, Heads, zero_failed, one_failed, both_read, content_of, Loads, heads_failed, none_open, one_open, ReadsHeads, HasLoaded}
use Rattle.crash_disk.specs.declared.slots.error.SlotError.{SlotError}
use Rattle.crash_disk.specs.declared.slots.error.SlotError.TheVariants.{DiskFault, NoneSaved, TooLong}
use Rattle.crash_disk.specs.declared.slots.head.Head.{Head}
use Rattle.crash_disk.specs.declared.slots.head.Slot.{Slot}
use Rattle.crash_disk.specs.declared.slots.head.Slot.TheVariants.{Zero, One}

-- reads after reads
reads_both : (old mid new : DiskView) (xs ys : List DiskAsk) → mid.asked ≡ old.asked ++ xs → new.asked ≡ mid.asked ++ ys → new.asked ≡ old.asked ++ (xs ++ ys)
reads_both old mid new xs ys first second =
    second ∙ ap (λ (rs : List DiskAsk). rs ++ ys) first ∙ append_assoc old.asked xs ys

-- a head that wasn't read, and one that was
given_failed : (given : Result (List ℕ) DiskError) (error : DiskError) → Err error ≡ head_of given → given ≡ Err error
given_failed (Ok bytes) error is = absurd (cc)
given_failed (Err own) error is = cc

record IsGiven (given : Result (List ℕ) DiskError) (head : Head) : Type 0 where
  pub bytes : List ℕ
  pub is : given ≡ Ok bytes
  pub says : head ≡ head_of_bytes bytes

given_found : (given : Result (List ℕ) DiskError) (head : Head) → Ok head ≡ head_of given → IsGiven given head
given_found (Ok own) head is = record { bytes = own; is = refl; says = cc }
given_found (Err error) head is = absurd (cc)

-- one more head that gave this
head_noted : (start : ℕ) (old new : DiskView) (given answer : Result (List ℕ) DiskError) → new.asked ≡ old.asked ++ head_read start given ∷ [] → given ≡ answer → new.asked ≡ old.asked ++ head_read start answer ∷ []
head_noted start old new given answer read is =
    read ∙ ap (λ (r : Result (List ℕ) DiskError). old.asked ++ head_read start r ∷ []) is

-- both heads
pub zero_unread : (room : ℕ) (old new : DiskView) (error : DiskError) → ReadsHead (start_of room Zero) old new (Err error) → ReadsHeads room old new (Err error)
zero_unread room old new error zero = record {
  reads = head_read (start_of room Zero) (Err error) ∷ [];
  read = head_noted (start_of room Zero) old new zero.given (Err error) zero.read (given_failed zero.given error zero.says);
  heads = zero_failed error refl refl;
}

pub one_unread : (room : ℕ) (old mid new : DiskView) (head : Head) (error : DiskError) → ReadsHead (start_of room Zero) old mid (Ok head) → ReadsHead (start_of room One) mid new (Err error) → ReadsHeads room old new (Err error)
one_unread room old mid new head error zero one =
    let first = given_found zero.given head zero.says in
    let xs = head_read (start_of room Zero) (Ok first.bytes) ∷ [] in
    let ys = head_read (start_of room One) (Err error) ∷ [] in
    record {
      reads = head_read (start_of room Zero) (Ok first.bytes) ∷ head_read (start_of room One) (Err error) ∷ [];
      read = reads_both old mid new xs ys
          (head_noted (start_of room Zero) old mid zero.given (Ok first.bytes) zero.read first.is)
          (head_noted (start_of room One) mid new one.given (Err error) one.read (given_failed one.given error one.says));
      heads = one_failed first.bytes error refl refl;
    }

pub heads_read : (room : ℕ) (old mid new : DiskView) (zero_head one_head : Head) → ReadsHead (start_of room Zero) old mid (Ok zero_head) → ReadsHead (start_of room One) mid new (Ok one_head) → ReadsHeads room old new (Ok (zero_head, one_head))
heads_read room old mid new zero_head one_head zero one =
    let first = given_found zero.given zero_head zero.says in
    let second = given_found one.given one_head one.says in
    let xs = head_read (start_of room Zero) (Ok first.bytes) ∷ [] in
    let ys = head_read (start_of room One) (Ok second.bytes) ∷ [] in
    record {
      reads = head_read (start_of room Zero) (Ok first.bytes) ∷ head_read (start_of room One) (Ok second.bytes) ∷ [];
      read = reads_both old mid new xs ys
          (head_noted (start_of room Zero) old mid zero.given (Ok first.bytes) zero.read first.is)
          (head_noted (start_of room One) mid new one.given (Ok second.bytes) one.read second.is);
      heads = both_read first.bytes second.bytes refl (let zero_says = first.says in let one_says = second.says in cc);
    }

-- a load
pub load_unread : (room : ℕ) (old new : DiskView) (error : DiskError) → ReadsHeads room old new (Err error) → HasLoaded room old new (Err (error_of error))
load_unread room old new error read = record {
  reads = read.reads;
  read = read.read;
  loads = heads_failed error read.heads refl;
}

pub load_none : (room : ℕ) (old new : DiskView) (zero one : Head) → ReadsHeads room old new (Ok (zero, one)) → newer_head room zero one ≡ None → HasLoaded room old new (Err NoneSaved)
load_none room old new zero one read none = record {
  reads = read.reads;
  read = read.read;
  loads = none_open zero one read.heads none refl;
}

pub load_content : (room : ℕ) (old mid new : DiskView) (zero one : Head) (slot : Slot) (head : Head) (given : Result (List ℕ) DiskError) → ReadsHeads room old mid (Ok (zero, one)) → newer_head room zero one ≡ Some (slot, head) → new.asked ≡ mid.asked ++ content_read (start_of room slot) head given ∷ [] → HasLoaded room old new (content_of given)
load_content room old mid new zero one slot head given read newer last = record {
  reads = read.reads ++ content_read (start_of room slot) head given ∷ [];
  read = reads_both old mid new read.reads (content_read (start_of room slot) head given ∷ []) read.read last;
  loads = one_open zero one read.reads slot head given read.heads newer refl refl;
}

-- the error of a disk to the caller of a save is neither of the slots' own, and a fault is a failed call
not_none : (error : DiskError) → ¬ (error_of error ≡ NoneSaved)
not_none disk.Failed is = cc
not_none disk.NoMemory is = cc

not_long : (error : DiskError) (have : ℕ) → ¬ (error_of error ≡ TooLong have)
not_long disk.Failed have is = cc
not_long disk.NoMemory have is = cc

is_fault : (error : DiskError) → error_of error ≡ DiskFault → error ≡ disk.Failed
is_fault disk.Failed is = refl
is_fault disk.NoMemory is = cc

fails_as : {T : Type 0} (result : Result T SlotError) (error other : SlotError) → result ≡ Err error → IsErrOf result other → error ≡ other
fails_as result error other is failed = let same = sym is ∙ failed in cc

-- what a save or a load that gave up says of the calls of the disk
pub record GaveUp {T : Type 0} (result : Result T SlotError) (before now : ℕ) : Type 0 where
  pub none_saved : ¬ (IsErrOf result NoneSaved)
  pub too_long : (have : ℕ) → ¬ (IsErrOf result (TooLong have))
  pub fault : IsErrOf result DiskFault → Rose before now

pub gave_up : {T U : Type 0} (result : Result T SlotError) (error : DiskError) (before mid now : ℕ) → result ≡ Err (error_of error) → before ≤ mid → (IsErrOf {T = U} (Err error) disk.Failed → Rose mid now) → GaveUp result before now
gave_up result error before mid now is later cause = record {
  none_saved = λ failed. not_none error (fails_as result (error_of error) NoneSaved is failed);
  too_long = λ have failed. not_long error have (fails_as result (error_of error) (TooLong have) is failed);
  fault = λ failed.
      let rose = cause (ap (λ (e : DiskError). Err e) (is_fault error (fails_as result (error_of error) DiskFault is failed))) in
      omega (arith, rose, later);
}

-- what was never saved has no other error
pub none_no_fault : {T : Type 0} → ¬ (IsErrOf {T = T} (Err NoneSaved) DiskFault)
none_no_fault failed = cc

pub none_no_length : {T : Type 0} (have : ℕ) → ¬ (IsErrOf {T = T} (Err NoneSaved) (TooLong have))
none_no_length have long = cc
