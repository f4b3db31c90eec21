-- What a disk holds while writes stay within one range, and what a crash leaves then.
use Rattle.std.proofs.Common.{◌≡◌, ⊎_elim, ℕ, ◌+◌, ◌-◌, ◌<◌, ◌≤◌, Bool, true, false, List, length, get_or, refl, sym, ◌∙◌, ap, subst, arith, cond, ◌||◌}
use Rattle.std.proofs.lemmas.Bool.{true≢false}
use Rattle.std.proofs.lemmas.Bool.Decides.{nat_tests}
use Rattle.crash_disk.specs.DiskView.{Image, Held, MayLeave, is_within, patched_image, awaiting, after_write, synced_file, Torn, IsAsBefore, IsPendingWithin}
use Rattle.crash_disk.proofs.Replay.{patched-out}
use Rattle.crash_disk.specs.Crash.{IsSettled}
use Rattle.crash_disk.specs.Within.{IsNear, IsSameBut}

-- an address outside of a range lies before it or behind it
pub out_before : (at n i : ℕ) → i < at → is_within at n i ≡ false
out_before at n i less = grind (arith, nat_tests)

pub out_behind : (at n i : ℕ) → at + n ≤ i → is_within at n i ≡ false
out_behind at n i more = grind (arith, nat_tests)

pub in_range : (at n i : ℕ) → at ≤ i → i < at + n → is_within at n i ≡ true
in_range at n i low high = grind (arith, nat_tests)

pub out_narrow : (at n low m i : ℕ) → at ≤ low → low + m ≤ at + n → is_within at n i ≡ false → is_within low m i ≡ false
out_narrow at n low m i begins ends out = grind (arith, nat_tests)

-- what a patch puts
pub patched-in : (image : Image) (at : ℕ) (bytes : List ℕ) (k : ℕ) → k < length bytes → patched_image image at bytes (at + k) ≡ get_or bytes k 0
patched-in image at bytes k less =
    ap (λ b. cond b (get_or bytes (at + k - at) 0) (image (at + k))) (in_range at (length bytes) (at + k) (omega arith) (omega arith))
    ∙ ap (λ j. get_or bytes j 0) (let e : at + k - at ≡ k = omega arith in e)

pub near_left : (at n : ℕ) (base : Image) (held : Held) (image : Image) → IsNear at n base held → MayLeave held image → IsSameBut at n base image
near_left at n base held image near left = record {
  bytes = λ i out. left.elsewhere i (near.settled i out) ∙ near.bytes i out;
}

pub near_settled : (at n : ℕ) (held : Held) → IsSettled held → IsNear at n held.bytes held
near_settled at n held is = record { bytes = λ i out. refl; settled = λ i out. is.stands i }

pub settled_left : (held : Held) (image : Image) → IsSettled held → MayLeave held image → (i : ℕ) → image i ≡ held.bytes i
settled_left held image is left i = left.elsewhere i (is.stands i)

pub synced_settled : (held : Held) → IsSettled (synced_file held)
synced_settled held = record { stands = λ i. refl }

awaiting-out : (pending : ℕ → Bool) (at n i : ℕ) → pending i ≡ false → is_within at n i ≡ false → awaiting pending at n i ≡ false
awaiting-out pending at n i old out = ap (λ b. b || is_within at n i) old ∙ out

pub near_written : (at n : ℕ) (base : Image) (held : Held) (low : ℕ) (bytes : List ℕ) → at ≤ low → low + length bytes ≤ at + n → IsNear at n base held → IsNear at n base (after_write held low bytes)
near_written at n base held low bytes begins ends near = record {
  bytes = λ i out. patched-out held.bytes low bytes i (out_narrow at n low (length bytes) i begins ends out) ∙ near.bytes i out;
  settled = λ i out. awaiting-out held.pending low (length bytes) i (near.settled i out) (out_narrow at n low (length bytes) i begins ends out);
}

-- outside of the range a write that failed left each address as it was
torn_out : (held new : Held) (low m i : ℕ) → Torn held new low m → is_within low m i ≡ false → IsAsBefore held new i
torn_out held new low m i torn out = ⊎_elim
    (λ (same : IsAsBefore held new i). same)
    (λ (waits : IsPendingWithin new low m i). absurd (true≢false (sym waits.within ∙ out)))
    (torn.each i)

pub near_torn : (at n : ℕ) (base : Image) (held new : Held) (low m : ℕ) → at ≤ low → low + m ≤ at + n → IsNear at n base held → Torn held new low m → IsNear at n base new
near_torn at n base held new low m begins ends near torn = record {
  bytes = λ i out. (torn_out held new low m i torn (out_narrow at n low m i begins ends out)).byte ∙ near.bytes i out;
  settled = λ i out. (torn_out held new low m i torn (out_narrow at n low m i begins ends out)).pending ∙ near.settled i out;
}

pub near_same : (at n : ℕ) (base : Image) (held new : Held) → new ≡ held → IsNear at n base held → IsNear at n base new
near_same at n base held new same near = subst (λ h. IsNear at n base h) (sym same) near

pub near_synced : (at n : ℕ) (base : Image) (held : Held) → IsNear at n base held → IsNear at n base (synced_file held)
near_synced at n base held near = record { bytes = near.bytes; settled = λ i out. refl }
