-- What the content of an image depends on.
use Rattle.std.proofs.Common.{◌≡◌, ◌≢◌, ◌⊎◌, inl, inr, ⊎_elim, ℕ, ◌+◌, ◌<◌, ◌≤◌, true, false, List, length, refl, sym, ◌∙◌, ap, subst, arith, cond, ◌==◌, Option, Some, None}
use Rattle.std.specs.Int.{w64, from_be_bytes}
use Rattle.std.proofs.lemmas.Bool.{cases_eq, cases_Bool, eq-eqb}
use Rattle.std.proofs.lemmas.Bool.Decides.{nat_tests}
use Rattle.crash_disk.specs.DiskView.{Image, bytes_at, is_within}
use Rattle.crash_disk.specs.Layout.{start_of, head_at, is_open, Saved, content_from, saved_in, next, newer, bytes_of, content}
use Rattle.crash_disk.specs.Crash.{other, number_after, IsTarget, IsClosed, IsStaged, SameContent}
use Rattle.crash_disk.specs.declared.slots.head.Head.{Head}
use Rattle.crash_disk.specs.declared.slots.head.Slot.{Slot}
use Rattle.crash_disk.specs.declared.slots.head.Slot.TheVariants.{Zero, One}
use Rattle.crash_disk.specs.declared.slots.target.Target.{Target}
use Rattle.crash_disk.proofs.Bytes.{bytes_at-same}
use Rattle.crash_disk.specs.Within.{IsSameBut}
use Rattle.crash_disk.proofs.Near.{out_before, out_behind}

-- two images agree on a slot
abbrev pub AgreeOn : ℕ → Slot → Image → Image → Type 0
AgreeOn room slot a b = (i : ℕ) → start_of room slot ≤ i → i < start_of room slot + (16 + room) → a i ≡ b i

made : ℕ → ℕ → ℕ → Head
made gate number length = record { gate = gate; number = number; length = length }

head-same : (a b : Image) (room : ℕ) (slot : Slot) → AgreeOn room slot a b → head_at a (start_of room slot) ≡ head_at b (start_of room slot)
unfolding made
head-same a b room slot agree =
    let start = start_of room slot in
    let gate : a start ≡ b start = agree start (omega arith) (omega arith) in
    let number : a (start + 1) ≡ b (start + 1) = agree (start + 1) (omega arith) (omega arith) in
    let bytes : bytes_at a (start + 2) 8 ≡ bytes_at b (start + 2) 8 = bytes_at-same a b (start + 2) 8 (λ i low high. agree i (omega arith) (omega arith)) in
    let size : from_be_bytes w64 (bytes_at a (start + 2) 8) ≡ from_be_bytes w64 (bytes_at b (start + 2) 8) = ap (λ l. from_be_bytes w64 l) bytes in
    ap (λ g. made g (a (start + 1)) (from_be_bytes w64 (bytes_at a (start + 2) 8))) gate
    ∙ ap (λ n. made (b start) n (from_be_bytes w64 (bytes_at a (start + 2) 8))) number
    ∙ ap (λ s. made (b start) (b (start + 1)) s) size

-- what an open slot says of itself
pub open_gate_is : (room : ℕ) (h : Head) → is_open room h ≡ true → h.gate ≡ 1
open_gate_is room h is = grind (arith, nat_tests)

pub open_number : (room : ℕ) (h : Head) → is_open room h ≡ true → h.number ≤ 2
open_number room h is = grind (arith, nat_tests)

pub open_fits : (room : ℕ) (h : Head) → is_open room h ≡ true → h.length ≤ room
open_fits room h is = grind (arith, nat_tests)

pub closed_by_gate : (room : ℕ) (h : Head) → h.gate ≢ 1 → is_open room h ≡ false
closed_by_gate room h shut = grind (arith, nat_tests)

pub open_by : (room : ℕ) (h : Head) → h.gate ≡ 1 → h.number ≤ 2 → h.length ≤ room → is_open room h ≡ true
open_by room h gate number size = grind (arith, nat_tests)

made_saved : ℕ → List ℕ → Option Saved
made_saved number bytes = Some (record { number = number; content = bytes })

-- the slot that begins there, by its head
pub saved_shut : (image : Image) (room : ℕ) (slot : Slot) → is_open room (head_at image (start_of room slot)) ≡ false → saved_in image room slot ≡ None
saved_shut image room slot shut =
    let start = start_of room slot in
    ap (λ b. cond b (let s : Option Saved = Some (record { number = image (start + 1); content = content_from image start }) in s) None) shut

pub saved_open : (image : Image) (room : ℕ) (slot : Slot) → is_open room (head_at image (start_of room slot)) ≡ true → saved_in image room slot ≡ Some (record { number = image (start_of room slot + 1); content = content_from image (start_of room slot) })
saved_open image room slot is =
    let start = start_of room slot in
    ap (λ b. cond b (let s : Option Saved = Some (record { number = image (start + 1); content = content_from image start }) in s) None) is

content_from-same : (a b : Image) (room : ℕ) (slot : Slot) → AgreeOn room slot a b → (head_at b (start_of room slot)).length ≤ room → content_from a (start_of room slot) ≡ content_from b (start_of room slot)
content_from-same a b room slot agree fits =
    let start = start_of room slot in
    let size : (head_at a start).length ≡ (head_at b start).length = ap (λ (h : Head). h.length) (head-same a b room slot agree) in
    ap (λ n. bytes_at a (start + 16) n) size
    ∙ bytes_at-same a b (start + 16) (head_at b start).length (λ i low high. agree i (omega arith) (omega arith))

pub saved_in-same : (a b : Image) (room : ℕ) (slot : Slot) → AgreeOn room slot a b → saved_in a room slot ≡ saved_in b room slot
unfolding made_saved
saved_in-same a b room slot agree =
    let start = start_of room slot in
    let heads = head-same a b room slot agree in
    ⊎_elim
    (λ (is : is_open room (head_at b start) ≡ true).
    saved_open a room slot (ap (is_open room) heads ∙ is)
    ∙ ap (λ n. made_saved n (content_from a start)) (ap (λ (h : Head). h.number) heads)
    ∙ ap (λ xs. made_saved (b (start + 1)) xs) (content_from-same a b room slot agree (open_fits room (head_at b start) is))
    ∙ sym (saved_open b room slot is))
    (λ (shut : is_open room (head_at b start) ≡ false).
    saved_shut a room slot (ap (is_open room) heads ∙ shut) ∙ sym (saved_shut b room slot shut))
    (cases_Bool (is_open room (head_at b start)))

-- the content by a slot and the one beside it
side : Slot → Option Saved → Option Saved → Option Saved
side Zero here beside = newer here beside
side One here beside = newer beside here

content_side : (image : Image) (room : ℕ) (slot : Slot) → content image room ≡ bytes_of (side slot (saved_in image room slot) (saved_in image room (other slot)))
unfolding side
content_side image room Zero = refl
content_side image room One = refl

newer-none : (first : Option Saved) → newer first None ≡ first
newer-none None = refl
newer-none (Some first) = refl

side-none : (slot : Slot) (beside : Option Saved) → side slot None beside ≡ beside
unfolding side
side-none Zero beside = refl
side-none One beside = newer-none beside

-- where a slot is closed, the content is what the one beside it holds
pub content_beside : (image : Image) (room : ℕ) (slot : Slot) → saved_in image room slot ≡ None → content image room ≡ bytes_of (saved_in image room (other slot))
content_beside image room slot shut =
    content_side image room slot
    ∙ ap (λ s. bytes_of (side slot s (saved_in image room (other slot)))) shut
    ∙ ap bytes_of (side-none slot (saved_in image room (other slot)))

-- the number after the next one is never the one itself
pub next-next : (n m : ℕ) → n ≤ 2 → m ≡ next n → (n == next m) ≡ false
next-next n m small is = grind (arith, nat_tests)

fits_number : Option Saved → Type 0
fits_number None = Unit {0}
fits_number (Some saved) = saved.number ≤ 2

-- where a slot has the number that comes after that of the one beside it, it is the newer
newer_one : (first : Option Saved) (saved : Saved) → saved.number ≡ number_after first → newer first (Some saved) ≡ Some saved
newer_one None saved is = refl
newer_one (Some first) saved is = ap (λ b. cond b (Some saved) (Some first)) (eq-eqb saved.number (next first.number) is)

newer_zero : (saved : Saved) (one : Option Saved) → saved.number ≡ number_after one → fits_number one → newer (Some saved) one ≡ Some saved
unfolding fits_number
newer_zero saved None is fits = refl
newer_zero saved (Some one) is fits = ap (λ b. cond b (Some one) (Some saved)) (next-next one.number saved.number fits is)

side-newest : (slot : Slot) (saved : Saved) (beside : Option Saved) → saved.number ≡ number_after beside → fits_number beside → side slot (Some saved) beside ≡ Some saved
unfolding side
side-newest Zero saved beside is fits = newer_zero saved beside is fits
side-newest One saved beside is fits = newer_one beside saved is

saved-fits : (image : Image) (room : ℕ) (slot : Slot) → fits_number (saved_in image room slot)
unfolding fits_number
saved-fits image room slot =
    let start = start_of room slot in
    ⊎_elim
    (λ (is : is_open room (head_at image start) ≡ true). subst fits_number (sym (saved_open image room slot is)) (open_number room (head_at image start) is))
    (λ (shut : is_open room (head_at image start) ≡ false). subst fits_number (sym (saved_shut image room slot shut)) tt)
    (cases_Bool (is_open room (head_at image start)))

pub content_newest : (image : Image) (room : ℕ) (slot : Slot) (saved : Saved) → saved_in image room slot ≡ Some saved → saved.number ≡ number_after (saved_in image room (other slot)) → content image room ≡ Some saved.content
content_newest image room slot saved is number =
    content_side image room slot
    ∙ ap (λ s. bytes_of (side slot s (saved_in image room (other slot)))) is
    ∙ ap bytes_of (side-newest slot saved (saved_in image room (other slot)) number (saved-fits image room (other slot)))

pub number_after-small : (beside : Option Saved) → number_after beside ≤ 2
number_after-small None = omega arith
number_after-small (Some saved) = omega arith

-- images that agree on both slots have one content
pub content-same : (a b : Image) (room : ℕ) → ((i : ℕ) → a i ≡ b i) → content a room ≡ content b room
content-same a b room agree =
    ap (λ s. bytes_of (newer s (saved_in a room One))) (saved_in-same a b room Zero (λ i low high. agree i))
    ∙ ap (λ s. bytes_of (newer (saved_in b room Zero) s)) (saved_in-same a b room One (λ i low high. agree i))

-- n addresses within a slot leave the one beside it as it is
pub beside-same : (base image : Image) (room : ℕ) (slot : Slot) (at n : ℕ) → start_of room slot ≤ at → at + n ≤ start_of room slot + (16 + room) → IsSameBut at n base image → saved_in image room (other slot) ≡ saved_in base room (other slot)
beside-same base image room Zero at n low high same = saved_in-same image base room One (λ i begins ends. same.bytes i (out_behind at n i (omega arith)))
beside-same base image room One at n low high same = saved_in-same image base room Zero (λ i begins ends. same.bytes i (out_before at n i (omega arith)))

shut-saved : (image : Image) (room : ℕ) (target : Target) → IsClosed image room target → saved_in image room target.slot ≡ None
shut-saved image room target shut = saved_shut image room target.slot (closed_by_gate room (head_at image (start_of room target.slot)) shut)

away_from_gate : (start i : ℕ) → i ≢ start → is_within start 1 i ≡ false
away_from_gate start i away = grind (arith, nat_tests)

-- While one gate is written, whatever is there the content stays.
pub gate_shuts : (base image : Image) (room : ℕ) (target : Target) → IsTarget base room target → base (start_of room target.slot) ≡ 1 → IsSameBut (start_of room target.slot) 1 base image → SameContent base room image
gate_shuts base image room target is was same =
    let start = start_of room target.slot in
    elim (cases_eq (image start) 1) [
      | inl stays ↦ content-same image base room (λ i. elim (cases_eq i start) [
        | inl here ↦ ap image here ∙ stays ∙ sym was ∙ ap base (sym here)
        | inr away ↦ same.bytes i (away_from_gate start i away)
      ])
      | inr shut ↦ content_beside image room target.slot (shut-saved image room target shut)
          ∙ ap bytes_of (beside-same base image room target.slot start 1 (omega arith) (omega arith) same)
          ∙ sym is.kept
    ]

-- Behind a closed gate anything may be written.
pub behind_gate : (base image : Image) (room : ℕ) (target : Target) → IsTarget base room target → IsClosed base room target → IsSameBut (start_of room target.slot + 1) (15 + room) base image → SameContent base room image
behind_gate base image room target is shut same =
    let start = start_of room target.slot in
    let gate : image start ≡ base start = same.bytes start (out_before (start + 1) (15 + room) start (omega arith)) in
    content_beside image room target.slot (shut-saved image room target (λ e. shut (sym gate ∙ e)))
    ∙ ap bytes_of (beside-same base image room target.slot (start + 1) (15 + room) (omega arith) (omega arith) same)
    ∙ sym is.kept

pub still_target : (base image : Image) (room : ℕ) (target : Target) (at n : ℕ) → IsTarget base room target → SameContent base room image → start_of room target.slot ≤ at → at + n ≤ start_of room target.slot + (16 + room) → IsSameBut at n base image → IsTarget image room target
still_target base image room target at n is content low high same =
    let beside = beside-same base image room target.slot at n low high same in
    record {
      kept = content ∙ is.kept ∙ ap bytes_of (sym beside);
      number_is = is.number_is ∙ ap number_after (sym beside);
    }

-- An open gate before what was staged makes it the content.
pub gate_opens : (base image : Image) (room : ℕ) (target : Target) (bytes : List ℕ) → IsTarget base room target → IsStaged base room target bytes → length bytes ≤ room → IsSameBut (start_of room target.slot) 1 base image → image (start_of room target.slot) ≡ 1 → content image room ≡ Some bytes
gate_opens base image room target bytes is staged fits same opens =
    let start = start_of room target.slot in
    let beside = beside-same base image room target.slot start 1 (omega arith) (omega arith) same in
    let number : image (start + 1) ≡ target.number = same.bytes (start + 1) (out_behind start 1 (start + 1) (omega arith)) ∙ staged.number_is in
    let small : target.number ≤ 2 = subst (λ n. n ≤ 2) (sym is.number_is) (number_after-small (saved_in base room (other target.slot))) in
    let size : (head_at image start).length ≡ (head_at base start).length =
    ap (λ l. from_be_bytes w64 l) (bytes_at-same image base (start + 2) 8 (λ i low high. same.bytes i (out_behind start 1 i (omega arith)))) in
    let holds : content_from image start ≡ bytes =
    ap (λ n. bytes_at image (start + 16) n) size
    ∙ bytes_at-same image base (start + 16) (head_at base start).length (λ i low high. same.bytes i (out_behind start 1 i (omega arith)))
    ∙ staged.content_is in
    let is_open_now : is_open room (head_at image start) ≡ true = open_by room (head_at image start) opens (subst (λ n. n ≤ 2) (sym number) small) (subst (λ n. n ≤ room) (sym (size ∙ staged.length_is)) fits) in
    content_newest image room target.slot _ (saved_open image room target.slot is_open_now) (number ∙ is.number_is ∙ ap number_after (sym beside))
    ∙ ap (λ (xs : List ℕ). Some xs) holds

-- While the gate of what was staged is written, the content is as it was or what was staged.
pub gate_turns : (base image : Image) (room : ℕ) (target : Target) (bytes : List ℕ) → IsTarget base room target → IsStaged base room target bytes → length bytes ≤ room → IsSameBut (start_of room target.slot) 1 base image → SameContent base room image ⊎ (content image room ≡ Some bytes)
gate_turns base image room target bytes is staged fits same =
    let start = start_of room target.slot in
    elim (cases_eq (image start) 1) [
      | inl opens ↦ inr (gate_opens base image room target bytes is staged fits same opens)
      | inr shut ↦ inl (content_beside image room target.slot (shut-saved image room target shut)
          ∙ ap bytes_of (beside-same base image room target.slot start 1 (omega arith) (omega arith) same)
          ∙ sym is.kept)
    ]
