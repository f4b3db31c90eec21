-- What a disk holds after its calls, and what a crash leaves of it.
use Rattle.std.proofs.Common.{◌≡◌, ⊎_elim, ℕ, zero, suc, ◌+◌, ◌-◌, ◌<◌, Bool, true, false, cond, ◌||◌, List, [], ◌∷◌, ◌++◌, length, take, drop, map, get_or, refl, sym, ◌∙◌, ap, arith, take-append-drop}
use Rattle.std.specs.Prelude.{replicate, ◌==◌}
use Rattle.std.proofs.lemmas.Bool.{true≢false, cases_Bool}
use Rattle.std.proofs.lemmas.List.{take_all, take_more, length-take, length-replicate}
use Rattle.crash_disk.specs.DiskView.{Image, Held, MayLeave, is_within, patched_image, bytes_at}
use Rattle.crash_disk.specs.Memory.{Span, span_of, byte_from, image_from, byte_by, byte_after, after_call, held_after, copied_span, copied_of, copied_spans, settles, settled_step, settled_count, left_by, first_held}
use Rattle.crash_disk.specs.declared.patch.Patch.{Patch}
use Rattle.crash_disk.specs.declared.patch.DiskCall.{DiskCall}
use Rattle.crash_disk.specs.declared.patch.DiskCall.TheVariants as call
use Rattle.crash_disk.specs.declared.patch.Copied.{Copied}
use Rattle.crash_disk.specs.declared.patch.Copied.TheVariants as copied

pub byte_from-image_from : (image : Image) (spans : List Span) (i : ℕ) → byte_from (image i) spans i ≡ image_from image spans i
byte_from-image_from image [] i = refl
byte_from-image_from image (span ∷ spans) i = byte_from-image_from (patched_image image span.at span.bytes) spans i

byte_by-after_call : (held : Held) (c : DiskCall) (i : ℕ) → byte_by (held.bytes i) c i ≡ (after_call held c).bytes i
byte_by-after_call held call.Read i = refl
byte_by-after_call held (call.Write patch true) i = refl
byte_by-after_call held (call.Write patch false) i = refl
byte_by-after_call held (call.Sync true) i = refl
byte_by-after_call held (call.Sync false) i = refl

pub byte_after-held_after : (held : Held) (calls : List DiskCall) (i : ℕ) → byte_after (held.bytes i) calls i ≡ (held_after held calls).bytes i
byte_after-held_after held [] i = refl
byte_after-held_after held (c ∷ calls) i = ap (λ b. byte_after b calls i) (byte_by-after_call held c i) ∙ byte_after-held_after (after_call held c) calls i

pub bytes_at-push : (image : Image) (at n : ℕ) → bytes_at image at (n + 1) ≡ bytes_at image at n ++ image (at + n) ∷ []
unfolding bytes_at
bytes_at-push image at zero = ap (λ i. image i ∷ []) (let e : at ≡ at + 0 = omega arith in e)
bytes_at-push image at (suc n) =
    ap (λ m. bytes_at image at m) (let e : suc n + 1 ≡ suc (n + 1) = omega arith in e) ∙
    ap (λ (xs : List ℕ). image at ∷ xs) (bytes_at-push image (suc at) n)
    ∙ ap (λ i. image at ∷ (bytes_at image (suc at) n ++ image i ∷ [])) (let e : suc at + n ≡ at + suc n = omega arith in e)

pub held_after-append : (held : Held) (xs ys : List DiskCall) → held_after held (xs ++ ys) ≡ held_after (held_after held xs) ys
held_after-append held [] ys = refl
held_after-append held (c ∷ xs) ys = held_after-append (after_call held c) xs ys

pub image_from-append : (image : Image) (xs ys : List Span) → image_from image (xs ++ ys) ≡ image_from (image_from image xs) ys
image_from-append image [] ys = refl
image_from-append image (span ∷ xs) ys = image_from-append (patched_image image span.at span.bytes) xs ys

done_call : (held : Held) (c : DiskCall) → (after_call held c).bytes ≡ image_from held.bytes (copied_of copied.Done c)
done_call held call.Read = refl
done_call held (call.Write patch true) = refl
done_call held (call.Write patch false) = refl
done_call held (call.Sync true) = refl
done_call held (call.Sync false) = refl

-- the writes that were done make what is read
pub image_from-done : (held : Held) (calls : List DiskCall) → (held_after held calls).bytes ≡ image_from held.bytes (copied_spans copied.Done calls)
image_from-done held [] = refl
image_from-done held (c ∷ calls) =
    image_from-done (after_call held c) calls
    ∙ ap (λ image. image_from image (copied_spans copied.Done calls)) (done_call held c)
    ∙ sym (image_from-append held.bytes (copied_of copied.Done c) (copied_spans copied.Done calls))

push_step : (b s : Bool) (n m k : ℕ) → n ≡ cond b (k + 1) m → settled_step n s ≡ cond b (suc k + 1) (settled_step m s)
push_step true s n m k is =
    let e : n ≡ suc k = omega arith in
    ap (λ j. settled_step j s) e ∙ (let f : suc (suc k) ≡ suc k + 1 = omega arith in f)
push_step false s n m k is = ap (λ j. settled_step j s) is

push_one : (s : Bool) → settled_step 0 s ≡ cond s (0 + 1) 0
push_one true = refl
push_one false = refl

-- the count with one more call
pub settled_count-push : (calls : List DiskCall) (c : DiskCall) → settled_count (calls ++ c ∷ []) ≡ cond (settles c) (length calls + 1) (settled_count calls)
settled_count-push [] c = push_one (settles c)
settled_count-push (first ∷ calls) c = push_step (settles c) (settles first) (settled_count (calls ++ c ∷ [])) (settled_count calls) (length calls) (settled_count-push calls c)

rest_zero : (c : DiskCall) (calls : List DiskCall) (s : Bool) → settles c ≡ s → settled_count calls ≡ 0 → settled_count (drop (settled_step 0 s) (c ∷ calls)) ≡ 0
rest_zero c calls true is none = none
rest_zero c calls false is none = ap (λ n. settled_step n (settles c)) none ∙ ap (λ b. settled_step 0 b) is

rest_step : (c : DiskCall) (calls : List DiskCall) (n : ℕ) → n ≡ settled_count calls → settled_count (drop n calls) ≡ 0 → settled_count (drop (settled_step n (settles c)) (c ∷ calls)) ≡ 0
rest_step c calls zero is rest = rest_zero c calls (settles c) refl (sym is)
rest_step c calls (suc n) is rest = rest

-- no sync was done after those that count
pub settled_count-rest : (calls : List DiskCall) → settled_count (drop (settled_count calls) calls) ≡ 0
settled_count-rest [] = refl
settled_count-rest (c ∷ calls) = rest_step c calls (settled_count calls) refl (settled_count-rest calls)

step_zero : (n : ℕ) (s : Bool) → settled_step n s ≡ 0 → (n ≡ 0) × (s ≡ false)
step_zero zero true is = absurd (omega arith)
step_zero zero false is = (refl, refl)
step_zero (suc n) s is = absurd (omega arith)

or_false : (x y : Bool) → (x || y) ≡ false → (x ≡ false) × (y ≡ false)
or_false true y is = absurd (true≢false is)
or_false false y is = (refl, is)

-- where nothing is pending after calls of which none settled, nothing was before, and the byte is as it was
record Quiet (held : Held) (calls : List DiskCall) (i : ℕ) : Type 0 where
  pub was : held.pending i ≡ false
  pub byte : (held_after held calls).bytes i ≡ held.bytes i

-- a patch leaves the bytes outside of it
pub patched-out : (image : Image) (at : ℕ) (bytes : List ℕ) (i : ℕ) → is_within at (length bytes) i ≡ false → patched_image image at bytes i ≡ image i
patched-out image at bytes i out = ap (λ b. cond b (get_or bytes (i - at) 0) (image i)) out

quiet_call : (held : Held) (c : DiskCall) (i : ℕ) → settles c ≡ false → (after_call held c).pending i ≡ false → Quiet held (c ∷ []) i
quiet_call held call.Read i s is = record { was = is; byte = refl }
quiet_call held (call.Write patch true) i s is =
    let both = or_false (held.pending i) (is_within patch.at (length patch.bytes.items) i) is in
    record { was = both.0; byte = patched-out held.bytes patch.at patch.bytes.items i both.1 }
quiet_call held (call.Write patch false) i s is = record { was = (or_false (held.pending i) (is_within patch.at (length patch.bytes.items) i) is).0; byte = refl }
quiet_call held (call.Sync true) i s is = absurd (true≢false s)
quiet_call held (call.Sync false) i s is = record { was = is; byte = refl }

quiet : (held : Held) (calls : List DiskCall) (i : ℕ) → settled_count calls ≡ 0 → (held_after held calls).pending i ≡ false → Quiet held calls i
quiet held [] i none is = record { was = is; byte = refl }
quiet held (c ∷ calls) i none is =
    let parts = step_zero (settled_count calls) (settles c) none in
    let rest = quiet (after_call held c) calls i parts.0 is in
    let here = quiet_call held c i parts.1 rest.was in
    record { was = here.was; byte = rest.byte ∙ here.byte }

-- what is copied of a write that does not reach an address leaves it
quiet_span : (image : Image) (how : Copied) (span : Span) (done : Bool) (i : ℕ) → is_within span.at (length span.bytes) i ≡ false → image_from image (copied_span how span done) i ≡ image i
quiet_span image copied.Done span true i out = patched-out image span.at span.bytes i out
quiet_span image copied.Done span false i out = refl
quiet_span image copied.Asked span done i out = patched-out image span.at span.bytes i out
quiet_span image copied.Torn span done i out =
    patched-out image span.at (replicate (length span.bytes) 255) i (ap (λ n. is_within span.at n i) (length-replicate (length span.bytes) 255) ∙ out)

quiet_copy : (image : Image) (how : Copied) (held : Held) (c : DiskCall) (i : ℕ) → settles c ≡ false → (after_call held c).pending i ≡ false → image_from image (copied_of how c) i ≡ image i
quiet_copy image how held call.Read i s is = refl
quiet_copy image how held (call.Write patch true) i s is = quiet_span image how (span_of patch) true i (or_false (held.pending i) (is_within patch.at (length patch.bytes.items) i) is).1
quiet_copy image how held (call.Write patch false) i s is = quiet_span image how (span_of patch) false i (or_false (held.pending i) (is_within patch.at (length patch.bytes.items) i) is).1
quiet_copy image how held (call.Sync done) i s is = refl

quiet_copies : (image : Image) (how : Copied) (held : Held) (calls : List DiskCall) (i : ℕ) → settled_count calls ≡ 0 → (held_after held calls).pending i ≡ false → image_from image (copied_spans how calls) i ≡ image i
quiet_copies image how held [] i none is = refl
quiet_copies image how held (c ∷ calls) i none is =
    let parts = step_zero (settled_count calls) (settles c) none in
    let rest = quiet (after_call held c) calls i parts.0 is in
    ap (λ (f : Image). f i) (image_from-append image (copied_of how c) (copied_spans how calls))
    ∙ quiet_copies (image_from image (copied_of how c)) how (after_call held c) calls i parts.0 is
    ∙ quiet_copy image how held c i parts.1 rest.was

quiet_left : (image : Image) (pick : ℕ) (held : Held) (calls : List DiskCall) (i : ℕ) → settled_count calls ≡ 0 → (held_after held calls).pending i ≡ false → image_from image (left_by pick calls) i ≡ image i
quiet_left image pick held calls i none is =
    ⊎_elim
    (λ (zero_is : (pick == 0) ≡ true). ap (λ b. image_from image (cond b [] (cond (pick == 1) (copied_spans copied.Asked calls) (copied_spans copied.Torn calls))) i) zero_is)
    (λ (other : (pick == 0) ≡ false). ap (λ b. image_from image (cond b [] (cond (pick == 1) (copied_spans copied.Asked calls) (copied_spans copied.Torn calls))) i) other
    ∙ ⊎_elim
    (λ (one_is : (pick == 1) ≡ true). ap (λ b. image_from image (cond b (copied_spans copied.Asked calls) (copied_spans copied.Torn calls)) i) one_is ∙ quiet_copies image copied.Asked held calls i none is)
    (λ (two_is : (pick == 1) ≡ false). ap (λ b. image_from image (cond b (copied_spans copied.Asked calls) (copied_spans copied.Torn calls)) i) two_is ∙ quiet_copies image copied.Torn held calls i none is)
    (cases_Bool (pick == 1)))
    (cases_Bool (pick == 0))

-- the image that a crash leaves is one that it may leave
pub crash_may_leave : (held : Held) (made : List DiskCall) (pick : ℕ) → MayLeave (held_after held made) (image_from (held_after held (take (settled_count made) made)).bytes (left_by pick (drop (settled_count made) made)))
crash_may_leave held made pick = record {
  elsewhere = λ i out.
      let s = settled_count made in
      let stable = held_after held (take s made) in
      let rest = drop s made in
      let whole : held_after held made ≡ held_after stable rest = ap (λ cs. held_after held cs) (sym (take-append-drop s made)) ∙ held_after-append held (take s made) rest in
      let none = settled_count-rest made in
      let is : (held_after stable rest).pending i ≡ false = ap (λ (h : Held). h.pending i) (sym whole) ∙ out in
      quiet_left stable.bytes pick stable rest i none is ∙ sym (quiet stable rest i none is).byte ∙ ap (λ (h : Held). h.bytes i) (sym whole);
}

-- the patches of a disk that a crash left
pub crash_bytes : (patches first : List Patch) (stable : List DiskCall) (left : List Span) → map span_of patches ≡ (map span_of first ++ copied_spans copied.Done stable) ++ left → (first_held patches).bytes ≡ image_from (held_after (first_held first) stable).bytes left
crash_bytes patches first stable left is =
    ap (λ spans. image_from (λ _. 0) spans) is
    ∙ image_from-append (λ _. 0) (map span_of first ++ copied_spans copied.Done stable) left
    ∙ ap (λ image. image_from image left) (image_from-append (λ _. 0) (map span_of first) (copied_spans copied.Done stable) ∙ sym (image_from-done (first_held first) stable))

-- the byte that is read at an address
pub read_byte : (patches : List Patch) (calls : List DiskCall) (i : ℕ) → byte_after (byte_from 0 (map span_of patches) i) calls i ≡ (held_after (first_held patches) (take (length calls) calls)).bytes i
read_byte patches calls i =
    ap (λ b. byte_after b calls i) (byte_from-image_from (λ _. 0) (map span_of patches) i)
    ∙ byte_after-held_after (first_held patches) calls i
    ∙ ap (λ cs. (held_after (first_held patches) cs).bytes i) (sym (take_all (length calls) calls (omega arith)))

-- the count of the calls so far, with one more
pub count_more : (calls : List DiskCall) (i : ℕ) (c : DiskCall) → i < length calls → c ≡ get_or calls i c → settled_count (take (i + 1) calls) ≡ cond (settles c) (i + 1) (settled_count (take i calls))
count_more calls i c less is =
    let size : length (take i calls) ≡ i = omega (arith, length-take i calls) in
    let more : take (i + 1) calls ≡ take i calls ++ c ∷ [] = take_more calls i c less ∙ ap (λ x. take i calls ++ x ∷ []) (sym is) in
    ap settled_count more ∙ settled_count-push (take i calls) c
    ∙ ap (λ n. cond (settles c) (n + 1) (settled_count (take i calls))) size

-- a disk that got no call
pub no_calls : (patches : List Patch) (calls : List DiskCall) → calls ≡ [] → (held_after (first_held patches) (take (length calls) calls)).bytes ≡ (first_held patches).bytes
no_calls patches calls none = ap (λ cs. (held_after (first_held patches) (take (length cs) cs)).bytes) none
