-- What a file holds after one call of the machine and another, and what a crash leaves meanwhile.
use Rattle.std.proofs.Common.{◌≡◌, ◌⊎◌, inl, inr, ⊎_elim, ℕ, zero, suc, ◌+◌, ◌-◌, ◌<◌, ◌≤◌, List, [], ◌∷◌, ◌++◌, length, take, drop, get_or, Bool, true, false, ◌||◌, cond, refl, ◌∙◌, ap, sym, subst, arith}
use Rattle.std.specs.Prelude.{replicate}
use mathlib.Core.Path.{fun_ext}
use Rattle.std.proofs.Math.Seq.{take-add}
use Rattle.std.proofs.lemmas.Bool.{cases_Bool, cases_lt, true≢false}
use Rattle.std.proofs.lemmas.Bool.Decides.{nat_tests}
use Rattle.std.proofs.lemmas.List.{get_or_append_left, get_or-append-add, length-append, length-take, take_all}
use Rattle.crash_disk.specs.DiskView.{Image, Held, MayLeave, DiskView, DiskAsk, Passes, Torn, IsAsBefore, IsPendingWithin, held_now, is_within, patched_image, after_write, bytes_at}
use Rattle.crash_disk.specs.RawFile.{RawView, disk_of, disk_with}
use Rattle.crash_disk.proofs.Replay.{patched-out}

held_same : (a b : Held) → ((i : ℕ) → a.bytes i ≡ b.bytes i) → ((i : ℕ) → a.pending i ≡ b.pending i) → a ≡ b
held_same a b bytes pending =
    ap (λ image. record { bytes = image; pending = a.pending }) (fun_ext bytes)
    ∙ ap (λ waits. record { bytes = b.bytes; pending = waits }) (fun_ext pending)

or_false : (x y : Bool) → (x || y) ≡ false → (x ≡ false) × (y ≡ false)
or_false true y is = absurd (true≢false is)
or_false false y is = (refl, is)

or_right : (x : Bool) → (x || true) ≡ true
or_right true = refl
or_right false = refl

or_left : (x y : Bool) → y ≡ false → (x || y) ≡ x
or_left true y is = refl
or_left false y is = is

-- a range of no addresses, and one behind another
within_none : (at i : ℕ) → is_within at 0 i ≡ false
within_none at i = grind (arith, nat_tests)

within_both : (at n m i : ℕ) → (is_within at n i || is_within (at + n) m i) ≡ is_within at (n + m) i
within_both at n m i = grind (arith, nat_tests)

within_wide : (at n m i : ℕ) → is_within (at + n) m i ≡ true → is_within at (n + m) i ≡ true
within_wide at n m i is = grind (arith, nat_tests)

within_first : (at n m i : ℕ) → is_within at n i ≡ true → is_within at (n + m) i ≡ true
within_first at n m i is = grind (arith, nat_tests)

-- a write of nothing
pub written-none : (held : Held) (at : ℕ) → after_write held at [] ≡ held
written-none held at = held_same (after_write held at []) held
    (λ i. patched-out held.bytes at [] i (within_none at i))
    (λ i. or_left (held.pending i) (is_within at 0 i) (within_none at i))

-- one write behind another
within_low : (at n i : ℕ) → is_within at n i ≡ true → at ≤ i
within_low at n i is = grind (arith, nat_tests)

within_high : (at n i : ℕ) → is_within at n i ≡ true → i < at + n
within_high at n i is = grind (arith, nat_tests)

patched_append : (image : Image) (at : ℕ) (xs ys : List ℕ) (i : ℕ) (first second : Bool) → is_within at (length xs) i ≡ first → is_within (at + length xs) (length ys) i ≡ second → is_within at (length (xs ++ ys)) i ≡ (first || second) → patched_image (patched_image image at xs) (at + length xs) ys i ≡ patched_image image at (xs ++ ys) i
patched_append image at xs ys i first true one two both =
    let low = within_low (at + length xs) (length ys) i two in
    ap (λ b. cond b (get_or ys (i - (at + length xs)) 0) (patched_image image at xs i)) two
    ∙ sym (ap (λ b. cond b (get_or (xs ++ ys) (i - at) 0) (image i)) (both ∙ or_right first)
    ∙ ap (λ k. get_or (xs ++ ys) k 0) (let e : i - at ≡ length xs + (i - (at + length xs)) = omega arith in e)
    ∙ get_or-append-add xs ys (i - (at + length xs)) 0)
patched_append image at xs ys i true false one two both =
    let low = within_low at (length xs) i one in
    let high = within_high at (length xs) i one in
    ap (λ b. cond b (get_or ys (i - (at + length xs)) 0) (patched_image image at xs i)) two
    ∙ ap (λ b. cond b (get_or xs (i - at) 0) (image i)) one
    ∙ sym (ap (λ b. cond b (get_or (xs ++ ys) (i - at) 0) (image i)) both
    ∙ get_or_append_left xs ys 0 (i - at) (omega arith))
patched_append image at xs ys i false false one two both =
    ap (λ b. cond b (get_or ys (i - (at + length xs)) 0) (patched_image image at xs i)) two
    ∙ ap (λ b. cond b (get_or xs (i - at) 0) (image i)) one
    ∙ sym (ap (λ b. cond b (get_or (xs ++ ys) (i - at) 0) (image i)) both)

within_append : (at : ℕ) (xs ys : List ℕ) (i : ℕ) → is_within at (length (xs ++ ys)) i ≡ (is_within at (length xs) i || is_within (at + length xs) (length ys) i)
within_append at xs ys i = ap (λ n. is_within at n i) (length-append xs ys) ∙ sym (within_both at (length xs) (length ys) i)

or_assoc : (x y z : Bool) → ((x || y) || z) ≡ (x || (y || z))
or_assoc true y z = refl
or_assoc false y z = refl

pub written-append : (held : Held) (at : ℕ) (xs ys : List ℕ) → after_write (after_write held at xs) (at + length xs) ys ≡ after_write held at (xs ++ ys)
written-append held at xs ys = held_same (after_write (after_write held at xs) (at + length xs) ys) (after_write held at (xs ++ ys))
    (λ i. patched_append held.bytes at xs ys i (is_within at (length xs) i) (is_within (at + length xs) (length ys) i) refl refl (within_append at xs ys i))
    (λ i. or_assoc (held.pending i) (is_within at (length xs) i) (is_within (at + length xs) (length ys) i) ∙ ap (λ b. held.pending i || b) (sym (within_append at xs ys i)))

-- what a write leaves, a crash may leave once it was asked
pub may_written : (held : Held) (at : ℕ) (bytes : List ℕ) (image : Image) → MayLeave held image → MayLeave (after_write held at bytes) image
may_written held at bytes image left = record {
  elsewhere = λ i out.
      let both = or_false (held.pending i) (is_within at (length bytes) i) out in
      left.elsewhere i both.0 ∙ sym (patched-out held.bytes at bytes i both.1);
}

pub may_torn : (old new : Held) (at n : ℕ) (image : Image) → Torn old new at n → MayLeave old image → MayLeave new image
may_torn old new at n image torn left = record {
  elsewhere = λ i out. ⊎_elim
      (λ (same : IsAsBefore old new i). left.elsewhere i (sym same.pending ∙ out) ∙ sym same.byte)
      (λ (waits : IsPendingWithin new at n i). absurd (true≢false (sym waits.pending ∙ out)))
      (torn.each i);
}

-- nothing changed
pub torn_none : (old new : Held) (at n : ℕ) → new ≡ old → Torn old new at n
torn_none old new at n same = record {
  each = λ i. inl (record { byte = ap (λ (h : Held). h.bytes i) same; pending = ap (λ (h : Held). h.pending i) same });
}

-- a write that failed behind one that was done
pub torn_behind : (old new : Held) (at : ℕ) (bytes : List ℕ) (m : ℕ) → Torn (after_write old at bytes) new (at + length bytes) m → Torn old new at (length bytes + m)
torn_behind old new at bytes m torn = record {
  each = λ i. ⊎_elim
      (λ (same : IsAsBefore (after_write old at bytes) new i). ⊎_elim
      (λ (inside : is_within at (length bytes) i ≡ true). inr (record {
        within = within_first at (length bytes) m i inside;
        pending = same.pending ∙ ap (λ b. old.pending i || b) inside ∙ or_right (old.pending i);
      }))
      (λ (out : is_within at (length bytes) i ≡ false). inl (record {
        byte = same.byte ∙ patched-out old.bytes at bytes i out;
        pending = same.pending ∙ or_left (old.pending i) (is_within at (length bytes) i) out;
      }))
      (cases_Bool (is_within at (length bytes) i)))
      (λ (waits : IsPendingWithin new (at + length bytes) m i). inr (record { within = within_wide at (length bytes) m i waits.within; pending = waits.pending }))
      (torn.each i);
}

left_in : (a b : Held) (image : Image) → b ≡ a → MayLeave b image → MayLeave a image
left_in a b image same left = subst (λ h. MayLeave h image) same left

-- no call, and one call behind another where a crash between them leaves what it may leave before them or after them
pub passes_here : (a : DiskView) → Passes a a
passes_here a = record {
  later = omega arith;
  past = λ k le. refl;
  during = λ k since until image left. inl (let at : k ≡ a.moment = omega arith in subst (λ m. MayLeave (a.held m) image) at left);
}

pub passes_through : (a b c : DiskView) → Passes a b → Passes b c → ((image : Image) → MayLeave (held_now b) image → MayLeave (held_now a) image ⊎ MayLeave (held_now c) image) → Passes a c
passes_through a b c first second between = record {
  later = (let l = first.later in let m = second.later in omega arith);
  past = λ k le. second.past k (let l = first.later in omega arith) ∙ first.past k le;
  during = λ k since until image left. ⊎_elim
      (λ (after : b.moment < k). ⊎_elim (between image) (λ last. inr last) (second.during k (omega arith) until image left))
      (λ (before : k ≤ b.moment). ⊎_elim (λ one. inl one) (between image) (first.during k since before image (left_in _ _ image (second.past k before) left)))
      (cases_lt b.moment k);
}

-- the same of a disk over the file
pub passes_with : (a b : RawView) (faults faults' : ℕ) (reads reads' : List DiskAsk) → Passes (disk_of a) (disk_of b) → Passes (disk_with a faults reads) (disk_with b faults' reads')
passes_with a b faults faults' reads reads' passes = record { later = passes.later; past = passes.past; during = passes.during }

-- bytes behind others
pub bytes_at-append : (image : Image) (at n m : ℕ) → bytes_at image at (n + m) ≡ bytes_at image at n ++ bytes_at image (at + n) m
unfolding bytes_at
bytes_at-append image at zero m =
    ap (λ k. bytes_at image at k) (let e : 0 + m ≡ m = omega arith in e)
    ∙ ap (λ k. bytes_at image k m) (let e : at ≡ at + 0 = omega arith in e)
bytes_at-append image at (suc n) m =
    ap (λ k. bytes_at image at k) (let e : suc n + m ≡ suc (n + m) = omega arith in e)
    ∙ ap (λ xs. image at ∷ xs) (bytes_at-append image (suc at) n m)
    ∙ ap (λ k. image at ∷ (bytes_at image (suc at) n ++ bytes_at image k m)) (let e : suc at + n ≡ at + suc n = omega arith in e)

-- behind the end of a file are zeros
pub bytes_at-zeros : (image : Image) (at n : ℕ) → ((i : ℕ) → at ≤ i → image i ≡ 0) → bytes_at image at n ≡ replicate n 0
unfolding bytes_at
bytes_at-zeros image at zero none = refl
bytes_at-zeros image at (suc n) none =
    ap (λ b. b ∷ bytes_at image (suc at) n) (none at (omega arith))
    ∙ ap (λ xs. 0 ∷ xs) (bytes_at-zeros image (suc at) n (λ i le. none i (omega arith)))

-- after a write that is so far done up to some bytes, and takes more
pub written_more : (held : Held) (at : ℕ) (bytes : List ℕ) (taken count : ℕ) → taken ≤ length bytes → after_write (after_write held at (take taken bytes)) (at + taken) (take count (drop taken bytes)) ≡ after_write held at (take (taken + count) bytes)
written_more held at bytes taken count within =
    let size : length (take taken bytes) ≡ taken = omega (arith, length-take taken bytes) in
    ap (λ n. after_write (after_write held at (take taken bytes)) (at + n) (take count (drop taken bytes))) (sym size)
    ∙ written-append held at (take taken bytes) (take count (drop taken bytes))
    ∙ ap (λ xs. after_write held at xs) (sym (take-add taken count bytes))

-- and then fails
pub torn_more : (held mid new : Held) (at : ℕ) (bytes : List ℕ) (taken : ℕ) → taken ≤ length bytes → mid ≡ after_write held at (take taken bytes) → Torn mid new (at + taken) (length bytes - taken) → Torn held new at (length bytes)
torn_more held mid new at bytes taken within is torn =
    let size : length (take taken bytes) ≡ taken = omega (arith, length-take taken bytes) in
    let first = subst (λ h. Torn h new (at + taken) (length bytes - taken)) is torn in
    let behind = subst (λ k. Torn (after_write held at (take taken bytes)) new (at + k) (length bytes - taken)) (sym size) first in
    let all : length (take taken bytes) + (length bytes - taken) ≡ length bytes = omega (arith, size) in
    subst (λ n. Torn held new at n) all (torn_behind held new at (take taken bytes) (length bytes - taken) behind)

-- a crash in the middle of a write leaves what it may leave after it
pub passes_written : (a b c : DiskView) (at : ℕ) (bytes : List ℕ) → Passes a b → Passes b c → held_now c ≡ after_write (held_now b) at bytes → Passes a c
passes_written a b c at bytes first second is = passes_through a b c first second
    (λ image left. inr (subst (λ h. MayLeave h image) (sym is) (may_written (held_now b) at bytes image left)))

pub passes_torn : (a b c : DiskView) (at n : ℕ) → Passes a b → Passes b c → Torn (held_now b) (held_now c) at n → Passes a c
passes_torn a b c at n first second torn = passes_through a b c first second (λ image left. inr (may_torn (held_now b) (held_now c) at n image torn left))

-- and where nothing changed before, what it may leave before it
pub passes_same : (a b c : DiskView) → Passes a b → Passes b c → held_now b ≡ held_now a → Passes a c
passes_same a b c first second same = passes_through a b c first second (λ image left. inl (left_in (held_now a) (held_now b) image same left))

-- a buffer after one more read
pub filled_more : (old new got given : List ℕ) (filled count : ℕ) → take filled new ≡ take filled old → take filled old ≡ given → take count (drop filled new) ≡ got → take (filled + count) new ≡ given ++ got
filled_more old new got given filled count kept before more =
    take-add filled count new ∙ ap (λ xs. xs ++ take count (drop filled new)) (kept ∙ before) ∙ ap (λ xs. given ++ xs) more

-- a buffer that was cleared behind what was read, at the end of the file
pub cleared_bytes : (image : Image) (mid : List ℕ) (at filled n : ℕ) → length mid ≡ n → filled ≤ n → take filled mid ≡ bytes_at image at filled → ((i : ℕ) → at + filled ≤ i → image i ≡ 0) → take filled mid ++ replicate (length mid - filled) 0 ≡ bytes_at image at n
cleared_bytes image mid at filled n size within before none =
    let left : length mid - filled ≡ n - filled = omega arith in
    let whole : filled + (n - filled) ≡ n = omega arith in
    ap (λ k. take filled mid ++ replicate k 0) left
    ∙ ap (λ xs. xs ++ replicate (n - filled) 0) before
    ∙ ap (λ xs. bytes_at image at filled ++ xs) (sym (bytes_at-zeros image (at + filled) (n - filled) none))
    ∙ sym (bytes_at-append image at filled (n - filled))
    ∙ ap (λ k. bytes_at image at k) whole

-- a buffer that is full
pub full_bytes : (image : Image) (bytes : List ℕ) (at filled n : ℕ) → length bytes ≡ n → filled ≤ length bytes → n ≤ filled → take filled bytes ≡ bytes_at image at filled → bytes ≡ bytes_at image at n
full_bytes image bytes at filled n size within full before =
    let all : filled ≡ n = omega arith in
    sym (take_all filled bytes (omega arith)) ∙ before ∙ ap (λ k. bytes_at image at k) all
