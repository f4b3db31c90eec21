-- The slot that a save writes to lies beside the one that holds the content.
use Rattle.std.proofs.Common.{◌≡◌, ℕ, ◌+◌, ◌≤◌, ◌==◌, IsTrue, arith, Bool, true, false, cond, List, refl, sym, ◌∙◌, ap, subst, Option, Some, None}
use Rattle.std.proofs.lemmas.Bool.Decides.{nat_tests}
use Rattle.crash_disk.specs.DiskView.{Image, bytes_at}
use Rattle.crash_disk.specs.Layout.{start_of, head_at, is_open, Saved, content_from, saved_in, next, newer, bytes_of, content, newer_by, newer_head, target_by}
use Rattle.crash_disk.specs.Crash.{other, number_after, IsTarget, TellsGate}
use Rattle.crash_disk.specs.declared.slots.head.Head.{Head}
use Rattle.crash_disk.specs.declared.slots.head.Slot.{Slot}
use Rattle.crash_disk.specs.declared.slots.head.Slot.TheVariants.{Zero, One}
use Rattle.crash_disk.specs.declared.slots.target.Target.{Target}

abbrev by_head : Bool → Head → List ℕ → Option Saved
by_head is_open head bytes = cond is_open (Some (record { number = head.number; content = bytes })) None

-- of what the two slots hold, what the one beside this holds
abbrev beside : Slot → Option Saved → Option Saved → Option Saved
beside Zero zero one = one
beside One zero one = zero

record IsBeside (saved : Option Saved) (target : Target) (zero one : Option Saved) : Type 0 where
  pub kept : bytes_of saved ≡ bytes_of (beside target.slot zero one)
  pub number_is : target.number ≡ number_after (beside target.slot zero one)

both_open : (after : Bool) (zero one : Head) (a b : List ℕ) → IsBeside (cond after (by_head true one b) (by_head true zero a)) (target_by (newer_by true true after zero one) zero one) (by_head true zero a) (by_head true one b)
both_open true zero one a b = record { kept = refl; number_is = refl }
both_open false zero one a b = record { kept = refl; number_is = refl }

chosen_by : (z o : Bool) (zero one : Head) (a b : List ℕ) → IsBeside (newer (by_head z zero a) (by_head o one b)) (target_by (newer_by z o (one.number == next zero.number) zero one) zero one) (by_head z zero a) (by_head o one b)
chosen_by false false zero one a b = record { kept = refl; number_is = refl }
chosen_by false true zero one a b = record { kept = refl; number_is = refl }
chosen_by true false zero one a b = record { kept = refl; number_is = refl }
chosen_by true true zero one a b = both_open (one.number == next zero.number) zero one a b

beside-other : (image : Image) (room : ℕ) (slot : Slot) → beside slot (saved_in image room Zero) (saved_in image room One) ≡ saved_in image room (other slot)
beside-other image room Zero = refl
beside-other image room One = refl

pub chosen : (image : Image) (room : ℕ) → IsTarget image room (target_by (newer_head room (head_at image (start_of room Zero)) (head_at image (start_of room One))) (head_at image (start_of room Zero)) (head_at image (start_of room One)))
chosen image room =
    let zero = head_at image (start_of room Zero) in
    let one = head_at image (start_of room One) in
    let target = target_by (newer_head room zero one) zero one in
    let by = chosen_by (is_open room zero) (is_open room one) zero one (content_from image (start_of room Zero)) (content_from image (start_of room One)) in
    record {
      kept = by.kept ∙ ap bytes_of (beside-other image room target.slot);
      number_is = by.number_is ∙ ap number_after (beside-other image room target.slot);
    }

some_same : {A : Type 0} {x y : A} → Some x ≡ Some y → x ≡ y
some_same e = cc

none_some : {A : Type 0} {x : A} → None ≡ Some x → ⊥
none_some e = cc

-- of what belongs to the two slots, what belongs to this one
pick : {A : Type 0} → Slot → A → A → A
pick Zero zero one = zero
pick One zero one = one

record IsNewest (saved : Option Saved) (zero one : Head) (a b : List ℕ) (found : Slot × Head) : Type 0 where
  pub content_is : bytes_of saved ≡ Some (pick found.0 a b)
  pub head_is : found.1 ≡ pick found.0 zero one

both_newest : (after : Bool) (zero one : Head) (a b : List ℕ) (found : Slot × Head) → newer_by true true after zero one ≡ Some found → IsNewest (cond after (by_head true one b) (by_head true zero a)) zero one a b found
unfolding pick
both_newest true zero one a b found is = subst (λ f. IsNewest (by_head true one b) zero one a b f) (some_same is) (record { content_is = refl; head_is = refl })
both_newest false zero one a b found is = subst (λ f. IsNewest (by_head true zero a) zero one a b f) (some_same is) (record { content_is = refl; head_is = refl })

newest_by : (z o : Bool) (zero one : Head) (a b : List ℕ) (found : Slot × Head) → newer_by z o (one.number == next zero.number) zero one ≡ Some found → IsNewest (newer (by_head z zero a) (by_head o one b)) zero one a b found
unfolding pick
newest_by false false zero one a b found is = absurd (none_some is)
newest_by false true zero one a b found is = subst (λ f. IsNewest (by_head true one b) zero one a b f) (some_same is) (record { content_is = refl; head_is = refl })
newest_by true false zero one a b found is = subst (λ f. IsNewest (by_head true zero a) zero one a b f) (some_same is) (record { content_is = refl; head_is = refl })
newest_by true true zero one a b found is = both_newest (one.number == next zero.number) zero one a b found is

pick-content : (image : Image) (room : ℕ) (slot : Slot) → pick slot (content_from image (start_of room Zero)) (content_from image (start_of room One)) ≡ content_from image (start_of room slot)
unfolding pick
pick-content image room Zero = refl
pick-content image room One = refl

pick-head : (image : Image) (room : ℕ) (slot : Slot) → pick slot (head_at image (start_of room Zero)) (head_at image (start_of room One)) ≡ head_at image (start_of room slot)
unfolding pick
pick-head image room Zero = refl
pick-head image room One = refl

-- the content is what stands in the newer slot, as long as its head says
pub newest : (image : Image) (room : ℕ) (slot : Slot) (head : Head) → newer_head room (head_at image (start_of room Zero)) (head_at image (start_of room One)) ≡ Some (slot, head) → content image room ≡ Some (bytes_at image (start_of room slot + 16) head.length)
newest image room slot head is =
    let zero = head_at image (start_of room Zero) in
    let one = head_at image (start_of room One) in
    let by = newest_by (is_open room zero) (is_open room one) zero one (content_from image (start_of room Zero)) (content_from image (start_of room One)) (slot, head) is in
    by.content_is
    ∙ ap (λ (xs : List ℕ). Some xs) (pick-content image room slot)
    ∙ ap (λ (h : Head). let v : Option (List ℕ) = Some (bytes_at image (start_of room slot + 16) h.length) in v) (sym (by.head_is ∙ pick-head image room slot))

-- and there is none where no slot is open
none_both : (after : Bool) (zero one : Head) → newer_by true true after zero one ≡ None → ⊥
none_both true zero one is = cc
none_both false zero one is = cc

none_by : (z o : Bool) (zero one : Head) (a b : List ℕ) → newer_by z o (one.number == next zero.number) zero one ≡ None → bytes_of (newer (by_head z zero a) (by_head o one b)) ≡ None
none_by false false zero one a b is = refl
none_by false true zero one a b is = absurd (none_some (sym is))
none_by true false zero one a b is = absurd (none_some (sym is))
none_by true true zero one a b is = absurd (none_both (one.number == next zero.number) zero one is)

pub none_newest : (image : Image) (room : ℕ) → newer_head room (head_at image (start_of room Zero)) (head_at image (start_of room One)) ≡ None → content image room ≡ None
none_newest image room is =
    let zero = head_at image (start_of room Zero) in
    let one = head_at image (start_of room One) in
    none_by (is_open room zero) (is_open room one) zero one (content_from image (start_of room Zero)) (content_from image (start_of room One)) is

-- the content of a slot that is open has room
pub open_fits : (room : ℕ) (head : Head) → IsTrue (is_open room head) → head.length ≤ room
open_fits room head is = grind (arith, nat_tests)

-- whether a target's gate is open is as the heads say
pub gate_told : (image : Image) (room : ℕ) (found : Option (Slot × Head)) → TellsGate image room (target_by found (head_at image (start_of room Zero)) (head_at image (start_of room One)))
gate_told image room None = refl
gate_told image room (Some (Zero, head)) = refl
gate_told image room (Some (One, head)) = refl
