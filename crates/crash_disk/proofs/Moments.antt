-- From one call of a disk to the next, for callers that say what a crash leaves.
use Rattle.std.proofs.Common.{◌≡◌, ◌⊎◌, inl, inr, ⊎_elim, ℕ, ◌+◌, ◌<◌, ◌≤◌, refl, ◌∙◌, subst, arith, Result, Ok, Err, OnOk, OnErr}
use Rattle.std.proofs.lemmas.Bool.{cases_lt}
use Rattle.crash_disk.specs.DiskView.{Image, Held, MayLeave, DiskView, held_now, Passes, LeftSince, LeavesOnly, Stays, synced_file}
use Rattle.crash_disk.specs.declared.disk.DiskError.{DiskError}

left_in : (a b : Held) (image : Image) → b ≡ a → MayLeave b image → MayLeave a image
left_in a b image same left = subst (λ h. MayLeave h image) same left

-- a moment of the later one is one of the earlier one, or comes after it
pub split_moments : (a b : DiskView) (t : ℕ) (image : Image) → ((k : ℕ) → k ≤ a.moment → b.held k ≡ a.held k) → (left : LeftSince b t image) → LeftSince a t image ⊎ (a.moment < left.at)
split_moments a b t image past left =
    elim (cases_lt a.moment left.at) [
      | inl after ↦ inr after
      | inr before ↦ inl (record { at = left.at; since = left.since; until = before; left = left_in _ _ image (past left.at before) left.left })
    ]

-- a call after which a crash leaves only what has P
pub leaves_by : (a b : DiskView) (P : Image → Type 0) → Passes a b → ((image : Image) → MayLeave (held_now a) image → P image) → ((image : Image) → MayLeave (held_now b) image → P image) → LeavesOnly a b P
leaves_by a b P passes first last = record {
  later = passes.later;
  past = passes.past;
  each = λ image left. ⊎_elim (first image) (last image) (passes.during left.at left.since left.until image left.left);
}

-- a call that takes one moment, or none
pub passes_by_one : (a b : DiskView) → a.moment ≤ b.moment → b.moment ≤ a.moment + 1 → ((k : ℕ) → k ≤ a.moment → b.held k ≡ a.held k) → Passes a b
passes_by_one a b later soon past = record {
  later = later;
  past = past;
  during = λ k since until image left. ⊎_elim
      (λ (after : a.moment < k). inr (let at : k ≡ b.moment = omega arith in subst (λ m. MayLeave (b.held m) image) at left))
      (λ (before : k ≤ a.moment). inl (let at : k ≡ a.moment = omega arith in left_in _ _ image (past a.moment (omega arith)) (subst (λ m. MayLeave (b.held m) image) at left)))
      (cases_lt a.moment k);
}

-- what P says of the moments up to the second and from there on it says of all
pub leaves_on : (a b c : DiskView) (P : Image → Type 0) → LeavesOnly a b P → LeavesOnly b c P → LeavesOnly a c P
leaves_on a b c P first second = record {
  later = (let l = first.later in let m = second.later in omega arith);
  past = λ k le. second.past k (let l = first.later in omega arith) ∙ first.past k le;
  each = λ image left. ⊎_elim
      (λ early. first.each image early)
      (λ after. second.each image (record { at = left.at; since = (omega arith); until = left.until; left = left.left }))
      (split_moments b c a.moment image second.past left);
}

-- what has P has Q
pub leaves_also : (a b : DiskView) (P Q : Image → Type 0) → ((image : Image) → P image → Q image) → LeavesOnly a b P → LeavesOnly a b Q
leaves_also a b P Q implies only = record { later = only.later; past = only.past; each = λ image left. implies image (only.each image left) }

-- no call at all
pub leaves_here : (a : DiskView) (P : Image → Type 0) → ((image : Image) → MayLeave (held_now a) image → P image) → LeavesOnly a a P
leaves_here a P first = record {
  later = omega arith;
  past = λ k le. refl;
  each = λ image left. first image (subst (λ k. MayLeave (a.held k) image) (let e : left.at ≡ a.moment = (let s = left.since in let u = left.until in omega arith) in e) left.left);
}

-- what a crash may leave at the end has P too
pub leaves_last : (a b : DiskView) (P : Image → Type 0) → LeavesOnly a b P → (image : Image) → MayLeave (held_now b) image → P image
leaves_last a b P only image left = only.each image (record { at = b.moment; since = only.later; until = omega arith; left = left })

-- a call that changes nothing
pub stays_by : (a b : DiskView) → held_now b ≡ held_now a → Passes a b → Stays a b
stays_by a b held passes = record {
  held = held;
  leaves = leaves_by a b (MayLeave (held_now a)) passes (λ image left. left) (λ image left. left_in _ _ image held left);
}

pub stays_on : (a b c : DiskView) → Stays a b → Stays b c → Stays a c
stays_on a b c first second = record {
  held = second.held ∙ first.held;
  leaves = leaves_on a b c (MayLeave (held_now a)) first.leaves
      (leaves_also b c (MayLeave (held_now b)) (MayLeave (held_now a)) (λ image left. left_in _ _ image first.held left) second.leaves);
}

-- a sync that succeeds leaves nothing that it might not have left before
synced_before : (a b : Held) (image : Image) → b ≡ synced_file a → MayLeave b image → MayLeave a image
synced_before a b image same left =
    let after = subst (λ h. MayLeave h image) same left in
    record { elsewhere = λ i out. after.elsewhere i refl }

sync_may : {T : Type 0} (a b : Held) (r : Result (Unit {0}) DiskError) → OnOk r (T → b ≡ synced_file a) → OnErr r (T → b ≡ a) → T → (image : Image) → MayLeave b image → MayLeave a image
sync_may a b (Ok _) done kept t image left = synced_before a b image (done t) left
sync_may a b (Err e) done kept t image left = left_in a b image (kept t) left

pub sync_leaves : {T : Type 0} (a b : DiskView) (r : Result (Unit {0}) DiskError) → OnOk r (T → held_now b ≡ synced_file (held_now a)) → OnErr r (T → held_now b ≡ held_now a) → (T → Passes a b) → T → LeavesOnly a b (MayLeave (held_now a))
sync_leaves a b r done kept passes t = leaves_by a b (MayLeave (held_now a)) (passes t) (λ image left. left) (λ image left. sync_may (held_now a) (held_now b) r done kept t image left)

-- and then nothing changes
pub leaves_stay : (a b c : DiskView) → LeavesOnly a b (MayLeave (held_now a)) → Stays b c → LeavesOnly a c (MayLeave (held_now a))
leaves_stay a b c first stays =
    leaves_on a b c (MayLeave (held_now a)) first
    (leaves_also b c (MayLeave (held_now b)) (MayLeave (held_now a)) (λ image left. leaves_last a b (MayLeave (held_now a)) first image left) stays.leaves)
