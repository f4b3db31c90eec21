-- What is found after what was found before.
use Rattle.std.proofs.Common.{◌≡◌, ℕ, Bool, true, false, List, [], ◌∷◌, ◌++◌, Result, Ok, Err, OnOk, refl, sym, ap, subst, ◌∙◌, append_assoc, append-nil}
use Rattle.std.specs.Prelude.{⊤}
use Rattle.plant_model.specs.declared.error.PlantError.{PlantError}
use Rattle.plant_keys.specs.declared.fault.Fault.{Fault}
use Rattle.plant_keys.specs.declared.faults.Asked.{Asked}
use Rattle.plant_keys.specs.Faults.{plain}
use Rattle.plant_keys.specs.Found.{Found, HasFound, Finds}
use Rattle.plant_keys.proofs.FaultLists.{plain-append}

-- nothing
pub finds_none : (f : Found) → Finds f f []
finds_none f = record { more = λ asked before h. subst (HasFound asked f) (sym (append-nil before)) h }

-- whatever it is, where memory ran out
pub finds_out : (old new : Found) (xs : List Fault) → new.is_out ≡ true → Finds old new xs
finds_out old new xs out =
    record {
      more = λ asked before h. record {
        asks = λ is. absurd (not_both is);
        kept = λ is. absurd (not_both is);
        counted = λ is all. absurd (not_both is);
      };
    }
  where
    not_both : new.is_out ≡ false → ⊥
    not_both is = cc

-- the same faults, by another name
pub finds_same : (old new : Found) (xs ys : List Fault) → Finds old new xs → xs ≡ ys → Finds old new ys
finds_same old new xs ys h is = subst (Finds old new) is h

-- some faults, and then others
pub finds_both : (old mid new : Found) (xs ys : List Fault) → Finds old mid xs → Finds mid new ys → Finds old new (xs ++ ys)
finds_both old mid new xs ys here there =
    record {
      more = λ asked before h.
          subst (HasFound asked new) (append_assoc before xs ys) (there.more asked (before ++ xs) (here.more asked before h));
    }

-- the same, where the others may end without memory
pub finds_then : {E : Type 0} (r : Result ⊤ E) (old mid new : Found) (xs ys : List Fault) → Finds old mid xs → OnOk r (Finds mid new ys) → OnOk r (Finds old new (xs ++ ys))
finds_then (Ok v) old mid new xs ys here there = finds_both old mid new xs ys here there
finds_then (Err e) old mid new xs ys here there = there

-- of all these faults the others are left to be found
pub record Left (old new : Found) (all others : List Fault) : Type 0 where
  pub found : List Fault
  pub so_far : Finds old new found
  pub rest : all ≡ found ++ others

pub left_none : (old : Found) (all others : List Fault) → all ≡ others → Left old old all others
left_none old all others is = record { found = []; so_far = finds_none old; rest = is }

pub left_more : (old mid new : Found) (all left here others : List Fault) → Left old mid all left → left ≡ here ++ others → Finds mid new here → Left old new all others
left_more old mid new all left here others h is found =
    record {
      found = h.found ++ here;
      so_far = finds_both old mid new h.found here h.so_far found;
      rest = h.rest ∙ ap (λ items. h.found ++ items) is ∙ sym (append_assoc h.found here others);
    }

-- the same, of refusals that say all
pub left_plain : (old mid new : Found) (all : List Fault) (left here others : List PlantError) → Left old mid all (plain left) → left ≡ here ++ others → Finds mid new (plain here) → Left old new all (plain others)
left_plain old mid new all left here others h is found =
    left_more old mid new all (plain left) (plain here) (plain others) h (ap plain is ∙ plain-append here others) found

-- nothing is left
pub left_all : (old new : Found) (all others : List Fault) → Left old new all others → others ≡ [] → Finds old new all
left_all old new all others h is =
    finds_same old new h.found all h.so_far (sym (h.rest ∙ ap (λ items. h.found ++ items) is ∙ append-nil h.found))

-- nothing more is looked for
pub left_done : (old new : Found) (all others : List Fault) → Left old new all others → ((faults : List Fault) → Finds new new faults) → Finds old new all
left_done old new all others h done =
    finds_same old new (h.found ++ others) all (finds_both old new new h.found others h.so_far (done others)) (sym h.rest)
