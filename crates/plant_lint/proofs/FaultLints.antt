-- What is said of faults, by how many there are.
use Rattle.std.proofs.Common.{◌≡◌, ℕ, ◌<◌, ◌≤◌, List, [], ◌∷◌, length, refl, arith}
use Rattle.plant_keys.specs.declared.fault.Fault.{Fault}
use Rattle.plant_lint.specs.FileLints.{faults_or_notes}
use Rattle.plant_lint.specs.Remarks.{Remark}
use Rattle.plant_lint.specs.Texts.{fault_lines}
use Rattle.plant_lint.specs.declared.lint.Lint.TheVariants.{Refused}

pub some_faults : (remark : Remark) (faults : List Fault) (notes : List ℕ) → 0 < length faults → faults_or_notes remark faults notes ≡ Refused (fault_lines remark faults)
some_faults remark [] notes h = absurd (omega arith)
some_faults remark (f ∷ fs) notes h = refl

pub wrong_faults : (remark : Remark) (faults : List Fault) (notes : List ℕ) → (faults ≡ [] → ⊥) → faults_or_notes remark faults notes ≡ Refused (fault_lines remark faults)
wrong_faults remark [] notes h = absurd (h refl)
wrong_faults remark (f ∷ fs) notes h = refl

pub no_faults : (faults : List Fault) → length faults ≤ 0 → faults ≡ []
no_faults [] h = refl
no_faults (f ∷ fs) h = absurd (omega arith)

pub not_none : (faults : List Fault) → 0 < length faults → faults ≡ [] → ⊥
not_none [] h is = absurd (omega arith)
not_none (f ∷ fs) h is = cc
