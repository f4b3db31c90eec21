-- The lines of faults: a line for each that is kept, and how many more there are.
use Rattle.std.proofs.Common.{◌≡◌, ℕ, ◌-◌, List, ◌++◌, length, take, Result, Ok, Err, OnOk, ap, ◌∙◌, append_assoc}
use Rattle.std.specs.Prelude.{⊤}
use Rattle.std.specs.List.{flat_map}
use Rattle.plant_keys.specs.declared.fault.Fault.{Fault}
use Rattle.plant_keys.specs.Found.{most_faults}
use Rattle.plant_lint.specs.Remarks.{Remark}
use Rattle.plant_lint.specs.Texts.{fault_line, more_line, fault_lines}

pub shown_lines : {E : Type 0} (remark : Remark) (r : Result ⊤ E) (old text new : List ℕ) (kept faults : List Fault) (more : ℕ) → kept ≡ take most_faults faults → more ≡ length faults - most_faults → text ≡ old ++ flat_map (fault_line remark) kept → OnOk r (new ≡ text ++ more_line more) → OnOk r (new ≡ old ++ fault_lines remark faults)
unfolding fault_lines
shown_lines remark (Ok v) old text new kept faults more is left was here =
    here
    ∙ ap (λ start. start ++ more_line more) (was ∙ ap (λ shown. old ++ flat_map (fault_line remark) shown) is)
    ∙ ap (λ n. (old ++ flat_map (fault_line remark) (take most_faults faults)) ++ more_line n) left
    ∙ append_assoc old _ _
shown_lines remark (Err e) old text new kept faults more is left was here = here
