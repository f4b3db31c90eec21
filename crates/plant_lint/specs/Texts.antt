-- The lines of faults.
use Rattle.std.specs.Prelude.{ℕ, ◌-◌, ◌==◌, if◌then◌else◌, List, [], ◌++◌, length, take, codes, decimal}
use Rattle.std.specs.List.{flat_map}
use Rattle.plant_model.specs.Reasons.{plant_reason}
use Rattle.plant_keys.specs.Found.{most_faults}
use Rattle.plant_keys.specs.Wants.{wants_text}
use Rattle.plant_keys.specs.declared.fault.Fault.{Fault}
use Rattle.plant_lint.specs.Remarks.{Remark}

-- the line of a fault: the refusal, what is said behind it, and what is wanted there
abbrev pub fault_line : Remark → Fault → List ℕ
fault_line remark f =
    codes "plant: " ++ (plant_reason f.error ++ (remark f.error ++ (wants_text f.wants ++ codes "\n")))

-- how many more there are
abbrev pub more_line : ℕ → List ℕ
more_line n = if n == 0 then [] else codes "and " ++ (decimal n ++ codes " more\n")

-- the lines of faults: 200 at most, and then how many more there are
unfoldable pub fault_lines : Remark → List Fault → List ℕ
fault_lines remark faults = flat_map (fault_line remark) (take most_faults faults) ++ more_line (length faults - most_faults)
