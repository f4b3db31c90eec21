use Rattle.std.proofs.Common.{◌≡◌, ℕ, ◌+◌, ◌<◌, true, false, List, length, get_or, take, sym, ◌∙◌}
use Rattle.std.specs.List.{best_of}
use Rattle.std.proofs.lemmas.List.{get_or_default}
use Rattle.std.proofs.lemmas.List.MinMax.{best_of_takes, best_of_keeps}
use Rattle.line_summary.specs.declared.machines.MachineUse.{MachineUse}
use Rattle.line_summary.specs.Machines.{is_busier}
use Rattle.line_summary.proofs.machines.busiest_from.Goals.{then-is_busier, else-is_busier}
use Rattle.line_summary.proofs.machines.busiest_from.Goals as goal

takes : (first : MachineUse) (others : List MachineUse) (i : ℕ) (d x y : MachineUse) → i < length others → y ≡ best_of is_busier first (take i others) → is_busier (get_or others i d) y ≡ true → x ≡ get_or others i d → x ≡ best_of is_busier first (take (i + 1) others)
takes first others i d x y inside so_far busier is =
    let next = get_or others i d in
    is ∙ best_of_takes is_busier first others i next y inside (get_or_default others i d next inside) so_far busier

keeps : (first : MachineUse) (others : List MachineUse) (i : ℕ) (d x y : MachineUse) → i < length others → y ≡ best_of is_busier first (take i others) → is_busier (get_or others i d) y ≡ false → x ≡ y → x ≡ best_of is_busier first (take (i + 1) others)
keeps first others i d x y inside so_far less is =
    let next = get_or others i d in
    is ∙ best_of_keeps is_busier first others i next y inside (get_or_default others i d next inside) so_far less

pub loop-other-preserved : goal.loop-other-preserved
loop-other-preserved c =
    let inside = c.loop-other-test.true in
    elim c.if-is_busier.branch [
      | then-is_busier w ↦
          takes c.args.first c.args.others.now c.loop-other.other-index _ c.if-is_busier.best c.loop-other.best inside c.loop-other.invariant (sym c.is_busier.ensures ∙ w.if-is_busier.true) w.best-is
      | else-is_busier w ↦
          keeps c.args.first c.args.others.now c.loop-other.other-index _ c.if-is_busier.best c.loop-other.best inside c.loop-other.invariant (sym c.is_busier.ensures ∙ w.if-is_busier.false) w.best-is
    ]
