use Rattle.std.proofs.Common.{◌≡◌, ◌-◌, length, arith, ◌∙◌}
use Rattle.plant_keys.specs.Found.{most_faults}
use Rattle.plant_lint.proofs.LineLists.{shown_lines}
use Rattle.plant_lint.proofs.lines.add_lines.Goals as goal

pub returns : goal.returns
returns g c faults are =
    let more : c.saturating_sub.result ≡ length faults - most_faults = omega (arith, are.count) in
    shown_lines _ _ _ _ _ c.as_slice.result.now faults c.saturating_sub.result (c.as_slice.ensures ∙ are.kept) more c.in_ok-add_each.ensures c.add_count.ensures
