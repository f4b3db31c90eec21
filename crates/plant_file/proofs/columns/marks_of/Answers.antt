use Rattle.std.proofs.Common.{◌≡◌, ℕ, ◌+◌, ◌≤◌, false, length, get_or, ap, ◌∙◌, arith}
use Rattle.std.specs.Prelude.{◌||◌}
use Rattle.std.proofs.lemmas.List.{get_or-replicate, length-replicate}
use Rattle.line_base.specs.declared.limits.TheConstants.{MAX_COLUMN}
use Rattle.plant_file.specs.Columns.{is_used_in}
use Rattle.plant_file.proofs.columns.marks_of.Goals as goal

pub returns : goal.returns
returns c =
    let blank = c.in_ok-marks.ensures.items_if_clones_equal (λ y same. same) in
    let long : length c.in_ok-marks.marks.items ≡ MAX_COLUMN + 1 = ap length blank ∙ length-replicate (MAX_COLUMN + 1) false in
    let at : (n : ℕ) → n ≤ MAX_COLUMN → get_or c.in_ok-marks.marks.items n false ≡ false =
    λ n low. ap (λ xs. get_or xs n false) blank ∙ get_or-replicate (MAX_COLUMN + 1) n false false (omega arith) in
    record {
      enough = omega (arith, c.mark_stages.ensures.same_length, long);
      used = λ n low.
          c.mark_stages.ensures.marked n (omega (arith, long))
          ∙ ap (λ b. b || is_used_in c.as_slice.result.now n) (at n low)
          ∙ ap (λ stages. is_used_in stages n) c.as_slice.ensures;
    }
