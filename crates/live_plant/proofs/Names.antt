-- The names of the stages keep the rule of names.
use Rattle.std.proofs.Common.{◌≡◌, ℕ, ◌<◌, true, refl, zero-add, arith}
use Rattle.std.specs.List.{range_with_len, list_all}
use Rattle.std.specs.Fmt.{digits}
use Rattle.std.proofs.lemmas.List.FromFn.{get_or-range_with_len, length-range_with_len}
use Rattle.std.proofs.lemmas.List.Sums.{AllPass-from_list_all}
use Rattle.line_base.specs.Text.{is_name}
use Rattle.live_plant.specs.Big.{stage_name}

all_named : list_all (λ i. is_name (stage_name i)) (range_with_len 0 12) ≡ true
unfolding digits
all_named = refl

pub stage_name-named : (i : ℕ) → i < 12 → is_name (stage_name i) ≡ true
stage_name-named i below =
    let inside = length-range_with_len 0 12 in
    let named = AllPass-from_list_all (λ j. is_name (stage_name j)) (range_with_len 0 12) all_named i 0 (omega arith) in
    rw (get_or-range_with_len 0 12 i 0 below, zero-add) at named
