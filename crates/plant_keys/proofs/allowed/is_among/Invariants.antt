use Rattle.std.proofs.Common.{◌≡◌, not, ◌&&◌, false, take}
use Rattle.std.specs.Prelude.{bytes_eq}
use Rattle.std.specs.List.{list_any}
use Rattle.plant_keys.proofs.allowed.is_among.Given as goal

abbrev pub invariant-loop-key : goal.invariant-loop-key
invariant-loop-key l =
    list_any (λ k. bytes_eq k.name.now l.name && not k.excluded) (take l.key-index l.keys) ≡ false
