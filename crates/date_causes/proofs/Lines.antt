-- Lines that are given to a sink one after another.
use Rattle.std.proofs.Common.{◌≡◌, ℕ, List, [], refl}
use Rattle.std.proofs.lemmas.Bool.{eq-eqb}
use Rattle.date_causes.specs.WhyText.{share_words}

-- a share of 0 has no line
pub no_share : (label : List ℕ) (sum : ℕ) → sum ≡ 0 → share_words label sum ≡ []
no_share label sum none = rw (eq-eqb sum 0 none) refl
