-- What a plant gives with a count of cards, by what the sized plant gives.
use Rattle.std.proofs.Common.{◌≡◌, ℕ, ◌≤◌, subst}
use Rattle.plant_model.specs.declared.plant.Plant.{Plant}
use Rattle.card_sizing.specs.Sized.{lowest, sized_plant}
use Rattle.line_summary.specs.Points.{IsPointOf, IsPoint}
use Rattle.line_summary.specs.declared.point.Point.{Point}
use Rattle.line_summary.specs.declared.point.Point.TheVariants.{TooFew, Dead, Alive}

pub given_point : (p q : Plant) (c : ℕ) (point : Point) → lowest p ≤ c → q ≡ sized_plant p c → IsPointOf q point → IsPoint p c point
given_point p q c TooFew enough same is = absurd is
given_point p q c Dead enough same is = (enough, subst (λ (r : Plant). IsPointOf r Dead) same is)
given_point p q c (Alive f) enough same is = (enough, subst (λ (r : Plant). IsPointOf r (Alive f)) same is)
