-- What a count of cards gives a plant: a point of its curve.
-- Source: Baccelli, Cohen, Olsder, Quadrat, Synchronization and Linearity, for liveness and least solutions; Dallery
-- and Liberopoulos 2000, for cards and stock.
use Rattle.std.specs.Prelude.{◌≡◌, ⊤, ℕ, ◌+◌, ◌<◌, ◌≤◌, List, [], ◌∷◌}
use Rattle.plant_model.specs.declared.plant.Plant.{Plant}
use Rattle.plant_model.specs.Graph.{graph}
use Rattle.event_graph.specs.Live.{IsLive}
use Rattle.event_graph.specs.Least.{IsLeast}
use Rattle.event_graph.specs.Table.{date_in}
use Rattle.card_sizing.specs.Sized.{sized_plant, lowest}
use Rattle.line_summary.specs.Figures.{figures}
use Rattle.line_summary.specs.declared.figures.Figures.{Figures}
use Rattle.line_summary.specs.declared.point.Point.{Point}
use Rattle.line_summary.specs.declared.point.Point.TheVariants.{TooFew, Dead, Alive}

-- the figures of the least solution of a plant's graph
pub record AreFigures (p : Plant) (f : Figures) : Type 0 where
  pub rows : List (List ℕ)
  pub least : IsLeast (graph p) (date_in rows)
  pub figures : f ≡ figures p (date_in rows)

-- what a plant gives with the cards that it has: its line isn't live, or it is, and these are its figures
abbrev pub IsPointOf : Plant → Point → Type 0
IsPointOf p TooFew = ⊥
IsPointOf p Dead = ¬ IsLive (graph p)
IsPointOf p (Alive f) = IsLive (graph p) × AreFigures p f

-- what c cards give: they are fewer than the stock needs, or enough, and this is what the plant gives with them
abbrev pub IsPoint : Plant → ℕ → Point → Type 0
IsPoint p c TooFew = c < lowest p
IsPoint p c Dead = (lowest p ≤ c) × IsPointOf (sized_plant p c) Dead
IsPoint p c (Alive f) = (lowest p ≤ c) × IsPointOf (sized_plant p c) (Alive f)

-- what the counts from c on give, one after another
abbrev pub ArePoints : Plant → ℕ → List Point → Type 0
ArePoints p c [] = ⊤
ArePoints p c (point ∷ points) = IsPoint p c point × ArePoints p (c + 1) points
