-- The areas of a picture: counts over the dates of a window, as steps.
use Rattle.std.specs.Prelude.{ℕ, ◌+◌, ◌-◌, ◌==◌, not, nat_le, max, if◌then◌else◌, List, [], ◌∷◌, filter, map}
use Rattle.std.specs.List.{range_with_len}
use Rattle.plant_model.specs.declared.plant.Plant.{Plant}
use Rattle.event_graph.specs.Table.{Table}
use Rattle.event_graph.specs.GreatestValue.{greatest}
use Rattle.line_stats.specs.Counts.{in_process, in_move, standing, backlog}
use Rattle.line_chart.specs.declared.count.Count.{Count}
use Rattle.line_chart.specs.declared.count.Count.TheVariants.{Parts, UnderWay, Backlog}

-- what is counted at a date: the parts of a stage, those in process or on their way, or the demands that are not
-- delivered
abbrev pub count_of : Plant → Table → Count → ℕ → ℕ
count_of p x (Parts stage) v = standing p x stage v
count_of p x (UnderWay stage) v = in_process p x stage v + in_move p x stage v
count_of p x Backlog v = backlog p x v

-- the dates after `from` and before `to` at which a count differs from that at the date before
unfoldable pub changes : (ℕ → ℕ) → ℕ → ℕ → List ℕ
changes f from to = filter (λ d. not (f d == f (d - 1))) (range_with_len (from + 1) (to - (from + 1)))

-- the greatest count at the dates from `from` on and before `to`, at least 1
unfoldable pub most : (ℕ → ℕ) → ℕ → ℕ → ℕ
most f from to = max 1 (greatest f (range_with_len from (to - from)))

-- a step of a path: the height from a date on
pub record Step : Type 0 where
  pub date : ℕ
  pub height : ℕ

-- the steps of the path of a count after `from` and before `to`
abbrev pub steps : (ℕ → ℕ) → ℕ → ℕ → List Step
steps f from to = map (λ d. record { date = d; height = f d }) (changes f from to)

-- the height of a path at date v: that of the last step until then, else that of its beginning
abbrev pub height_at : ℕ → List Step → ℕ → ℕ
height_at before [] v = before
height_at before (s ∷ later) v = if nat_le s.date v then height_at s.height later v else before
