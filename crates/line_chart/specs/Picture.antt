-- What contracts see of a `Chart`: the plant, the dates of a run of it, and the window.
use Rattle.std.specs.Prelude.{◌≡◌, ℕ, ◌+◌, ◌<◌, ◌≤◌, List, length, Option, None, Some, ⊤, All}
use Rattle.line_base.specs.Limits.{last_observed, most_bars}
use Rattle.plant_model.specs.declared.plant.Plant.{Plant}
use Rattle.plant_model.specs.Graph.{graph}
use Rattle.plant_model.specs.Sound.{IsSound}
use Rattle.event_graph.specs.Table.{date_in}
use Rattle.line_core.specs.Run.{Dates, IsLeastTable}
use Rattle.line_stats.specs.PlantDates.{AreOfPlant}
use Rattle.line_chart.specs.declared.window.Window.{Window}
use Rattle.line_chart.specs.declared.error.ChartError.{ChartError}
use Rattle.line_chart.specs.declared.error.ChartError.TheVariants.{TooLarge, NoMemory}
use Rattle.line_chart.specs.declared.run.ChartRun.{ChartRun}
use Rattle.line_chart.specs.Machines.{IsMachineOf}
use Rattle.line_chart.specs.Bars.{lane_count, machines, bars}
use Rattle.line_chart.specs.ChartText.{picture}

-- a plant, a list of dates for each of its stations, and the window that is drawn
pub record Picture : Type 0 where
  pub plant : Plant
  pub rows : List (List ℕ)
  pub window : Window

-- the text of the picture
abbrev pub text_of : Picture → List ℕ
text_of c = picture c.plant (date_in c.rows) c.window

-- how many bars and lanes are drawn
abbrev pub bars_and_lanes : Picture → ℕ
bars_and_lanes c = length (bars c.plant (date_in c.rows) c.window) + lane_count c.plant

-- a window that may be asked for: it begins before its end, which isn't above 10^16
pub record IsWindow (w : Window) : Type 0 where
  pub forward : w.from < w.to
  pub early : w.to ≤ last_observed

-- the window that is asked for is one; where none is, there is nothing to ask
abbrev pub MayBeAskedFor : Option (ℕ × ℕ) → Type 0
MayBeAskedFor None = ⊤
MayBeAskedFor (Some (from, to)) = IsWindow (record { from = from; to = to })

-- why a picture isn't drawn: it has this many bars and lanes, more than 20,000; running out of memory may come instead
abbrev pub IsReason : Picture → ChartError → Type 0
IsReason c (TooLarge bars) = (bars ≡ bars_and_lanes c) × (most_bars < bars)
IsReason c NoMemory = ⊤

-- the plant is sound, the dates are the least solution of its graph, and the window is one
pub record IsDrawn (c : Picture) : Type 0 where
  pub sound : IsSound c.plant
  pub least : IsLeastTable (record { graph = graph c.plant; rows = c.rows })
  pub window : IsWindow c.window
  pub small : bars_and_lanes c ≤ most_bars

-- the numbers and the lanes of a finished run are those of its plant, and its graph and its table are of that plant
pub record IsOfRun (run : ChartRun) : Type 0 where
  pub of_plant : AreOfPlant run.plant run.live run.table
  pub numbers : run.numbers ≡ run.plant
  pub machines : run.machines.items ≡ machines run.plant
  pub each : All (IsMachineOf (graph run.plant)) run.machines.items
  pub window : IsWindow run.window
  pub lanes : run.lanes ≡ lane_count run.plant
  pub small : run.lanes ≤ 5_120_000

-- the picture of a run
abbrev pub picture_of : ChartRun → Picture
picture_of run = record { plant = run.plant; rows = run.table.rows; window = run.window }

-- a run of this plant, with this table and this window
pub record IsRunOf (p : Plant) (d : Dates) (w : Window) (run : ChartRun) : Type 0 where
  pub of_run : IsOfRun run
  pub plant : run.plant ≡ p
  pub table : run.table ≡ d
  pub window : run.window ≡ w

-- a picture that is written stays as it was
pub record Stays (old new : Picture) : Type 0 where
  pub same : new ≡ old
  pub drawn : IsDrawn old
