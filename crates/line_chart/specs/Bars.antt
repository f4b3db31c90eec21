-- The lanes of a picture, and the bars in them. Stages, machines, stations and lanes count from 0, jobs from 1.
use Rattle.std.specs.Prelude.{ℕ, ◌+◌, ◌-◌, ◌%◌, Bool, ◌&&◌, nat_lt, min, List, filter, map, sum_by, length}
use Rattle.std.specs.List.{flat_map, range_with_len}
use Rattle.line_base.specs.declared.event.Parts.{Parts}
use Rattle.plant_model.specs.declared.plant.Plant.{Plant}
use Rattle.plant_model.specs.Line.{machine_at, machine_station, stage_numbers, machine_numbers}
use Rattle.plant_model.specs.Graph.{graph}
use Rattle.event_graph.specs.Network.{jobs, time}
use Rattle.event_graph.specs.Table.{Table}
use Rattle.line_stats.specs.Counts.{job_numbers}
use Rattle.line_chart.specs.Starts.{start}
use Rattle.line_chart.specs.declared.window.Window.{Window}
use Rattle.line_chart.specs.declared.lanes.Lanes.{Lanes}
use Rattle.line_chart.specs.declared.bar.Bar.{Bar}

-- how many lanes machine j of stage i has: as many as servers, at most one a job
abbrev pub lanes : Plant → ℕ → ℕ → ℕ
lanes p i j = min (machine_at p i j).servers (jobs (graph p))

-- how many lanes the first machines of stage i have, and all of them
abbrev pub lanes_before : Plant → ℕ → ℕ → ℕ
lanes_before p i j = sum_by (lanes p i) (range_with_len 0 j)

abbrev pub stage_lanes : Plant → ℕ → ℕ
stage_lanes p i = sum_by (lanes p i) (machine_numbers p i)

-- how many lanes the first stages have
abbrev pub lanes_of_stages : Plant → ℕ → ℕ
lanes_of_stages p i = sum_by (stage_lanes p) (range_with_len 0 i)

-- how many lanes there are
unfoldable pub lane_count : Plant → ℕ
lane_count p = lanes_of_stages p (length p.stages)

-- the lanes of machine j of stage i, which come after those of the machines before
abbrev pub machine_lanes : Plant → ℕ → ℕ → Lanes
machine_lanes p i j =
    record {
      station = machine_station p i j;
      first = lanes_of_stages p i + lanes_before p i j;
      count = lanes p i j;
    }

-- those of the machines of stage i, and of all machines, in order
abbrev pub stage_machines : Plant → ℕ → List Lanes
stage_machines p i = map (machine_lanes p i) (machine_numbers p i)

unfoldable pub machines : Plant → List Lanes
machines p = flat_map (stage_machines p) (stage_numbers p)

-- the bar of job n at a machine: from the start on, as long as the time
abbrev pub bar : Parts → Table → Lanes → ℕ → Bar
bar g x m n =
    record {
      station = m.station;
      job = n;
      start = start g x m.station n;
      time = time g m.station n;
      lane = m.first + (n - 1) % m.count;
    }

-- whether a bar meets the window: it begins before the end of the window, and ends after its beginning
abbrev pub meets : Window → Bar → Bool
meets w b = nat_lt b.start w.to && nat_lt w.from (b.start + b.time)

-- the bars of a machine that meet the window, in the order of the jobs
unfoldable pub machine_bars : Parts → Table → Window → Lanes → List Bar
machine_bars g x w m = filter (meets w) (map (bar g x m) (job_numbers g))

-- those of all machines, in order
unfoldable pub bars : Plant → Table → Window → List Bar
bars p x w = flat_map (machine_bars (graph p) x w) (machines p)
