-- Laws of tables and pictures of dates, each on a public function whose contract cites it.
use Rattle.std.specs.Prelude.{◌≡◌, ℕ, ◌+◌, ◌<◌, ◌≤◌, ◌==◌, ◌&&◌, if◌then◌else◌, IsTrue}
use Rattle.std.specs.Prelude.{List, ◌++◌, length, Contains, All, AllPairs, count_by}
use Rattle.plant_model.specs.declared.plant.Plant.{Plant}
use Rattle.plant_model.specs.Line.{stage_at, machine_at, machine_station, deliver, path, path_stock}
use Rattle.plant_model.specs.Graph.{graph}
use Rattle.plant_model.specs.ArcNumbers.{onward_arcs_of}
use Rattle.event_graph.specs.Network.{jobs, time}
use Rattle.event_graph.specs.Table.{Table}
use Rattle.event_graph.specs.Solves.{Solves}
use Rattle.event_graph.specs.Least.{IsLeast}
use Rattle.event_graph.specs.State.{State, log, tokens_in}
use Rattle.event_graph.specs.Reached.{Reached}
use Rattle.event_graph.specs.Circuit.{IsWalk, tokens_on}
use Rattle.circuit_sums.specs.Laws.{stations_of_stage}
use Rattle.line_chart.specs.Starts.{start}
use Rattle.line_chart.specs.declared.window.Window.{Window}
use Rattle.line_chart.specs.declared.bar.Bar.{Bar}
use Rattle.line_chart.specs.Bars.{machine_lanes, bar, meets, bars}
use Rattle.line_chart.specs.Areas.{steps, height_at}

-- stage i has machine j, and there is a job n
pub record IsJobAt (p : Plant) (i j n : ℕ) : Type 0 where
  pub stage : i < length p.stages
  pub machine : j < length (stage_at p i).machines
  pub from_one : 1 ≤ n
  pub job : n ≤ jobs (graph p)

-- the date at which a machine has done a job: its start and its time
abbrev pub end : Plant → Table → ℕ → ℕ → ℕ → ℕ
end p x i j n = start (graph p) x (machine_station p i j) n + time (graph p) (machine_station p i j) n

-- no job leaves a machine before its start and its time
abbrev pub NoneLeavesEarlier : Plant → Type 0
NoneLeavesEarlier p =
    (x : Table) → Solves (graph p) x → (i j n : ℕ) → IsJobAt p i j n → end p x i j n ≤ x (machine_station p i j) n

-- each job leaves a machine of one server just then
abbrev pub OneServerLeavesThen : Plant → Type 0
OneServerLeavesThen p =
    (x : Table) → IsLeast (graph p) x → (i j n : ℕ) → IsJobAt p i j n → (machine_at p i j).servers ≡ 1
    → end p x i j n ≡ x (machine_station p i j) n

-- a job starts no sooner than the job has left whose server it gets
abbrev pub ServersAreFreeAtStarts : Plant → Type 0
ServersAreFreeAtStarts p =
    (x : Table) (i j n : ℕ) → IsJobAt p i j n → n + (machine_at p i j).servers ≤ jobs (graph p)
    → x (machine_station p i j) n ≤ start (graph p) x (machine_station p i j) (n + (machine_at p i j).servers)

-- the places on which the parts of station t, which is of stage i, go on to the delivery: the last of those on the path
-- of the stage. At the start they hold the starting stock on the path, which is ahead of every part that leaves the
-- station. So in every state that firings reach, as many parts stand on them or are delivered as that stock and the
-- station's jobs are together; and the part of job n is the one that the delivery takes for job n and that stock.
pub record StandsBehindStock (p : Plant) (i t : ℕ) : Type 0 where
  pub before : List ℕ
  pub places : List ℕ
  pub last_of_path : onward_arcs_of p (path p i) ≡ before ++ places
  pub way : IsWalk (graph p) t places (deliver p)
  pub ahead : tokens_on (graph p) places ≡ path_stock p i
  pub counted : (s : State) → Reached (graph p) s →
      tokens_in s places + length (log s (deliver p)) ≡ path_stock p i + length (log s t)
  pub served : (x : Table) → Solves (graph p) x → (n : ℕ) → 1 ≤ n → n + path_stock p i ≤ jobs (graph p) →
      x t n ≤ x (deliver p) (n + path_stock p i)

-- so it is at each station of a stage
abbrev pub PartsServeBehindStock : Plant → Type 0
PartsServeBehindStock p =
    (i t : ℕ) → i < length p.stages → Contains (stations_of_stage p i) t → StandsBehindStock p i t

-- the bar of a job at a machine that meets the window
pub record IsBarOfJob (p : Plant) (x : Table) (w : Window) (b : Bar) : Type 0 where
  pub stage : ℕ
  pub machine : ℕ
  pub job : IsJobAt p stage machine b.job
  pub same : b ≡ bar (graph p) x (machine_lanes p stage machine) b.job
  pub meets_window : IsTrue (meets w b)

-- each bar is that of a job at a machine, and meets the window
abbrev pub BarsAreOfJobs : Plant → Type 0
BarsAreOfJobs p = (x : Table) (w : Window) → All (IsBarOfJob p x w) (bars p x w)

-- for each job at each machine there is one bar, where it meets the window, else none
abbrev pub EachJobHasOneBar : Plant → Type 0
EachJobHasOneBar p =
    (x : Table) (w : Window) (i j n : ℕ) → IsJobAt p i j n
    → count_by (λ b. b.station == machine_station p i j && b.job == n) (bars p x w)
    ≡ (if meets w (bar (graph p) x (machine_lanes p i j) n) then 1 else 0)

-- of two bars in one lane, the first ends before the second begins
abbrev pub BarsStayApart : Plant → Type 0
BarsStayApart p =
    (x : Table) → IsLeast (graph p) x → (w : Window)
    → AllPairs (λ b c. b.lane ≡ c.lane → b.start + b.time ≤ c.start) (bars p x w)

-- the height of a path at each date of the window is the count at that date
abbrev pub AreasAreCounts : Type 0
AreasAreCounts =
    (f : ℕ → ℕ) (w : Window) (v : ℕ) → w.from ≤ v → v < w.to → height_at (f w.from) (steps f w.from w.to) v ≡ f v
