-- What stands where in a line at a date, over a table of dates of its graph. Dates count from 0, jobs from 1.
-- Source: Dallery and Liberopoulos 2000, the parts of a stage in process and in its output buffer.
use Rattle.std.specs.Prelude.{ℕ, ◌+◌, ◌-◌, nat_le, List, count_by, sum_by}
use Rattle.std.specs.List.{range_with_len}
use Rattle.line_base.specs.declared.event.Parts.{Parts}
use Rattle.plant_model.specs.declared.plant.Plant.{Plant}
use Rattle.plant_model.specs.Line.{stage_at, release, last_machine, deliver, receiver, starting}
use Rattle.plant_model.specs.Graph.{graph}
use Rattle.event_graph.specs.Network.{stations, jobs}
use Rattle.event_graph.specs.Table.{Table}
use Rattle.event_graph.specs.GreatestValue.{greatest}

-- the numbers of the jobs, in order
abbrev pub job_numbers : Parts → List ℕ
job_numbers g = range_with_len 1 (jobs g)

-- of how many jobs the date is at most v, where date n is that of job n
unfoldable pub count_until : Parts → (ℕ → ℕ) → ℕ → ℕ
count_until g date v = count_by (λ n. nat_le (date n) v) (job_numbers g)

-- how many jobs station t has done by date v
abbrev pub jobs_done : Parts → Table → ℕ → ℕ → ℕ
jobs_done g x t v = count_until g (x t) v

-- how many jobs of stage i have left its last machine and ended their travel by date v
abbrev pub parts_arrived : Plant → Table → ℕ → ℕ → ℕ
parts_arrived p x i v = count_until (graph p) (λ n. x (last_machine p i) n + (stage_at p i).travel) v

-- how many parts are on the machines of stage i at date v: released, and not done by the last machine
unfoldable pub in_process : Plant → Table → ℕ → ℕ → ℕ
in_process p x i v = jobs_done (graph p) x (release p i) v - jobs_done (graph p) x (last_machine p i) v

-- how many parts are on their travel from stage i at date v
unfoldable pub in_move : Plant → Table → ℕ → ℕ → ℕ
in_move p x i v = jobs_done (graph p) x (last_machine p i) v - parts_arrived p x i v

-- how many parts are in the stock of stage i at date v: the starting stock and what arrived, less what was taken
unfoldable pub in_stock : Plant → Table → ℕ → ℕ → ℕ
in_stock p x i v = starting p i + parts_arrived p x i v - jobs_done (graph p) x (receiver p i) v

-- how many parts of stage i there are at date v
unfoldable pub standing : Plant → Table → ℕ → ℕ → ℕ
standing p x i v = in_process p x i v + in_move p x i v + in_stock p x i v

-- how many demands are not delivered at date v
unfoldable pub backlog : Plant → Table → ℕ → ℕ
backlog p x v = jobs_done (graph p) x 0 v - jobs_done (graph p) x (deliver p) v

-- the greatest date of all stations and jobs
unfoldable pub last_date : Parts → Table → ℕ
last_date g x = greatest (λ t. greatest (x t) (job_numbers g)) (range_with_len 0 (stations g))

-- the most parts of stage i that there are at a date, over all dates from 0 to the last
unfoldable pub peak : Plant → Table → ℕ → ℕ
peak p x i = greatest (standing p x i) (range_with_len 0 (last_date (graph p) x + 1))

-- how long all jobs together wait for their delivery: the delivery is the last station, the feed the first
unfoldable pub waiting : Parts → Table → ℕ
waiting g x = sum_by (λ n. x (stations g - 1) n - x 0 n) (job_numbers g)
