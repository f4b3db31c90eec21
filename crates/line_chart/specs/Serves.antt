-- Which customer gets a part. Stages count from 0, jobs from 1.
use Rattle.std.specs.Prelude.{ℕ, ◌+◌, nat_le, if◌then◌else◌, Option, None, Some}
use Rattle.line_base.specs.declared.event.Parts.{Parts}
use Rattle.plant_model.specs.declared.plant.Plant.{Plant}
use Rattle.plant_model.specs.Line.{path_stock}
use Rattle.plant_model.specs.Graph.{graph}
use Rattle.event_graph.specs.Network.{jobs}

-- the customer of job n's part where this many parts are ahead of it at the start; nobody where there are fewer jobs
abbrev pub customer : Parts → ℕ → ℕ → Option ℕ
customer g ahead n = if nat_le (n + ahead) (jobs g) then Some (n + ahead) else None

-- the customer of job n's part at a station of stage i, which stands behind the starting stock on the path of the stage
abbrev pub serves : Plant → ℕ → ℕ → Option ℕ
serves p i n = customer (graph p) (path_stock p i) n
