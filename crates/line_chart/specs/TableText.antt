-- The text of a table of all dates of a plant, as csv. Stages, machines and stations count from 0, jobs from 1.
use Rattle.std.specs.Prelude.{ℕ, ◌+◌, Bool, true, false, if◌then◌else◌, List, [], ◌∷◌, ◌++◌, Option, Some, None, codes, decimal}
use Rattle.std.specs.List.{flat_map}
use Rattle.line_base.specs.declared.event.Parts.{Parts}
use Rattle.plant_model.specs.declared.plant.Plant.{Plant}
use Rattle.plant_model.specs.Line.{release, deliver, stage_numbers, machine_numbers, path_stock}
use Rattle.plant_model.specs.Graph.{graph}
use Rattle.event_graph.specs.Network.{label}
use Rattle.event_graph.specs.Table.{Table}
use Rattle.line_stats.specs.Counts.{job_numbers}
use Rattle.line_chart.specs.Starts.{start}
use Rattle.line_chart.specs.Serves.{customer}

-- a number, or an empty field
abbrev pub field : Option ℕ → List ℕ
field (Some n) = decimal n
field None = []

-- fields with a comma between them, and a line feed at the end
abbrev pub csv_record : List (List ℕ) → List ℕ
csv_record [] = codes "\n"
csv_record (last ∷ []) = last ++ codes "\n"
csv_record (first ∷ fields) = first ++ (codes "," ++ csv_record fields)

-- the names of the fields
abbrev pub header : List ℕ
header = codes "station,job,serves,start,date\n"

-- the start of job n, where the station is a machine
abbrev pub start_of : Parts → Table → Bool → ℕ → ℕ → Option ℕ
start_of g x machine t n = if machine then Some (start g x t n) else None

-- the record of job n at station t, where this many parts are ahead of it at the start
unfoldable pub job_record : Parts → Table → ℕ → Bool → ℕ → ℕ → List ℕ
job_record g x ahead machine t n =
    csv_record
    (label g t ∷ decimal n ∷ field (customer g ahead n) ∷ field (start_of g x machine t n) ∷ decimal (x t n) ∷ [])

-- the records of all jobs at station t
unfoldable pub station_records : Parts → Table → ℕ → Bool → ℕ → List ℕ
station_records g x ahead machine t = flat_map (job_record g x ahead machine t) (job_numbers g)

-- those of machine j of a stage, whose machines follow its release
abbrev pub machine_records_behind : Parts → Table → ℕ → ℕ → ℕ → List ℕ
machine_records_behind g x ahead release j = station_records g x ahead true (release + 1 + j)

-- those of machine j of stage i
abbrev pub machine_records : Plant → Table → ℕ → ℕ → List ℕ
machine_records p x i j = machine_records_behind (graph p) x (path_stock p i) (release p i) j

-- those of the release of stage i, and of its machines
unfoldable pub stage_records : Plant → Table → ℕ → List ℕ
stage_records p x i =
    station_records (graph p) x (path_stock p i) false (release p i)
    ++ flat_map (machine_records p x i) (machine_numbers p i)

-- the table: the names of the fields, the feed, the stages, the delivery; at the feed and the delivery nothing is ahead
unfoldable pub table_text : Plant → Table → List ℕ
table_text p x =
    header
    ++ (station_records (graph p) x 0 false 0
    ++ (flat_map (stage_records p x) (stage_numbers p) ++ station_records (graph p) x 0 false (deliver p)))
