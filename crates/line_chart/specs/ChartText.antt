-- The text of a picture of a plant, as SVG. Stages, machines and lanes count from 0, jobs and a machine's lanes from 1.
use Rattle.std.specs.Prelude.{ℕ, ◌+◌, ◌*◌, ◌%◌, nat_lt, if◌then◌else◌, List, [], ◌++◌, length, codes, decimal}
use Rattle.std.specs.List.{flat_map, range_with_len}
use Rattle.line_base.specs.declared.event.Parts.{Parts}
use Rattle.plant_model.specs.declared.plant.Plant.{Plant}
use Rattle.plant_model.specs.Line.{stage_at, stage_numbers}
use Rattle.plant_model.specs.Graph.{graph}
use Rattle.event_graph.specs.Network.{label}
use Rattle.event_graph.specs.Table.{Table}
use Rattle.line_chart.specs.declared.window.Window.{Window}
use Rattle.line_chart.specs.declared.count.Count.TheVariants as count
use Rattle.line_chart.specs.declared.lanes.Lanes.{Lanes}
use Rattle.line_chart.specs.declared.bar.Bar.{Bar}
use Rattle.line_chart.specs.Window.{span}
use Rattle.line_chart.specs.Bars.{lane_count, machines, bars}
use Rattle.line_chart.specs.Areas.{count_of, Step, steps, most}
use Rattle.line_chart.specs.Axis.{axis_step, multiples, axis_x}

-- a text, and a number behind it
abbrev pub with_number : List ℕ → ℕ → List ℕ
with_number text n = text ++ decimal n

-- the height of a lane, in the picture and in the field of the bars, and that of an area
abbrev pub lane_height : ℕ
lane_height = 16

abbrev pub lane_units : ℕ
lane_units = 10

abbrev pub area_height : ℕ
area_height = 50

-- where the areas begin under this many lanes, and where this many of them end
abbrev pub areas_top : ℕ → ℕ
areas_top lanes = 60 + lane_height * lanes

abbrev pub areas_end : ℕ → ℕ → ℕ
areas_end lanes areas = areas_top lanes + area_height * areas

-- how many areas there are: the stages, and the backlog
abbrev pub area_count : Plant → ℕ
area_count p = length p.stages + 1

-- 1: the size of the picture, its colours, its ground
unfoldable pub head_text : ℕ → List ℕ
head_text end =
    with_number (codes "<svg xmlns=\"http://www.w3.org/2000/svg\" width=\"1200\" height=\"") (end + 30)
    ++ (codes "\" font-family=\"sans-serif\" font-size=\"11\">\n"
    ++ (codes "<style>.c0{fill:#4477aa}.c1{fill:#66ccee}.c2{fill:#228833}.c3{fill:#ccbb44}.c4{fill:#ee6677}"
    ++ (codes ".c5{fill:#aa3377}.g{stroke:#ccc}.n{fill:#ddd}.p{fill:#999}"
    ++ (codes ".e{text-anchor:end}.m{text-anchor:middle}</style>\n"
    ++ codes "<rect width=\"100%\" height=\"100%\" fill=\"white\"/>\n"))))

-- 2: a date of the axis
unfoldable pub axis_line : Window → ℕ → ℕ → List ℕ
axis_line w end d =
    with_number (codes "<line class=\"g\" x1=\"") (axis_x w d)
    ++ (with_number (codes "\" y1=\"36\" x2=\"") (axis_x w d)
    ++ (with_number (codes "\" y2=\"") end
    ++ (with_number (codes "\"/><text class=\"m\" x=\"") (axis_x w d)
    ++ (with_number (codes "\" y=\"30\">") d
    ++ codes "</text>\n"))))

unfoldable pub axis_text : Window → ℕ → List ℕ
axis_text w end = flat_map (axis_line w end) (multiples (axis_step (span w)) w)

-- how the name of a lane or an area begins, at this height
abbrev pub name_begin : ℕ → List ℕ
name_begin y = with_number (codes "<text class=\"e\" x=\"164\" y=\"") y ++ codes "\">"

-- 3: the name of lane k of a machine: its label, and the number of the lane where there are several
abbrev pub lane_number : ℕ → ℕ → List ℕ
lane_number count k = if nat_lt 1 count then with_number (codes " ") (k + 1) else []

unfoldable pub lane_line : Parts → Lanes → ℕ → List ℕ
lane_line g m k =
    name_begin (52 + lane_height * (m.first + k))
    ++ (label g m.station ++ (lane_number m.count k ++ codes "</text>\n"))

unfoldable pub lane_lines : Parts → Lanes → List ℕ
lane_lines g m = flat_map (lane_line g m) (range_with_len 0 m.count)

unfoldable pub names_text : Plant → List ℕ
names_text p = flat_map (lane_lines (graph p)) (machines p)

-- 4: a bar
unfoldable pub bar_line : Bar → List ℕ
bar_line b =
    with_number (codes "<rect class=\"c") (b.job % 6)
    ++ (with_number (codes "\" x=\"") b.start
    ++ (with_number (codes "\" y=\"") (lane_units * b.lane + 1)
    ++ (with_number (codes "\" width=\"") b.time
    ++ (with_number (codes "\" height=\"8\"><title>job ") b.job
    ++ (with_number (codes ", ") b.start
    ++ (with_number (codes " to ") (b.start + b.time)
    ++ codes "</title></rect>\n"))))))

-- the field of the bars, in the units of the plant
unfoldable pub field_line : Window → ℕ → List ℕ
field_line w lanes =
    with_number (codes "<svg x=\"170\" y=\"40\" width=\"1000\" height=\"") (lane_height * lanes)
    ++ (with_number (codes "\" viewBox=\"") w.from
    ++ (with_number (codes " 0 ") (span w)
    ++ (with_number (codes " ") (lane_units * lanes)
    ++ codes "\" preserveAspectRatio=\"none\">\n")))

unfoldable pub bars_text : Plant → Table → Window → List ℕ
bars_text p x w =
    field_line w (lane_count p) ++ (flat_map bar_line (bars p x w) ++ codes "</svg>\n")

-- 5: a step of a path, and the path of a count
abbrev pub step_text : Step → List ℕ
step_text s = with_number (codes " H") s.date ++ with_number (codes " V") s.height

unfoldable pub path_text : (ℕ → ℕ) → Window → List ℕ
path_text f w =
    with_number (codes "M") w.from
    ++ (with_number (codes " 0 V") (f w.from)
    ++ (flat_map step_text (steps f w.from w.to)
    ++ (with_number (codes " H") w.to
    ++ codes " V0 Z")))

-- the path of a count, with its class
unfoldable pub class_path : List ℕ → (ℕ → ℕ) → Window → List ℕ
class_path class f w =
    codes "<path class=\"" ++ (class ++ (codes "\" d=\"" ++ (path_text f w ++ codes "\"/>")))

-- the name of an area at this height and its greatest count, and its field in the units of the plant, turned upright
unfoldable pub area_head : List ℕ → ℕ → ℕ → Window → List ℕ
area_head name y most w =
    name_begin (y + 16)
    ++ (name
    ++ (with_number (codes "</text><text class=\"e\" x=\"164\" y=\"") (y + 30)
    ++ (with_number (codes "\">most ") most
    ++ (with_number (codes "</text>\n<svg x=\"170\" y=\"") y
    ++ (with_number (codes "\" width=\"1000\" height=\"40\" viewBox=\"") w.from
    ++ (with_number (codes " 0 ") (span w)
    ++ (with_number (codes " ") most
    ++ (with_number (codes "\" preserveAspectRatio=\"none\"><g transform=\"translate(0 ") most
    ++ codes ") scale(1 -1)\">"))))))))

-- the area of stage i: its parts, and on top those in process or on their way
unfoldable pub stage_area : Plant → Table → Window → ℕ → List ℕ
stage_area p x w i =
    let parts = count_of p x (count.Parts i) in
    area_head (stage_at p i).name (areas_end (lane_count p) i) (most parts w.from w.to) w
    ++ (class_path (codes "n") parts w
    ++ (class_path (codes "p") (count_of p x (count.UnderWay i)) w ++ codes "</g></svg>\n"))

-- the area of the backlog, under those of the stages
unfoldable pub backlog_area : Plant → Table → Window → List ℕ
backlog_area p x w =
    let backlog = count_of p x count.Backlog in
    area_head (codes "backlog") (areas_end (lane_count p) (length p.stages)) (most backlog w.from w.to) w
    ++ (class_path (codes "n") backlog w ++ codes "</g></svg>\n")

-- the picture
unfoldable pub picture : Plant → Table → Window → List ℕ
picture p x w =
    let end = areas_end (lane_count p) (area_count p) in
    head_text end
    ++ (axis_text w end
    ++ (names_text p
    ++ (bars_text p x w
    ++ (flat_map (stage_area p x w) (stage_numbers p) ++ (backlog_area p x w ++ codes "</svg>\n")))))
