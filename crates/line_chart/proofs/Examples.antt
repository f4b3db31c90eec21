-- The text of a picture of a small plant, against a picture that was written by hand.
use Rattle.std.specs.Prelude.{◌≡◌, ◌++◌, None, codes, refl}
use Rattle.std.specs.Fmt.{digits}
use Rattle.plant_model.specs.Graph.{graph, labels, times, rows}
use Rattle.plant_model.proofs.TwoStage.{kanban_line, kanban_dates}
use Rattle.event_graph.specs.Network.{ins, delay, time}
use Rattle.event_graph.specs.Table.{date_in}
use Rattle.event_graph.specs.GreatestValue.{greatest}
use Rattle.line_stats.specs.Counts.{count_until, in_process, in_move, in_stock, standing, backlog}
use Rattle.line_chart.specs.Starts.{worked_ins, start}
use Rattle.line_chart.specs.Window.{window_of}
use Rattle.line_chart.specs.Axis.{step_from, multiples}
use Rattle.line_chart.specs.Areas.{changes, most}
use Rattle.line_chart.specs.Bars.{lane_count, machines, machine_bars, bars}
use Rattle.line_chart.specs.ChartText.{head_text, axis_line, axis_text, lane_line, lane_lines, names_text, bar_line, field_line, bars_text, path_text, class_path, area_head, stage_area, backlog_area, picture}

picture_of_plant :
    picture kanban_line (date_in kanban_dates) (window_of None 15)
    ≡ codes "<svg xmlns=\"http://www.w3.org/2000/svg\" width=\"1200\" height=\"272\""
    ++ codes " font-family=\"sans-serif\" font-size=\"11\">\n"
    ++ codes "<style>.c0{fill:#4477aa}.c1{fill:#66ccee}.c2{fill:#228833}.c3{fill:#ccbb44}.c4{fill:#ee667"
    ++ codes "7}.c5{fill:#aa3377}.g{stroke:#ccc}.n{fill:#ddd}.p{fill:#999}.e{text-anchor:end}.m{text-anc"
    ++ codes "hor:middle}</style>\n"
    ++ codes "<rect width=\"100%\" height=\"100%\" fill=\"white\"/>\n"
    ++ codes "<line class=\"g\" x1=\"170\" y1=\"36\" x2=\"170\" y2=\"242\"/><text class=\"m\" x=\"170\" y=\"30\">0</text>\n"
    ++ codes "<line class=\"g\" x1=\"303\" y1=\"36\" x2=\"303\" y2=\"242\"/><text class=\"m\" x=\"303\" y=\"30\">2</text>\n"
    ++ codes "<line class=\"g\" x1=\"436\" y1=\"36\" x2=\"436\" y2=\"242\"/><text class=\"m\" x=\"436\" y=\"30\">4</text>\n"
    ++ codes "<line class=\"g\" x1=\"570\" y1=\"36\" x2=\"570\" y2=\"242\"/><text class=\"m\" x=\"570\" y=\"30\">6</text>\n"
    ++ codes "<line class=\"g\" x1=\"703\" y1=\"36\" x2=\"703\" y2=\"242\"/><text class=\"m\" x=\"703\" y=\"30\">8</text>\n"
    ++ codes "<line class=\"g\" x1=\"836\" y1=\"36\" x2=\"836\" y2=\"242\"/><text class=\"m\" x=\"836\" y=\"30\">10</text>\n"
    ++ codes "<line class=\"g\" x1=\"970\" y1=\"36\" x2=\"970\" y2=\"242\"/><text class=\"m\" x=\"970\" y=\"30\">12</text>\n"
    ++ codes "<line class=\"g\" x1=\"1103\" y1=\"36\" x2=\"1103\" y2=\"242\"/><text class=\"m\" x=\"1103\""
    ++ codes " y=\"30\">14</text>\n"
    ++ codes "<text class=\"e\" x=\"164\" y=\"52\">cut.saw</text>\n"
    ++ codes "<text class=\"e\" x=\"164\" y=\"68\">weld.torch</text>\n"
    ++ codes "<svg x=\"170\" y=\"40\" width=\"1000\" height=\"32\" viewBox=\"0 0 15 20\" preserveAspectRatio=\"none\">\n"
    ++ codes "<rect class=\"c1\" x=\"0\" y=\"1\" width=\"3\" height=\"8\"><title>job 1, 0 to 3</title></rect>\n"
    ++ codes "<rect class=\"c2\" x=\"5\" y=\"1\" width=\"3\" height=\"8\"><title>job 2, 5 to 8</title></rect>\n"
    ++ codes "<rect class=\"c3\" x=\"10\" y=\"1\" width=\"3\" height=\"8\"><title>job 3, 10 to 13</title></rect>\n"
    ++ codes "<rect class=\"c1\" x=\"0\" y=\"11\" width=\"5\" height=\"8\"><title>job 1, 0 to 5</title></rect>\n"
    ++ codes "<rect class=\"c2\" x=\"5\" y=\"11\" width=\"5\" height=\"8\"><title>job 2, 5 to 10</title></rect>\n"
    ++ codes "<rect class=\"c3\" x=\"10\" y=\"11\" width=\"5\" height=\"8\"><title>job 3, 10 to 15</title></rect>\n"
    ++ codes "</svg>\n"
    ++ codes "<text class=\"e\" x=\"164\" y=\"108\">cut</text><text class=\"e\" x=\"164\" y=\"122\">most 1</text>\n"
    ++ codes "<svg x=\"170\" y=\"92\" width=\"1000\" height=\"40\" viewBox=\"0 0 15 1\""
    ++ codes " preserveAspectRatio=\"none\"><g transform=\"translate(0 1) scale(1 -1)\"><path class=\"n\""
    ++ codes " d=\"M0 0 V1 H15 V0 Z\"/><path class=\"p\" d=\"M0 0 V1 H3 V0 H5 V1 H8 V0 H10 V1 H13 V0 H15 V0"
    ++ codes " Z\"/></g></svg>\n"
    ++ codes "<text class=\"e\" x=\"164\" y=\"158\">weld</text><text class=\"e\" x=\"164\" y=\"172\">most 1</text>\n"
    ++ codes "<svg x=\"170\" y=\"142\" width=\"1000\" height=\"40\" viewBox=\"0 0 15 1\""
    ++ codes " preserveAspectRatio=\"none\"><g transform=\"translate(0 1) scale(1 -1)\"><path class=\"n\""
    ++ codes " d=\"M0 0 V1 H15 V0 Z\"/><path class=\"p\" d=\"M0 0 V1 H15 V0 Z\"/></g></svg>\n"
    ++ codes "<text class=\"e\" x=\"164\" y=\"208\">backlog</text><text class=\"e\" x=\"164\" y=\"222\">most 2</text>\n"
    ++ codes "<svg x=\"170\" y=\"192\" width=\"1000\" height=\"40\" viewBox=\"0 0 15 2\""
    ++ codes " preserveAspectRatio=\"none\"><g transform=\"translate(0 2) scale(1 -1)\"><path class=\"n\""
    ++ codes " d=\"M0 0 V0 H2 V1 H4 V2 H5 V1 H10 V0 H15 V0 Z\"/></g></svg>\n"
    ++ codes "</svg>\n"
unfolding picture head_text axis_text axis_line multiples step_from names_text lane_lines lane_line bars_text field_line bars machine_bars machines lane_count bar_line stage_area backlog_area area_head class_path path_text changes most greatest standing in_process in_move in_stock backlog count_until start worked_ins ins delay time graph labels times rows digits
picture_of_plant = refl
