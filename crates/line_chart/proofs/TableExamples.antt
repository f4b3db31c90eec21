-- The text of a table at a small plant, against a text that was written by hand.
use Rattle.std.specs.Prelude.{◌≡◌, ◌++◌, codes, refl}
use Rattle.std.specs.Fmt.{digits}
use Rattle.plant_model.specs.Graph.{graph, labels, rows}
use Rattle.plant_model.proofs.TwoStage.{kanban_line, kanban_dates}
use Rattle.event_graph.specs.Network.{ins, delay}
use Rattle.event_graph.specs.Table.{date_in}
use Rattle.event_graph.specs.GreatestValue.{greatest}
use Rattle.line_chart.specs.Starts.{worked_ins, start}
use Rattle.line_chart.specs.TableText.{job_record, station_records, stage_records, table_text}

-- the parts at `cut` stand behind two parts of starting stock, those at `weld` behind one
table_of_plant :
    table_text kanban_line (date_in kanban_dates)
    ≡ codes "station,job,serves,start,date\n"
    ++ codes "feed,1,1,,0\nfeed,2,2,,2\nfeed,3,3,,4\n"
    ++ codes "cut,1,3,,0\ncut,2,,,5\ncut,3,,,10\n"
    ++ codes "cut.saw,1,3,0,3\ncut.saw,2,,5,8\ncut.saw,3,,10,13\n"
    ++ codes "weld,1,2,,0\nweld,2,3,,5\nweld,3,,,10\n"
    ++ codes "weld.torch,1,2,0,5\nweld.torch,2,3,5,10\nweld.torch,3,,10,15\n"
    ++ codes "deliver,1,1,,0\ndeliver,2,2,,5\ndeliver,3,3,,10\n"
unfolding table_text stage_records station_records job_record start worked_ins ins delay greatest graph labels rows digits
table_of_plant = refl
