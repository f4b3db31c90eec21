use Rattle.std.proofs.Common.{◌++◌, List, ℕ, [], ap, ◌∙◌}
use Rattle.std.specs.Prelude.{codes}
use Rattle.line_base.specs.declared.event.Parts.{Parts}
use Rattle.line_core.proofs.Consistency.{reached_is_consistent}
use Rattle.checkpoint.specs.declared.format.Format.TheVariants.{Differences}
use Rattle.checkpoint.specs.Text.{head_lines, place_lines, station_lines, lines_text}
use Rattle.checkpoint.proofs.FilledTexts.{text_written}
use Rattle.checkpoint.proofs.WrittenTexts.{ok_then}
use Rattle.checkpoint.proofs.kept.KeptText.write.Goals as goal

pub returns-clause-text : goal.returns-clause-text
returns-clause-text g c =
    let r = g.S.AsState.run c.args.state.now in
    let all = reached_is_consistent r.graph r.state c.in_ok-put_stations.ensures.reached.reached in
    let of_graph = c.graph-graph.ensures.graph ∙ c.requires.made_for in
    let head = c.in_ok-put_head.ensures ∙ ap (λ (l : List ℕ). l ++ lines_text Differences (head_lines Differences c.graph-graph.result.now) []) c.clear.ensures.items ∙ ap (λ (h : Parts). lines_text Differences (head_lines Differences h) []) of_graph in
    let logs = c.in_ok-put_stations.ensures.text ∙ ap (λ (h : Parts). c.put_head.new.text.items ++ lines_text Differences (station_lines h) r.state.logs) of_graph in
    ok_then c.put_rest.result c.put_rest.ensures (λ rest.
    text_written r.graph r.state.logs r.state.places c.put_head.new.text.items c.put_stations.new.text.items c.put_rest.new.text.items all.a_log_each all.a_place_each head logs
    (rest ∙ ap (λ (h : Parts). c.put_stations.new.text.items ++ (lines_text Differences (place_lines h) r.state.places ++ codes "end\n")) c.requires.made_for))
