use Rattle.std.proofs.Common.{◌++◌, ◌≤◌, ◌<◌, length, refl, sym, ap, ◌∙◌, arith, append_assoc}
use Rattle.event_graph.specs.Network.{arc_count}
use Rattle.line_core.specs.Parts.{list_at}
use Rattle.checkpoint.specs.declared.format.Format.TheVariants.{Differences}
use Rattle.checkpoint.specs.Text.{dates_text, place_lines, place_words, lines_text}
use Rattle.checkpoint.proofs.WrittenTexts.{length-place_lines, place_line_at, line_step, lines_end}
use Rattle.checkpoint.proofs.writer.put_places.Goals as goal

pub loop-a-preserved : goal.loop-a-preserved
loop-a-preserved h c =
    let g = c.args.live.now.graph in
    let a = c.loop-a.a in
    let places = (h.S.AsState.run c.args.state.now).state.places in
    let there : a < arc_count g = omega (arith, ap length c.arcs.ensures.arcs, ap (λ p. length p.arcs) c.graph.ensures.graph, c.loop-a-test.true) in
    let low : a < length (place_lines g) = omega (arith, there, length-place_lines g) in
    let written = c.in_ok-put_place.ensures ∙ sym (append_assoc c.loop-a.text.items (place_words a) (dates_text Differences (list_at places a))) in
    line_step Differences (place_lines g) places a (place_words a) c.loop-a.text.items _ c.put_place.new.text.items (c.args.text.now.items ++ lines_text Differences (place_lines g) places) low (place_line_at g a there) c.loop-a.invariant refl written

pub returns : goal.returns
returns h c =
    let g = c.args.live.now.graph in
    let past : length (place_lines g) ≤ c.loop-a.a = omega (arith, ap length c.arcs.ensures.arcs, ap (λ p. length p.arcs) c.graph.ensures.graph, c.loop-a-test.false, length-place_lines g) in
    lines_end Differences (place_lines g) (h.S.AsState.run c.args.state.now).state.places c.loop-a.a c.loop-a.text.items _ past c.loop-a.invariant
