use Rattle.std.proofs.Common.{◌≡◌, ◌∷◌, [], ◌++◌, length, refl, ap, ◌∙◌, arith}
use Rattle.plant_model.specs.Graph.{stage_rows}
use Rattle.plant_model.proofs.RowLists.{rows_more}
use Rattle.line_graph.proofs.rows.rows_of_stages.Goals as goal

pub loop-number-preserved : goal.loop-number-preserved
loop-number-preserved c =
    let rows = stage_rows c.args.layout.now in
    let more = c.in_ok-add_stage_rows.ensures in
    let so_far = c.loop-number.invariant in
    record {
      arcs = more.arcs ∙ rows_more (λ r. r.arc) rows _ _ c.loop-number.number so_far.arcs refl;
      delays = more.delays ∙ rows_more (λ r. r.delay) rows _ _ c.loop-number.number so_far.delays refl;
    }

pub returns : goal.returns
returns c =
    let p = c.args.layout.now in
    let all : c.loop-number.number ≡ length p.stages = omega arith in
    let so_far = c.loop-number.invariant in
    let feed = rw c.deliver.ensures at c.plain_arc.ensures in
    record {
      arcs = rw (← all, ← feed) (c.in_ok-push.ensures.arcs ∙ ap (λ arcs. arcs ++ c.plain_arc.result ∷ []) so_far.arcs);
      delays = rw (← all) (c.in_ok-push.ensures.delays ∙ ap (λ delays. delays ++ 0 ∷ []) so_far.delays);
    }
