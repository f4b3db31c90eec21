use Rattle.std.proofs.Common.{set, sym, ap, ◌∙◌}
use Rattle.std.proofs.lemmas.List.Edits.{map_over_more}
use Rattle.line_worker.specs.Cleared.{cleared_worker}
use Rattle.line_workers.proofs.clearing.clear_workers.Goals as goal

pub loop-worker-preserved : goal.loop-worker-preserved
loop-worker-preserved c =
    let old = c.args.workers.now in
    let now = c.loop-worker.workers in
    let k = c.loop-worker.worker-index in
    let worker = c.worker-item.result in
    ap (set now k) (c.clear_turns.ensures ∙ ap cleared_worker (sym c.worker-item.is))
    ∙ map_over_more cleared_worker old now k worker c.loop-worker-test.true c.loop-worker.invariant c.worker-item.is
