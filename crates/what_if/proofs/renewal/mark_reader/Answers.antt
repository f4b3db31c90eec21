use Rattle.std.proofs.Common.{◌+◌, ◌<◌, refl, ap, ◌∙◌, arith}
use Rattle.std.proofs.lemmas.Bool.{lt-leb}
use Rattle.line_base.specs.declared.event.Arc.{Arc}
use Rattle.line_base.specs.declared.event.Parts.{Parts}
use Rattle.event_graph.specs.Network.{arc, jobs}
use Rattle.what_if.proofs.renewal.mark_reader.Goals as goal

pub returns-else-job-jobs : goal.returns-else-job-jobs
returns-else-job-jobs c =
    let g = c.args.live.now.graph in
    let graph = c.graph-graph.ensures.graph in
    let is = c.arc-arc.ensures.arc ∙ ap (λ (h : Parts). arc h c.args.a) graph in
    let job = c.args.n + (arc g c.args.a).tokens in
    let past : jobs g < job = omega (arith, ap (λ (x : Arc). x.tokens) is, c.jobs.ensures.count, ap jobs graph) in
    rw (lt-leb job (jobs g) past) refl
