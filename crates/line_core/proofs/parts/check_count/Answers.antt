use Rattle.std.proofs.Common.{ap, ◌∙◌, ◌≤◌, ◌+◌, arith, length}
use Rattle.std.proofs.lemmas.Int.{ints}
use Rattle.line_base.specs.declared.event.Arc.{Arc}
use Rattle.line_base.specs.Roomy.{dates_of}
use Rattle.event_graph.specs.Network.{jobs}
use Rattle.line_core.specs.Parts.{list_at}
use Rattle.line_core.proofs.PartsLemmas.{few_from, wrong_count-first, wrong_count-none}
use Rattle.line_core.proofs.parts.check_count.Goals as goal

pub returns-then-have-taken : goal.returns-then-have-taken
returns-then-have-taken c =
    let g = c.args.graph.now in
    let logs = dates_of c.args.logs.now in
    let few_put = few_from g logs c.requires.few c.arc-ends.result.from c.arc-ends.ensures.starts in
    let few_taken = few_from g logs c.requires.few c.arc-ends.result.to c.arc-ends.ensures.ends in
    let few_jobs : jobs g ≤ 20_000 = c.arc-ends.ensures.limits.few_jobs in
    let from = ap length c.dates_at.ensures in
    let to = ap length c.dates_at-taken.ensures in
    wrong_count-first
    g
    logs
    c.args.arc
    c.args.have
    (c.arc-ends.result.tokens + length c.dates_at.result.now)
    (length c.dates_at-taken.result.now)
    _
    (omega (arith, from, ap (λ (x : Arc). x.tokens + length (list_at logs x.from)) c.arc-ends.ensures.arc))
    (to ∙ ap (λ (x : Arc). length (list_at logs x.to)) c.arc-ends.ensures.arc)
    (omega (arith, ints, from, to, few_put, few_taken, few_jobs, c.arc-ends.ensures.tokens))
    c.if-have-taken.true

pub returns : goal.returns
returns c =
    let logs = dates_of c.args.logs.now in
    wrong_count-none c.args.graph.now logs c.args.arc c.args.have (
    omega (arith, ap length c.dates_at.ensures, ap length c.dates_at-taken.ensures, ap (λ (x : Arc). x.tokens + length (list_at logs x.from)) c.arc-ends.ensures.arc, ap (λ (x : Arc). length (list_at logs x.to)) c.arc-ends.ensures.arc, c.if-have-taken.false))
