use Rattle.std.proofs.Common.{ap, ◌∙◌, arith, length}
use Rattle.line_base.specs.Roomy.{dates_of}
use Rattle.line_core.proofs.PartsLemmas.{long_log-first, long_log-none}
use Rattle.line_core.proofs.parts.check_log.Goals as goal

pub returns-then-have-limit : goal.returns-then-have-limit
returns-then-have-limit c =
    long_log-first c.args.graph.now (dates_of c.args.logs.now) c.args.station _ _ (ap length c.dates_at.ensures) (c.from-limit.ensures ∙ c.jobs.ensures.count) c.if-have-limit.true

pub returns : goal.returns
returns c =
    long_log-none c.args.graph.now (dates_of c.args.logs.now) c.args.station (omega (arith, ap length c.dates_at.ensures, c.from-limit.ensures, c.jobs.ensures.count, c.if-have-limit.false))
