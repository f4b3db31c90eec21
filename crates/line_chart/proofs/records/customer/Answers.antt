use Rattle.std.proofs.Common.{◌+◌, arith}
use Rattle.std.proofs.lemmas.Bool.{le-leb, lt-leb}
use Rattle.event_graph.specs.Network.{jobs}
use Rattle.line_chart.proofs.records.customer.Goals as goal

pub returns-then-customer-jobs : goal.returns-then-customer-jobs
returns-then-customer-jobs c =
    rw (le-leb (c.args.n + c.args.ahead) (jobs c.args.graph.now) (omega (arith, c.jobs.ensures.count)))

pub returns-else-customer-jobs : goal.returns-else-customer-jobs
returns-else-customer-jobs c =
    rw (lt-leb (c.args.n + c.args.ahead) (jobs c.args.graph.now) (omega (arith, c.jobs.ensures.count)))
