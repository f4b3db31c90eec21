use Rattle.line_runs.specs.AllFirings.{all_firings}
use Rattle.line_runs.proofs.LinesOn.{ends_from}
use Rattle.line_runs.proofs.run.run_through.Goals as goal

pub returns-clause-ends : goal.returns-clause-ends
returns-clause-ends g c =
    ends_from (all_firings c.args.live.now.graph) c.args.line c.begin_long-begun.result c.run_to_end.result c.begin_long-begun.ensures c.run_to_end.ensures.bursts
