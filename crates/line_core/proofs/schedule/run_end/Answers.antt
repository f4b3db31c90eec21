use Rattle.std.proofs.Common.{◌∙◌, sym}
use Rattle.line_core.proofs.Consistency.{reached_is_consistent}
use Rattle.line_core.proofs.Searches.{is_finished}
use Rattle.line_core.proofs.schedule.run_end.Goals as goal

pub returns-in-None-clause-finished : goal.returns-in-None-clause-finished
returns-in-None-clause-finished c =
    is_finished c.args.state.graph c.args.state.state (reached_is_consistent c.args.state.graph c.args.state.state c.first_unfinished.ensures.reached.reached) (sym c.first_unfinished.ensures.station ∙ c.in-None.is)
