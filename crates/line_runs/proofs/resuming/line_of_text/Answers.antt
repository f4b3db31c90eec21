use Rattle.std.proofs.Common.{subst}
use Rattle.line_base.specs.declared.event.Parts.{Parts}
use Rattle.event_graph.specs.Reached.{Reached}
use Rattle.line_runs.proofs.resuming.line_of_text.Goals as goal

pub returns-in-Ok-clause-stands : goal.returns-in-Ok-clause-stands
returns-in-Ok-clause-stands c =
    let read = c.in_ok-state.ensures in
    record {
      state = c.in_ok-state.state.state;
      reached = subst (λ (g : Parts). Reached g c.in_ok-state.state.state) read.made_for read.reached.reached;
      text = read.text;
      stands = c.in-Ok.ensures.stands;
    }
